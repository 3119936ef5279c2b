-- From what the code does to what the program does.
use Rattle.std.proofs.Common.{◌≡◌, ◌≤◌, inl, inr, ℕ, zero, suc, ◌+◌, ◌*◌, List, [], ◌∷◌, slice_get, Option, Some, None, Bool, true, false, refl, sym, ap, ◌∙◌, subst, arith}
use Rattle.std.specs.Prelude.{IfSome}
use Rattle.std.specs.Option.{is_some}
use Rattle.std.proofs.lemmas.Option.{same_Some}
use Rattle.aud_text.specs.declared.limits.Limits.{Limits}
use Rattle.aud_typed.specs.declared.program.Exception.{Exception}
use Rattle.aud_typed.specs.declared.program.Program.{Program}
use Rattle.aud_typed.specs.Ties.View.{plain_program}
use Rattle.aud_typed.specs.Tree as tree
use Rattle.aud_typed.specs.Why.Scoped.{HaveDistinctEntries}
use Rattle.aud_meaning.specs.declared.state.State.{State}
use Rattle.aud_meaning.specs.declared.state.Move.{Move}
use Rattle.aud_meaning.specs.Configuration.{Own, Shared, TaskAt, All, Configuration}
use Rattle.aud_meaning.specs.Control.{Controls, Seen}
use Rattle.aud_meaning.specs.Statements.{controls}
use Rattle.aud_meaning.specs.Parts.{owns}
use Rattle.aud_meaning.specs.Run.{seen_from, moves_at, state_at, step_with, run_with, moves_in, state_in, step, run, opening, opening_with, main_raised, supplied, advanced}
use Rattle.aud_meaning.specs.Why.Limits.{IsWithin, KeepsLimits}
use Rattle.aud_meaning.proofs.Limits.Steps.{limits_law}
use Rattle.aud_code.specs.Places.{Spot}
use Rattle.aud_code.specs.Flat.{Flat, flat_controls, start_at}
use Rattle.aud_code.specs.Sound.{IsStart}
use Rattle.aud_code.specs.Starts.{AreSpots}
use Rattle.aud_expr.specs.Size.{size}
use Rattle.aud_layout.specs.Assembly.{flat_program}
use Rattle.aud_layout.specs.Law.{flat}
use Rattle.aud_layout.specs.Law as code
use Rattle.aud_layout.proofs.Flat.Laws.{seen_law, moves_law, state_law, step_law, run_law, supply_law, advance_law, opening_law, raised_law}
use Rattle.aud_over.specs.Over.{is_named, is_served, frames_left, calls_left, forgotten, with_kept}
use Rattle.aud_over.specs.Looks.{Looks}
use Rattle.aud_over.specs.Law.{IsOneOf}
use Rattle.aud_over.proofs.Coding.{code_looks}
use Rattle.aud_over.proofs.Left.{moves_left, state_left, step_left, run_left}
use Rattle.aud_tasks.specs.declared.run.Ran.{Ran}
use Rattle.aud_tasks.specs.Counting.{most_of_barriers, step_ticks, Counts}
use Rattle.aud_tasks.specs.Running.{RunsLeaving, Takes, Took}
use Rattle.aud_tasks.proofs.Running.Taking.{within_kept}
use Rattle.aud_machine.specs.Shown.{Shown}
use Rattle.aud_machine.specs.Shows.{Shows, Did, RunsFrom}
use Rattle.aud_machine.specs.Shows as shown
use Rattle.aud_machine.proofs.Counted.{at_most_twice}

-- What is seen of all tasks are their own parts.
pub owns_seen : {C : Type 0} (plan : tree.Plan) (k : Controls C) (i : ℕ) (ts : List (TaskAt C)) (os : List Own) (shared : Shared) → owns (seen_from plan k i ts os shared) ≡ owns ts
owns_seen plan k i [] os shared = refl
owns_seen plan k i (t ∷ ts) os shared = ap (λ xs. t.own ∷ xs) (owns_seen plan k (suc i) ts os shared)

-- what is left of what all share
abbrev left_of : List Own → Shared → Shared
left_of os s = record s { frames = frames_left (is_named os s.objects) 0 s.frames; calls = calls_left (is_served os) 0 s.calls }

-- a move of an index is one of the moves
one_of : (nth : ℕ) (ms : List Move) (m : Move) → slice_get ms nth ≡ Some m → IsOneOf m ms
one_of nth [] m at = absurd cc
one_of zero (x ∷ ms) m at = inl (sym (same_Some x m at))
one_of (suc nth) (x ∷ ms) m at = inr (one_of nth ms m at)

-- behind a move that was taken frames and calls may have been forgotten
pub record Forgets (taken : Option Ran) (old new : All Spot) : Type 0 where
  pub left : forgotten new ≡ forgotten old
  pub others : new ≡ with_kept new.shared.frames new.shared.calls old
  pub none : taken ≡ None → new ≡ old

pub forgot : (taken : Option Ran) (old new : All Spot) → is_some taken ≡ true → forgotten new ≡ forgotten old → new ≡ with_kept new.shared.frames new.shared.calls old → Forgets taken old new
forgot None old new some left others = absurd cc
forgot (Some ran) old new some left others = record { left = left; others = others; none = λ none. absurd cc }

pub nothing_forgot : (taken : Option Ran) (c : All Spot) → Forgets taken c c
nothing_forgot taken c = record { left = refl; others = refl; none = λ none. refl }

module _ (p : Program) (lines : Flat) (is : lines ≡ flat_program (plain_program p)) where
  abbrev program : tree.Program
  program = plain_program p

  abbrev K : Controls Spot
  K = flat_controls program.plan lines

  looks : Looks K
  looks = code_looks program.plan lines

  pub opening_shown : (m : All Spot) → m ≡ opening_with program.plan p.name (K.begins 0) → code.Shows program m (opening program)
  opening_shown m told =
      let there = told ∙ ap (λ x. opening_with program.plan p.name ((flat_controls program.plan x).begins 0)) is in
      subst (λ a. code.Shows program a (opening program)) (sym there) (opening_law program)

  module _ (limits : Limits) where
    -- a machine of this program
    abbrev machine : Bool → All Spot → Shown
    machine spent m = record { program = p; code = lines; limits = limits; all = m; spent = spent }

    -- What it shows.
    module _ (spent : Bool) (m : All Spot) (c : Configuration) (h : Shows (machine spent m) c) where
      pub state_shown : (s : State) → s ≡ state_at program.plan K m → s ≡ state_in program c
      state_shown s told =
          told
          ∙ sym (state_left program.plan K looks h.through m h.left)
          ∙ ap (λ x. state_at program.plan (flat_controls program.plan x) h.through) is
          ∙ state_law program h.through c h.all

      moves_shown : moves_at program.plan K m ≡ moves_in program c
      moves_shown =
          sym (moves_left program.plan K looks h.through m h.left)
          ∙ ap (λ x. moves_at program.plan (flat_controls program.plan x) h.through) is
          ∙ moves_law program h.through c h.all

      pub moves_listed : (ms : List Move) → ms ≡ moves_at program.plan K m → ms ≡ moves_in program c
      moves_listed ms told = told ∙ moves_shown

      -- the exception that left the main procedure
      pub raised_shown : (raised : Option Exception) → raised ≡ main_raised m.tasks → raised ≡ main_raised c.tasks
      raised_shown raised told = told ∙ sym (ap (λ (a : All Spot). main_raised a.tasks) h.left) ∙ raised_law program h.through c h.all

      owns_through : owns h.through.tasks ≡ owns c.tasks
      owns_through =
          sym (owns_seen program.plan (flat program) 0 h.through.tasks (owns h.through.tasks) h.through.shared)
          ∙ ap (λ (s : All Seen). owns s.tasks) (seen_law program h.through c h.all)
          ∙ owns_seen program.plan (controls program) 0 c.tasks (owns c.tasks) c.shared

      -- what all tasks have by themselves
      pub owns_shown : owns m.tasks ≡ owns c.tasks
      owns_shown = sym (ap (λ (a : All Spot). owns a.tasks) h.left) ∙ owns_through

      -- what they share, but for what is over
      pub shared_shown : (forgotten m).shared ≡ (forgotten c).shared
      shared_shown =
          sym (ap (λ (a : All Spot). a.shared) h.left)
          ∙ ap (λ os. left_of os h.through.shared) owns_through
          ∙ ap (left_of (owns c.tasks)) h.all.shared

      steps_shown : m.steps ≡ c.steps
      steps_shown = sym (ap (λ (a : All Spot). a.steps) h.left) ∙ h.all.steps

    -- What is done to it.
    module _ (spent : Bool) (m : All Spot) (c : Configuration) (h : Shows (machine spent m) c) where
      pub supplied_shown : (choices : List ℕ) (new : All Spot) → new ≡ supplied choices m → Shows (machine false new) (supplied choices c)
      supplied_shown choices new told = record {
        alive = refl;
        through = supplied choices h.through;
        all = supply_law program choices h.through c h.all;
        left = ap (λ (a : All Spot). supplied choices a) h.left ∙ ap (λ (a : All Spot). forgotten a) (sym told);
      }

      pub advanced_shown : (milliseconds : ℕ) (new : All Spot) → new ≡ advanced milliseconds m → Shows (machine spent new) (advanced milliseconds c)
      advanced_shown milliseconds new told = record {
        alive = h.alive;
        through = advanced milliseconds h.through;
        all = advance_law program milliseconds h.through c h.all;
        left = ap (λ (a : All Spot). advanced milliseconds a) h.left ∙ ap (λ (a : All Spot). forgotten a) (sym told);
      }

      -- it is run
      module _ (n : ℕ) (new : All Spot) (ran : Ran) (r : RunsLeaving program.plan lines limits n m new ran) where
        goes_on : Shows (machine false new) (run limits program n c)
        goes_on = record {
          alive = refl;
          through = run_with program.plan K limits n h.through;
          all = subst (λ x. code.Shows program (run_with program.plan (flat_controls program.plan x) limits n h.through) (run limits program n c)) (sym is) (run_law limits program n h.through c h.all);
          left = run_left program.plan K looks limits n h.through m h.left ∙ sym r.left;
        }

        pub runs_shown : RunsFrom limits program n c (machine false new) ran
        runs_shown = record {
          shows = goes_on;
          did = record {
            steps = ap (λ k. ran.steps + k) (sym (steps_shown spent m c h)) ∙ r.steps ∙ steps_shown false new (run limits program n c) goes_on;
            state = state_shown false new (run limits program n c) goes_on ran.state r.state;
          };
        }

      -- it takes a move
      module _ (move : Move) (mid : All Spot) (ran : Ran) (took : Took program.plan lines limits move m mid ran) (enabled : IsOneOf move (moves_at program.plan K m)) where
        there : Shows (machine false mid) (step limits program c move)
        there = record {
          alive = refl;
          through = step_with program.plan K limits h.through move;
          all = subst (λ x. code.Shows program (step_with program.plan (flat_controls program.plan x) limits h.through move) (step limits program c move)) (sym is) (step_law limits program h.through c move h.all);
          left =
              step_left program.plan K looks limits h.through m move h.left (subst (λ ms. IsOneOf move ms) (sym (moves_left program.plan K looks h.through m h.left)) enabled)
              ∙ ap (λ (a : All Spot). forgotten a) (sym took.next);
        }

        step_did : Did program ran c (step limits program c move)
        step_did =
            let before = steps_shown spent m c h in
            let behind = steps_shown false mid (step limits program c move) there in
            record {
              steps = omega (arith, took.one, took.steps, before, behind);
              state = state_shown false mid (step limits program c move) there ran.state took.state;
            }

      -- which is that of its index; where there is none, nothing has changed
      module _ (nth : ℕ) (mid new : All Spot) (taken : Option Ran) (forgets : Forgets taken mid new) where
        taken_by : (o : Option Move) → slice_get (moves_at program.plan K m) nth ≡ o → Takes program.plan lines limits o m mid taken → shown.Takes limits program c o (machine spent m) (machine false new) taken
        taken_by None at told = (told.0, ap (machine false) (forgets.none told.0 ∙ told.1) ∙ ap (λ b. machine b m) (sym h.alive))
        taken_by (Some move) at told =
            let enabled = one_of nth (moves_at program.plan K m) move at in
            let shows = there move mid told.0 told.2 enabled in
            (told.0, told.1, record { alive = refl; through = shows.through; all = shows.all; left = shows.left ∙ sym forgets.left }, step_did move mid told.0 told.2 enabled)

        pub taken_shown : Takes program.plan lines limits (slice_get (moves_at program.plan K m) nth) m mid taken → shown.Takes limits program c (slice_get (moves_in program c) nth) (machine spent m) (machine false new) taken
        taken_shown told = subst (λ ms. shown.Takes limits program c (slice_get ms nth) (machine spent m) (machine false new) taken) (moves_shown spent m c h) (taken_by (slice_get (moves_at program.plan K m) nth) refl told)

-- its instructions
abbrev Few : Flat → Option Ran → Type 0
Few lines taken = IfSome taken (λ ran. ran.ticks ≤ 2 * size lines)

pub few_taken : (plan : tree.Plan) (lines : Flat) (limits : Limits) (o : Option Move) (old new : All Spot) (taken : Option Ran) → HaveDistinctEntries plan.objects → Takes plan lines limits o old new taken → Few lines taken
few_taken plan lines limits None old new None distinct told = tt
few_taken plan lines limits None old new (Some ran) distinct told = absurd (cc (told.0))
few_taken plan lines limits (Some m) old new taken distinct told =
    let twice = at_most_twice plan lines distinct in
    let few = told.2.few in
    subst (λ (r : Option Ran). Few lines r) (sym told.1) (omega (arith, few, twice))

abbrev Counted : tree.Plan → Flat → Option Move → All Spot → Option Ran → Type 0
Counted plan lines o old taken = IfSome taken (λ ran. IfSome o (λ m. Counts (step_ticks plan lines old m) (most_of_barriers plan lines) ran.ticks))

pub counted_taken : (plan : tree.Plan) (lines : Flat) (limits : Limits) (o : Option Move) (old new : All Spot) (taken : Option Ran) → Takes plan lines limits o old new taken → Counted plan lines o old taken
counted_taken plan lines limits None old new None told = tt
counted_taken plan lines limits None old new (Some ran) told = tt
counted_taken plan lines limits (Some m) old new taken told = subst (λ (r : Option Ran). Counted plan lines (Some m) old r) (sym told.1) told.2.counts

-- The limits hold of what it does.
module _ (plan : tree.Plan) (lines : Flat) (limits : Limits) where
  keeps : KeepsLimits Spot plan (flat_controls plan lines) limits
  keeps = limits_law plan (flat_controls plan lines) limits

  pub within_opening : (name : List ℕ) (m : All Spot) → m ≡ opening_with plan name ((flat_controls plan lines).begins 0) → 1 ≤ limits.tasks → IsWithin Spot limits m
  within_opening name m told one = subst (IsWithin Spot limits) (sym told) (keeps.opening name ((flat_controls plan lines).begins 0) one)

  within_step : (o : Option Move) (old mid : All Spot) (taken : Option Ran) → Takes plan lines limits o old mid taken → IsWithin Spot limits old → IsWithin Spot limits mid
  within_step None old mid taken told h = subst (IsWithin Spot limits) (sym told.1) h
  within_step (Some m) old mid taken told h = subst (IsWithin Spot limits) (sym told.2.next) (keeps.step old m h)

  pub within_taken : (o : Option Move) (old mid new : All Spot) (taken : Option Ran) → Takes plan lines limits o old mid taken → Forgets taken mid new → IsWithin Spot limits old → IsWithin Spot limits new
  within_taken o old mid new taken told forgets h =
      subst (IsWithin Spot limits) (sym forgets.others) (within_kept plan lines limits new.shared.frames new.shared.calls mid (within_step o old mid taken told h))

  pub within_supplied : (choices : List ℕ) (old new : All Spot) → new ≡ supplied choices old → IsWithin Spot limits old → IsWithin Spot limits new
  within_supplied choices old new told h = subst (IsWithin Spot limits) (sym told) (keeps.supply choices old h)

  pub within_advanced : (milliseconds : ℕ) (old new : All Spot) → new ≡ advanced milliseconds old → IsWithin Spot limits old → IsWithin Spot limits new
  within_advanced milliseconds old new told h = subst (IsWithin Spot limits) (sym told) (keeps.wait milliseconds old h)

-- where frames and calls were forgotten, tasks stand where they stood
pub spots_stay : (code : Flat) (taken : Option Ran) (old new : All Spot) → Forgets taken old new → AreSpots code.lines old.tasks → AreSpots code.lines new.tasks
spots_stay code taken old new forgets spots = subst (λ (a : All Spot). AreSpots code.lines a.tasks) (sym forgets.others) spots

-- A program stands where a step begins before its first one.
pub opening_spots : (plan : tree.Plan) (code : Flat) (name : List ℕ) (m : All Spot) (first : ℕ) → first ≡ start_at code 0 → IsStart code.lines first → m ≡ opening_with plan name ((flat_controls plan code).begins 0) → AreSpots code.lines m.tasks
opening_spots plan code name m first at begins told =
    subst (λ (a : All Spot). AreSpots code.lines a.tasks) (sym told) (record { place = inl (subst (IsStart code.lines) at begins); returns = tt }, tt)
