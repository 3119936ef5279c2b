-- Runs, one step after the other.
use Rattle.std.proofs.Common.{◌≡◌, ◌<◌, ◌≤◌, ◌+◌, ◌-◌, ◌*◌, ℕ, zero, suc, List, [], ◌∷◌, ◌++◌, length, slice_get, Option, Some, None, Result, Bool, true, false, refl, ap, sym, subst, ◌∙◌, arith}
use Rattle.std.specs.Prelude.{◌%◌, drop}
use Rattle.std.specs.Option.{unwrap_or}
use Rattle.std.proofs.lemmas.Option.{get_or_from_slice_get, same_Some}
use Rattle.std.proofs.Math.Nat.{mod-lt}
use Rattle.aud_text.specs.declared.raise.Raise.{Raise}
use Rattle.aud_text.specs.declared.limits.Limits.{Limits}
use Rattle.aud_typed.specs.Tree.{Plan}
use Rattle.aud_meaning.specs.declared.state.Move.{Move}
use Rattle.aud_meaning.specs.Configuration.{Call, Frame, Own, Shared, TaskAt, All}
use Rattle.aud_meaning.specs.Evaluation.{Sight}
use Rattle.aud_meaning.specs.Control.{Controls, Seen}
use Rattle.aud_meaning.specs.Parts.{owns}
use Rattle.aud_meaning.specs.Run.{turn, turn_moves, moves_from, moves_by, has_ended, moves_at, state_at, seen, seen_from, run_by, run_with, step_of, step_with, take_by, take_one}
use Rattle.aud_meaning.specs.Why.Limits.{IsWithin}
use Rattle.aud_meaning.proofs.Limits.Steps.{limits_law}
use Rattle.aud_code.specs.Places.{Spot}
use Rattle.aud_code.specs.Flat.{Flat, flat_controls}
use Rattle.aud_code.specs.Starts.{AreSpots}
use Rattle.aud_over.specs.Over.{forgotten, with_kept}
use Rattle.aud_over.proofs.Coding.{code_looks}
use Rattle.aud_over.proofs.Left.{run_left}
use Rattle.aud_tasks.specs.declared.run.Ran.{Ran}
use Rattle.aud_tasks.specs.Counting.{most_of_barriers, most_ticks, step_ticks, Counts}
use Rattle.aud_tasks.specs.Running.{RunsLeaving, Takes, RunsOn, IsUnchosen, Picks, Chooses}
use Rattle.aud_tasks.proofs.Running.Executing.{chosen_ticks, counts_then, unchosen_ticks, RunCounts}
use Rattle.aud_tasks.proofs.Running.Still.{moves_unchosen}
use Rattle.aud_tasks.proofs.Running.Whose.{AreOf, moves_of}

-- the first of some
headed : (ms : List Move) (m : Move) → slice_get ms 0 ≡ Some m → ms ≡ m ∷ drop 1 ms
headed [] m h = absurd cc
headed (x ∷ ms) m h = ap (λ o. unwrap_or o x ∷ ms) h

none_of : (ms : List Move) → slice_get ms 0 ≡ None → ms ≡ []
none_of [] h = refl
none_of (x ∷ ms) h = absurd cc

none_behind : {A : Type 0} (xs : List A) (n : ℕ) → slice_get xs n ≡ None → length xs ≤ n
none_behind [] n h = omega arith
none_behind (x ∷ xs) zero h = absurd cc
none_behind (x ∷ xs) (suc n) h = let e = none_behind xs n h in omega (arith, e)

-- where there is no other
few_behind : (ms : List Move) → length ms ≤ 1 → drop 1 ms ≡ []
few_behind [] few = refl
few_behind (x ∷ []) few = refl
few_behind (x ∷ y ∷ ms) few = absurd (omega (arith, few))

not_alone : (ms : List Move) (m : Move) → ms ≡ m ∷ drop 1 ms → ¬ (length ms ≡ 1) → ¬ (drop 1 ms ≡ [])
not_alone ms m is more none = let one = ap length is ∙ ap (λ l. length (m ∷ l)) none in more one

-- None waits, or there are no others.

pub nothing_chosen : (ms : List Move) → length ms ≤ 1 → (choices : List ℕ) → IsUnchosen (drop 1 ms) choices
nothing_chosen ms few choices = subst (λ l. IsUnchosen l choices) (sym (few_behind ms few)) tt

pub nothing_waits : (ms : List Move) (choices : List ℕ) → length choices ≡ 0 → IsUnchosen ms choices
nothing_waits [] choices none = tt
nothing_waits (m ∷ ms) [] none = tt
nothing_waits (m ∷ ms) (choice ∷ choices) none = absurd (omega (arith, none))

-- Below which number the tasks are.

abbrev AreBelow : ℕ → List Move → Type 0
AreBelow n [] = Unit {0}
AreBelow n (m ∷ ms) = (m.task < n) × AreBelow n ms

below_of : (n bound : ℕ) → n < bound → (ms : List Move) → AreOf n ms → AreBelow bound ms
below_of n bound within [] h = tt
below_of n bound within (m ∷ ms) h = (omega (arith, within, h.0), below_of n bound within ms h.1)

below_both : (bound : ℕ) (ms ns : List Move) → AreBelow bound ms → AreBelow bound ns → AreBelow bound (ms ++ ns)
below_both bound [] ns h g = g
below_both bound (m ∷ ms) ns h g = (h.0, below_both bound ms ns h.1 g)

below_at : (bound : ℕ) (ms : List Move) (i : ℕ) (m : Move) → AreBelow bound ms → slice_get ms i ≡ Some m → m.task < bound
below_at bound [] i m h at = absurd cc
below_at bound (x ∷ ms) zero m h at = subst (λ (y : Move). y.task < bound) (same_Some x m at) h.0
below_at bound (x ∷ ms) (suc i) m h at = below_at bound ms i m h.1 at

module _ (plan : Plan) (barrier : ℕ → Sight → Result Bool Raise) where
  below_from : (bound n : ℕ) (ts : List (TaskAt Seen)) (c : All Seen) → n + length ts ≤ bound → AreBelow bound (moves_from plan barrier n ts c)
  below_from bound n [] c within = tt
  below_from bound n (t ∷ ts) c within =
      below_both bound (turn_moves plan barrier (turn plan barrier n t c) n c) (moves_from plan barrier (suc n) ts c)
      (below_of n bound (omega (arith, within)) (turn_moves plan barrier (turn plan barrier n t c) n c) (moves_of plan barrier (turn plan barrier n t c) n c))
      (below_from bound (suc n) ts c (omega (arith, within)))

  below_by : (ended cut : Bool) (c : All Seen) → AreBelow (length c.tasks) (moves_by plan barrier ended cut c)
  below_by true cut c = tt
  below_by false true c = tt
  below_by false false c = below_from (length c.tasks) 0 c.tasks c (omega arith)

module _ (plan : Plan) (code : Flat) where
  abbrev K : Controls Spot
  K = flat_controls plan code

  as_many : (i : ℕ) (ts : List (TaskAt Spot)) (os : List Own) (shared : Shared) → length (seen_from plan K i ts os shared) ≡ length ts
  as_many i [] os shared = refl
  as_many i (t ∷ ts) os shared = ap suc (as_many (suc i) ts os shared)

  -- a move is one of a task
  pub move_there : (c : All Spot) (i : ℕ) (m : Move) → slice_get (moves_at plan K c) i ≡ Some m → m.task < length c.tasks
  move_there c i m at =
      let s = seen plan K c in
      subst (λ l. m.task < l) (as_many 0 c.tasks (owns c.tasks) c.shared)
      (below_at (length s.tasks) (moves_at plan K c) i m (below_by plan K.barrier (has_ended plan K.barrier s.tasks) s.shared.cut s) at)

module _ (plan : Plan) (code : Flat) (limits : Limits) where
  abbrev C : Controls Spot
  C = flat_controls plan code

  -- and counts as a step
  counted : (c : All Spot) (m : Move) → m.task < length c.tasks → (o : Option (TaskAt Spot)) → slice_get c.tasks m.task ≡ o → (step_of plan C limits o m c).steps ≡ suc c.steps
  counted c m within None at = let behind = none_behind c.tasks m.task at in absurd (omega (arith, within, behind))
  counted c m within (Some t) at = refl

  pub step_counted : (c : All Spot) (m : Move) → m.task < length c.tasks → (step_with plan C limits c m).steps ≡ suc c.steps
  step_counted c m within = counted c m within (slice_get c.tasks m.task) refl

  -- Which move is taken.

  unchosen_by : (m x : Move) (ms : List Move) (choices : List ℕ) (c : All Spot) → IsUnchosen (x ∷ ms) choices → take_by plan C limits m (m ∷ x ∷ ms) choices c ≡ step_with plan C limits c m
  unchosen_by m x ms [] c h = refl
  unchosen_by m x ms (choice ∷ choices) c h = absurd h

  pub unchosen_taken : (m : Move) (ms : List Move) (c : All Spot) → IsUnchosen ms c.choices → take_one plan C limits m ms c ≡ step_with plan C limits c m
  unchosen_taken m [] c h = refl
  unchosen_taken m (x ∷ ms) c h = unchosen_by m x ms c.choices c h

  chosen_taken : (m : Move) (ms : List Move) (choice : ℕ) (choices : List ℕ) (n : Move) (c : All Spot) → ¬ (ms ≡ []) → c.choices ≡ choice ∷ choices → slice_get (m ∷ ms) (choice % length (m ∷ ms)) ≡ Some n →
      take_one plan C limits m ms c ≡ step_with plan C limits (record c { choices = choices }) n
  chosen_taken m [] choice choices n c some e h = absurd (some refl)
  chosen_taken m (x ∷ ms) choice choices n c some e h =
      ap (λ l. take_by plan C limits m (m ∷ x ∷ ms) l c) e
      ∙ ap (step_with plan C limits (record c { choices = choices })) (get_or_from_slice_get (m ∷ x ∷ ms) (choice % length (m ∷ x ∷ ms)) n m h)

  -- Steps one after the other.

  pub no_steps : (c : All Spot) → RunsOn plan code limits 0 c c
  no_steps c = λ n. let none : 0 + n ≡ n = omega arith in ap (λ j. run_with plan C limits j c) none

  pub then_on : (k j : ℕ) (old there new : All Spot) → RunsOn plan code limits k old there → RunsOn plan code limits j there new → RunsOn plan code limits (k + j) old new
  then_on k j old there new first second = λ n.
      let both : k + j + n ≡ k + (j + n) = omega arith in
      ap (λ m. run_with plan C limits m old) both ∙ first (j + n) ∙ second n

  -- the move that is picked is taken
  pub one_on : (old new : All Spot) (first : Move) (others : List Move) → moves_at plan C old ≡ first ∷ others → take_one plan C limits first others old ≡ new → RunsOn plan code limits 1 old new
  one_on old new first others moves taken = λ j.
      let one : 1 + j ≡ suc j = omega arith in
      ap (λ m. run_with plan C limits m old) one
      ∙ ap (λ ms. run_by plan C limits (run_with plan C limits j) ms old) moves
      ∙ ap (run_with plan C limits j) taken

  pub step_on : (old mid new : All Spot) (m : Move) → Picks plan code m old mid → new ≡ step_with plan C limits mid m → RunsOn plan code limits 1 old new
  step_on old mid new m picks next = one_on old new picks.first picks.others picks.moves (picks.taken limits ∙ sym next)

  -- it is counted, where a choice is used up or not
  pub steps_on : (old mid new : All Spot) (m : Move) → Picks plan code m old mid → new ≡ step_with plan C limits mid m → new.steps ≡ suc old.steps
  steps_on old mid new m picks next =
      ap (λ (c : All Spot). c.steps) next
      ∙ step_counted mid m (subst (λ (c : All Spot). m.task < length c.tasks) (sym picks.kept) picks.there)
      ∙ ap (λ (c : All Spot). suc c.steps) picks.kept

  pub ends : (j : ℕ) (c : All Spot) → moves_at plan C c ≡ [] → run_with plan C limits j c ≡ c
  ends zero c none = refl
  ends (suc j) c none = ap (λ ms. run_by plan C limits (run_with plan C limits j) ms c) none

  pub none_left : (left : ℕ) (c : All Spot) → left ≡ 0 → run_with plan C limits left c ≡ c
  none_left left c none = ap (λ j. run_with plan C limits j c) none

  -- A run under way, of at most n steps.
  pub record RunsSoFar (n : ℕ) (old new : All Spot) (steps ticks : ℕ) : Type 0 where
    pub leads : (k : ℕ) → forgotten (run_with plan C limits (steps + k) old) ≡ forgotten (run_with plan C limits k new)
    pub within : steps ≤ n
    pub spots : AreSpots code.lines new.tasks
    pub steps_taken : steps + old.steps ≡ new.steps
    pub few : ticks ≤ steps * most_ticks plan code
    pub counts : RunCounts plan code limits steps old ticks
    pub kept : IsWithin Spot limits old → IsWithin Spot limits new

  -- steps keep the limits
  pub on_within : (k : ℕ) (old new : All Spot) → RunsOn plan code limits k old new → IsWithin Spot limits old → IsWithin Spot limits new
  on_within k old new on h = subst (IsWithin Spot limits) (on 0) ((limits_law plan C limits).run (k + 0) old h)

  pub within_kept : (frames : List Frame) (calls : List Call) (c : All Spot) → IsWithin Spot limits c → IsWithin Spot limits (with_kept frames calls c)
  within_kept frames calls c h = record { tasks = h.tasks; objects = h.objects; output = h.output; frames = h.frames }

  -- frames and calls are given back after some steps more
  pub runs_more : (n steps more ticks others all : ℕ) (old here mid new : All Spot) → RunsSoFar n old here steps ticks → RunsOn plan code limits more here mid → more + here.steps ≡ mid.steps → steps + more ≤ n → AreSpots code.lines mid.tasks → forgotten new ≡ forgotten mid → new ≡ with_kept new.shared.frames new.shared.calls mid → all ≤ (steps + more) * most_ticks plan code →
      RunCounts plan code limits more here others → Counts (ticks + others) 0 all → RunsSoFar n old new (steps + more) all
  runs_more n steps more ticks others all old here mid new so_far on counted within spots same rest few counts sum =
      let still = ap (λ (c : All Spot). c.steps) rest in
      let none : steps ≡ steps + 0 = omega arith in
      record {
        leads = λ k.
            let both : (steps + more) + k ≡ steps + (more + k) = omega arith in
            ap (λ j. forgotten (run_with plan C limits j old)) both
            ∙ so_far.leads (more + k)
            ∙ ap (λ (c : All Spot). forgotten c) (on k)
            ∙ run_left plan C (code_looks plan code) limits k mid new (sym same);
        within = within;
        spots = subst (λ (c : All Spot). AreSpots code.lines c.tasks) (sym rest) spots;
        steps_taken = omega (arith, so_far.steps_taken, counted, still);
        few = few;
        counts = counts_then plan code limits steps more ticks others all old here (ap (λ j. forgotten (run_with plan C limits j old)) none ∙ so_far.leads 0) so_far.counts counts sum;
        kept = λ h. subst (IsWithin Spot limits) (sym rest) (within_kept new.shared.frames new.shared.calls mid (on_within more here mid on (so_far.kept h)));
      }

  -- it has ended, where nothing has changed since
  pub runs_ended : (n : ℕ) (old mid new : All Spot) (ran : Ran) → new ≡ mid → RunsSoFar n old mid ran.steps ran.ticks → ran.state ≡ state_at plan C new → run_with plan C limits (n - ran.steps) mid ≡ mid → RunsLeaving plan code limits n old new ran
  runs_ended n old mid new ran same so_far state over =
      let all : ran.steps + (n - ran.steps) ≡ n = omega (arith, so_far.within) in
      let counted = ap (λ (c : All Spot). c.steps) same in
      record {
        left = ap (λ (c : All Spot). forgotten c) same ∙ sym (ap (λ k. forgotten (run_with plan C limits k old)) (sym all) ∙ so_far.leads (n - ran.steps) ∙ ap (λ (c : All Spot). forgotten c) over);
        steps = omega (arith, so_far.steps_taken, counted);
        state = state;
        few = so_far.few;
        counts = so_far.counts;
        kept = λ h. subst (IsWithin Spot limits) (sym same) (so_far.kept h);
      }

  -- The move of an index.

  pub takes_none : (c : All Spot) (nth : ℕ) → slice_get (moves_at plan C c) nth ≡ None → Takes plan code limits (slice_get (moves_at plan C c) nth) c c None
  takes_none c nth none = subst (λ o. Takes plan code limits o c c None) (sym none) (refl, refl)

  pub takes_some : (old new : All Spot) (nth : ℕ) (m : Move) (ran : Ran) → slice_get (moves_at plan C old) nth ≡ Some m → new ≡ step_with plan C limits old m → ran.steps ≡ 1 → ran.state ≡ state_at plan C new → ran.ticks ≤ most_ticks plan code → Counts (step_ticks plan code old m) (most_of_barriers plan code) ran.ticks →
      Takes plan code limits (slice_get (moves_at plan C old) nth) old new (Some ran)
  takes_some old new nth m ran at next one state few counts =
      let counted = ap (λ (c : All Spot). c.steps) next ∙ step_counted old m (move_there plan code old nth m at) in
      subst (λ o. Takes plan code limits o old new (Some ran)) (sym at) (ran, refl, record { next = next; one = one; steps = omega (arith, counted); state = state; few = few; counts = counts })

-- Which move is chosen.
module _ (plan : Plan) (code : Flat) where
  abbrev pub Moves : All Spot → List Move
  Moves c = moves_at plan (flat_controls plan code) c

  pub picks_first : (c : All Spot) (m : Move) → slice_get (Moves c) 0 ≡ Some m → IsUnchosen (drop 1 (Moves c)) c.choices → Picks plan code m c c
  picks_first c m at unchosen = record {
    first = m;
    others = drop 1 (Moves c);
    moves = headed (Moves c) m at;
    taken = λ limits. unchosen_taken plan code limits m (drop 1 (Moves c)) c unchosen;
    ticks = unchosen_ticks plan code m (drop 1 (Moves c)) c unchosen;
    there = move_there plan code c 0 m at;
    kept = refl;
  }

  -- a move that was chosen
  pub picks_it : (old new : All Spot) (chosen : Option Move) (m : Move) → chosen ≡ Some m → Chooses plan code old new chosen → Picks plan code m old new
  picks_it old new chosen m is h = subst (λ o. Chooses plan code old new o) is h

  -- or there is none
  pub picks_none : (old new : All Spot) (chosen : Option Move) → chosen ≡ None → Chooses plan code old new chosen → (Moves old ≡ []) × (new ≡ old)
  picks_none old new chosen is h = subst (λ o. Chooses plan code old new o) is h

  -- the first one is taken, if there is one
  pub chooses_first : (c : All Spot) (chosen : Option Move) → chosen ≡ slice_get (Moves c) 0 → IsUnchosen (drop 1 (Moves c)) c.choices → Chooses plan code c c chosen
  chooses_first c None none unchosen = (none_of (Moves c) (sym none), refl)
  chooses_first c (Some m) at unchosen = picks_first c m (sym at) unchosen

  -- by a choice, among several
  picks_chosen : (old new : All Spot) (first : Move) (others : List Move) (choice : ℕ) (m : Move) → Moves new ≡ Moves old → Moves old ≡ first ∷ others → ¬ (others ≡ []) → old.choices ≡ choice ∷ new.choices → new ≡ record old { choices = new.choices } →
      slice_get (Moves new) (choice % length (Moves old)) ≡ Some m → Picks plan code m old new
  picks_chosen old new first others choice m same moves some waits kept at =
      let here : slice_get (Moves old) (choice % length (Moves old)) ≡ Some m = ap (λ ms. slice_get ms (choice % length (Moves old))) (sym same) ∙ at in
      let there : slice_get (first ∷ others) (choice % length (first ∷ others)) ≡ Some m = subst (λ ms. slice_get ms (choice % length ms) ≡ Some m) moves here in
      record {
        first = first;
        others = others;
        moves = moves;
        taken = λ limits.
            chosen_taken plan code limits first others choice new.choices m old some waits there
            ∙ ap (λ (c : All Spot). step_with plan (flat_controls plan code) limits c m) (sym kept);
        ticks = chosen_ticks plan code first others choice new.choices m old some waits there ∙ ap (λ (c : All Spot). step_ticks plan code c m) (sym kept);
        there = move_there plan code old (choice % length (Moves old)) m here;
        kept = kept;
      }

  module _ (old new : All Spot) (choice : ℕ) (waits : old.choices ≡ choice ∷ new.choices) (kept : new ≡ record old { choices = new.choices }) where
    same : Moves new ≡ Moves old
    same = ap Moves kept ∙ sym (moves_unchosen plan code old new.choices)

    chooses_at : (first : Move) (chosen : Option Move) → Moves old ≡ first ∷ drop 1 (Moves old) → 2 ≤ length (Moves old) → chosen ≡ slice_get (Moves old) (choice % length (Moves old)) → Chooses plan code old new chosen
    chooses_at first None is several at =
        let behind = none_behind (Moves old) (choice % length (Moves old)) (sym at) in
        let below : choice % length (Moves old) < length (Moves old) = mod-lt choice (omega (arith, several)) in
        absurd (omega (arith, behind, below))
    chooses_at first (Some m) is several at =
        picks_chosen old new first (drop 1 (Moves old)) choice m same is (not_alone (Moves old) first is (λ one. omega (arith, one, several))) waits kept (ap (λ ms. slice_get ms (choice % length (Moves old))) same ∙ sym at)

    chooses_from : (ms : List Move) → Moves old ≡ ms → 2 ≤ length (Moves old) → (chosen : Option Move) → chosen ≡ slice_get (Moves old) (choice % length (Moves old)) → Chooses plan code old new chosen
    chooses_from [] is several chosen at = let none = ap length is in absurd (omega (arith, none, several))
    chooses_from (first ∷ others) is several chosen at = chooses_at first chosen (is ∙ ap (λ ms. first ∷ drop 1 ms) (sym is)) several at

    pub chooses_by : (ms : List Move) → ms ≡ Moves old → 2 ≤ length ms → (chosen : Option Move) → chosen ≡ slice_get ms (choice % length ms) → Chooses plan code old new chosen
    chooses_by ms all several chosen at =
        chooses_from (Moves old) refl (subst (λ l. 2 ≤ length l) all several) chosen (at ∙ ap (λ l. slice_get l (choice % length l)) all)
