-- A RUN that is cut into slices comes to what it comes to at once.
use Rattle.std.specs.Prelude.{min, max, ◌==◌, nat_lt, if◌then◌else◌, ◌⊎◌}
use Rattle.std.proofs.Common.{◌≡◌, ℕ, ◌+◌, ◌-◌, ◌<◌, ◌≤◌, List, [], length, slice_get, Option, Some, None, Result, Ok, Err, Bool, true, false, inl, inr, refl, sym, ap, ◌∙◌, subst, arith}
use Rattle.aud_text.specs.declared.refusal.Refusal.TheVariants as refusal
use Rattle.aud_text.specs.declared.limits.Limits.{Limits}
use Rattle.aud_text.specs.declared.limits.TheConstants.{CLOCK, STEPS, CHOICES, WAIT}
use Rattle.aud_typed.specs.Tree as tree
use Rattle.aud_typed.specs.Ties.View.{plain_program}
use Rattle.aud_meaning.specs.declared.state.State.TheVariants as state
use Rattle.aud_meaning.specs.Configuration.{Item, Configuration}
use Rattle.aud_meaning.specs.Control.{Controls}
use Rattle.aud_meaning.specs.Statements.{controls}
use Rattle.aud_meaning.specs.declared.state.Move.{Move}
use Rattle.aud_meaning.specs.Run.{moves_in, step, run, main_raised, supplied, advanced, opening}
use Rattle.aud_meaning.specs.Listings.{view}
use Rattle.aud_meaning.proofs.Limits.Steps.{limits_law}
use Rattle.aud_meaning.proofs.Counts.{run_moves, run_stays, run_full, run_cut, more_moves, no_moves}
use Rattle.std.proofs.lemmas.Option.{same_Some}
use Rattle.aud_machine.specs.Shown.{Shown, program_in}
use Rattle.aud_machine.specs.Shows.{Ran, Shows, IfShows, Did, RunsFrom, Takes}
use Rattle.aud_debug.specs.declared.lines.Lines.{Lines}
use Rattle.aud_debug.specs.declared.listing.Listing.{Listing}
use Rattle.aud_debug.specs.Listed.{listed}
use Rattle.aud_bench.specs.declared.request.Request.{Request}
use Rattle.aud_bench.specs.declared.request.Request.TheVariants as request
use Rattle.aud_bench.specs.declared.request.Answer.{Answer}
use Rattle.aud_bench.specs.declared.request.Answer.TheVariants as answer
use Rattle.aud_bench.specs.declared.request.Report.{Report}
use Rattle.aud_bench.specs.declared.service.Served.{Served}
use Rattle.aud_bench.specs.Alone.{Loaded, answers_only, named_if, ended_by, report, ran_reply, steps_left, run_reply, stepped_reply, step_reply, reset_reply, load_reply, chosen_reply, choose_reply, advance_reply, clock_reply, listed_reply, list_reply, output_reply, replied}
use Rattle.aud_bench.specs.Loading.{program_of}
use Rattle.aud_bench.specs.Ties.Serving.{Holds, Replies, RepliesAs, RepliesInTime, UnderWay, ServesBy, Serves, GoesOn}

is_none : (n : ℕ) → n ≡ 0 → (n == 0) ≡ true
is_none n e = ap (λ k. k == 0) e

is_some : (n : ℕ) → 1 ≤ n → (n == 0) ≡ false
is_some n h = grind (arith, h)

-- a RUN where no steps are left, and one where some are
pub reply_spent : (limits : Limits) (n : ℕ) (l : Loaded) → steps_left l.now ≡ 0 → run_reply limits n (Some l) ≡ answers_only (answer.Refused refusal.StepBudget) (Some l)
reply_spent limits n l e =
    ap (λ b. if b then answers_only (answer.Refused refusal.StepBudget) (Some l) else ran_reply l (run limits l.program (min n (steps_left l.now)) l.now)) (is_none (steps_left l.now) e)

pub reply_ran : (limits : Limits) (n : ℕ) (l : Loaded) → 1 ≤ steps_left l.now → run_reply limits n (Some l) ≡ ran_reply l (run limits l.program (min n (steps_left l.now)) l.now)
reply_ran limits n l some =
    ap (λ b. if b then answers_only (answer.Refused refusal.StepBudget) (Some l) else ran_reply l (run limits l.program (min n (steps_left l.now)) l.now)) (is_some (steps_left l.now) some)

-- a LOAD costs one unit, whatever comes of it
pub load_costs : (loaded : Option Loaded) (x : Result tree.Program Answer) → (load_reply x loaded).cost ≡ 1
load_costs loaded (Ok program) = refl
load_costs loaded (Err refusal) = refl

choice_costs : (b : Bool) (full : Answer) (l : Loaded) (after : Configuration) → (if b then answers_only full (Some l) else chosen_reply l after).cost ≡ 1
choice_costs true full l after = refl
choice_costs false full l after = refl

pub choose_costs : (choices : List ℕ) (loaded : Option Loaded) → (choose_reply choices loaded).cost ≡ 1
choose_costs choices None = refl
choose_costs choices (Some l) = choice_costs (nat_lt CHOICES (length l.now.choices + length choices)) _ l (supplied choices l.now)

pub output_costs : (loaded : Option Loaded) → (output_reply loaded).cost ≡ 1
output_costs None = refl
output_costs (Some l) = refl

pub reset_costs : (loaded : Option Loaded) → (reset_reply loaded).cost ≡ 1
reset_costs None = refl
reset_costs (Some l) = refl

pub step_costs : (limits : Limits) (n : ℕ) (loaded : Option Loaded) → (step_reply limits n loaded).cost ≡ 1
step_costs limits n None = refl
step_costs limits n (Some l) = by (steps_left l.now == 0) (slice_get (moves_in l.program l.now) n)
  where
    by : (b : Bool) (o : Option Move) → (if b then answers_only (answer.Refused refusal.StepBudget) (Some l) else stepped_reply limits o l).cost ≡ 1
    by true o = refl
    by false None = refl
    by false (Some move) = omega (arith, (limits_law l.program.plan (controls l.program) limits).counted l.now move)

pub advance_costs : (milliseconds : ℕ) (loaded : Option Loaded) → (advance_reply milliseconds loaded).cost ≡ 1
advance_costs milliseconds None = refl
advance_costs milliseconds (Some l) = refl

pub clock_costs : (loaded : Option Loaded) → (clock_reply loaded).cost ≡ 1
clock_costs None = refl
clock_costs (Some l) = refl

listed_costs : (o : Option Lines) (l : Loaded) → (listed_reply o l).cost ≡ 1
listed_costs None l = refl
listed_costs (Some lines) l = refl

pub list_costs : (listing : Listing) (loaded : Option Loaded) → (list_reply listing loaded).cost ≡ 1
list_costs listing None = refl
list_costs listing (Some l) = listed_costs (listed listing (view l.program l.now)) l

-- each request costs a unit at least
pub costs_some : (limits : Limits) (r : Request) (loaded : Option Loaded) → 1 ≤ (replied limits loaded r).cost
costs_some limits (request.Load source) loaded = omega (arith, load_costs loaded (program_of limits source))
costs_some limits request.Reset loaded = omega (arith, reset_costs loaded)
costs_some limits (request.Run n) None = omega arith
costs_some limits (request.Run n) (Some l) = by (steps_left l.now == 0)
  where
    by : (b : Bool) → 1 ≤ (if b then answers_only (answer.Refused refusal.StepBudget) (Some l) else ran_reply l (run limits l.program (min n (steps_left l.now)) l.now)).cost
    by true = omega arith
    by false = omega arith
costs_some limits (request.Step n) loaded = omega (arith, step_costs limits n loaded)
costs_some limits (request.Choose choices) loaded = omega (arith, choose_costs choices loaded)
costs_some limits (request.Advance milliseconds) loaded = omega (arith, advance_costs milliseconds loaded)
costs_some limits request.Clock loaded = omega (arith, clock_costs loaded)
costs_some limits (request.List listing) loaded = omega (arith, list_costs listing loaded)
costs_some limits request.Output loaded = omega (arith, output_costs loaded)
costs_some limits (request.Seat number) loaded = omega arith
costs_some limits request.Quit loaded = omega arith
costs_some limits (request.Bad why) loaded = omega arith

-- where a machine is at hand, a program is loaded
pub of_program : (limits : Limits) (n p units : ℕ) (old : Shown) (served : Served) (after : Option Shown) →
    ((l : Loaded) → UnderWay limits (request.Run n) (Some l) p (Some old) → Serves limits (request.Run n) (Some l) p units served after) →
    GoesOn limits (request.Run n) p units (Some old) served after
of_program limits n p units old served after each None room under = absurd under.is_behind
of_program limits n p units old served after each (Some l) room under = each l under

-- a request that is answered at once
pub at_once : (limits : Limits) (r : Request) (loaded : Option Loaded) (done units : ℕ) (machine : Option Shown) (a : Answer) → (replied limits loaded r).cost ≡ 1 → done < (replied limits loaded r).cost → Replies limits a machine (replied limits loaded r) → ServesBy (Some a) limits r loaded done units 1 0 machine
at_once limits r loaded done units machine a one unanswered replies = (replies, omega (arith, one, unanswered), refl)

pub served_at_once : (limits : Limits) (r asked : Request) → r ≡ asked → (loaded : Option Loaded) (done units : ℕ) (before after : Option Shown) (a : Answer) (s : Served) → s ≡ record { answer = Some a; progress = 0; cost = 1 } → (replied limits loaded asked).cost ≡ 1
    → (UnderWay limits asked loaded done before → Replies limits a after (replied limits loaded asked)) → UnderWay limits r loaded done before → Serves limits r loaded done units s after
served_at_once limits r asked is loaded done units before after a s s_is one replies =
    subst (λ (x : Request). UnderWay limits x loaded done before → Serves limits x loaded done units s after) (sym is)
    (λ under. subst (λ (x : Served). Serves limits asked loaded done units x after) (sym s_is) (at_once limits asked loaded done units after a one under.unanswered (replies under)))

-- choices for which there is no room, and those that are supplied; so many wait before
module _ (choices : List ℕ) (old : Shown) (waiting : ℕ) (before : (c : Configuration) → Shows old c → waiting ≡ length c.choices) where
  pub no_room : CHOICES < waiting + length choices → (limits : Limits) → RepliesAs (choose_reply choices) limits (Some old) (answer.Refused refusal.ChoicesFull) (Some old)
  no_room full limits None holds = absurd holds
  no_room full limits (Some l) holds =
      let is : nat_lt CHOICES (length l.now.choices + length choices) ≡ true = grind (arith, full, before l.now holds.shows) in
      subst (λ reply. Replies limits (answer.Refused refusal.ChoicesFull) (Some old) reply)
      (sym (ap (λ b. if b then answers_only (answer.Refused refusal.ChoicesFull) (Some l) else chosen_reply l (supplied choices l.now)) is))
      (record { answer_is = refl; loaded = holds })

  module _ (new : Shown) (after : ℕ) (kept : (new.limits ≡ old.limits) × (new.program ≡ old.program)) (supplies : (c : Configuration) → Shows old c → Shows new (supplied choices c)) (shown : (c : Configuration) → Shows new c → after ≡ length c.choices) where
    pub is_supplied : waiting + length choices ≤ CHOICES → (limits : Limits) → RepliesAs (choose_reply choices) limits (Some old) (answer.Choices after) (Some new)
    is_supplied room limits None holds = absurd holds
    is_supplied room limits (Some l) holds =
        let is : nat_lt CHOICES (length l.now.choices + length choices) ≡ false = grind (arith, room, before l.now holds.shows) in
        let shows : Shows new (supplied choices l.now) = supplies l.now holds.shows in
        subst (λ reply. Replies limits (answer.Choices after) (Some new) reply)
        (sym (ap (λ b. if b then answers_only (answer.Refused refusal.ChoicesFull) (Some l) else chosen_reply l (supplied choices l.now)) is))
        (record {
          answer_is = ap answer.Choices (shown (supplied choices l.now) shows);
          loaded = record {
            limits_are = kept.0 ∙ holds.limits_are;
            program_is = ap plain_program kept.1 ∙ holds.program_is;
            shows = shows;
          };
        })

-- the program begins anew
pub is_reset : (old new : Shown) → (new.limits ≡ old.limits) × (new.program ≡ old.program) → Shows new (opening (program_in old)) → (limits : Limits) → RepliesAs reset_reply limits (Some old) answer.Done (Some new)
is_reset old new kept shows limits None holds = absurd holds
is_reset old new kept shows limits (Some l) holds = record {
  answer_is = refl;
  loaded = record {
    limits_are = kept.0 ∙ holds.limits_are;
    program_is = ap plain_program kept.1 ∙ holds.program_is;
    shows = subst (λ program. Shows new (opening program)) holds.program_is shows;
  };
}

-- time passes
pub has_passed : (old new : Shown) (asked some after : ℕ) → (new.limits ≡ old.limits) × (new.program ≡ old.program)
    → IfShows old (λ c. (c.clock + asked ≤ CLOCK → some ≡ asked) × Shows new (advanced some c)) → IfShows new (λ c. after ≡ c.clock)
    → asked ≤ WAIT → (limits : Limits) → RepliesInTime (advance_reply asked) limits (Some old) (answer.Clock after) (Some new)
has_passed old new asked some after kept passes shown brief limits None time holds = absurd holds
has_passed old new asked some after kept passes shown brief limits (Some l) time holds =
    let there = passes l.now holds.shows in
    let all : some ≡ asked = there.0 (omega (arith, brief, time)) in
    let shows : Shows new (advanced asked l.now) = subst (λ k. Shows new (advanced k l.now)) all there.1 in
    record {
      answer_is = ap answer.Clock (shown (advanced asked l.now) shows);
      loaded = record {
        limits_are = kept.0 ∙ holds.limits_are;
        program_is = ap plain_program kept.1 ∙ holds.program_is;
        shows = shows;
      };
    }

-- a move that is asked for by its index
module _ (n : ℕ) (old : Shown) (steps : ℕ) (before : IfShows old (λ c. steps ≡ c.steps)) where
  step_by : (limits : Limits) (l : Loaded) (b : Bool) → (steps_left l.now == 0) ≡ b
      → step_reply limits n (Some l) ≡ (if b then answers_only (answer.Refused refusal.StepBudget) (Some l) else stepped_reply limits (slice_get (moves_in l.program l.now) n) l)
  step_by limits l b is = ap (λ b. if b then answers_only (answer.Refused refusal.StepBudget) (Some l) else stepped_reply limits (slice_get (moves_in l.program l.now) n) l) is

  pub no_step : STEPS ≤ steps → (limits : Limits) → RepliesAs (step_reply limits n) limits (Some old) (answer.Refused refusal.StepBudget) (Some old)
  no_step all limits None holds = absurd holds
  no_step all limits (Some l) holds =
      let is = is_none (steps_left l.now) (omega (arith, all, before l.now holds.shows)) in
      subst (λ reply. Replies limits (answer.Refused refusal.StepBudget) (Some old) reply) (sym (step_by limits l true is)) (record { answer_is = refl; loaded = holds })

  module _ (room : steps < STEPS) (new : Shown) where
    -- there is no such move
    pub no_move : IfShows old (λ c. Takes old.limits (program_in old) c (slice_get (moves_in (program_in old) c) n) old new None)
        → (limits : Limits) → RepliesAs (step_reply limits n) limits (Some old) (answer.Refused refusal.NoSuchMove) (Some new)
    no_move takes limits None holds = absurd holds
    no_move takes limits (Some l) holds =
        subst (λ reply. Replies limits (answer.Refused refusal.NoSuchMove) (Some new) reply) (sym (step_by limits l false (is_some (steps_left l.now) (omega (arith, room, before l.now holds.shows)))))
        (by (slice_get (moves_in l.program l.now) n) taken)
      where
        taken : Takes limits l.program l.now (slice_get (moves_in l.program l.now) n) old new None
        taken =
            subst (λ bounds. Takes bounds l.program l.now (slice_get (moves_in l.program l.now) n) old new None) holds.limits_are
            (subst (λ program. Takes old.limits program l.now (slice_get (moves_in program l.now) n) old new None) holds.program_is (takes l.now holds.shows))

        by : (o : Option Move) → Takes limits l.program l.now o old new None → Replies limits (answer.Refused refusal.NoSuchMove) (Some new) (stepped_reply limits o l)
        by None told = record { answer_is = refl; loaded = subst (λ m. Holds limits m l) (sym told.1) holds }
        by (Some move) told = absurd (cc (told.1))

    -- it is taken
    pub is_taken : (ran : Ran) → (new.limits ≡ old.limits) × (new.program ≡ old.program)
        → IfShows old (λ c. Takes old.limits (program_in old) c (slice_get (moves_in (program_in old) c) n) old new (Some ran))
        → (told : Report) → IfShows new (λ c. told ≡ record { steps = ran.steps; state = ran.state; raised = ended_by ran.state (named_if (program_in new).plan.exceptions (main_raised c.tasks)) })
        → (limits : Limits) → RepliesAs (step_reply limits n) limits (Some old) (answer.Ran told) (Some new)
    is_taken ran kept takes told told_is limits None holds = absurd holds
    is_taken ran kept takes told told_is limits (Some l) holds =
        subst (λ reply. Replies limits (answer.Ran told) (Some new) reply) (sym (step_by limits l false (is_some (steps_left l.now) (omega (arith, room, before l.now holds.shows)))))
        (by (slice_get (moves_in l.program l.now) n) taken)
      where
        taken : Takes limits l.program l.now (slice_get (moves_in l.program l.now) n) old new (Some ran)
        taken =
            subst (λ bounds. Takes bounds l.program l.now (slice_get (moves_in l.program l.now) n) old new (Some ran)) holds.limits_are
            (subst (λ program. Takes old.limits program l.now (slice_get (moves_in program l.now) n) old new (Some ran)) holds.program_is (takes l.now holds.shows))

        program_is : program_in new ≡ l.program
        program_is = ap plain_program kept.1 ∙ holds.program_is

        by : (o : Option Move) → Takes limits l.program l.now o old new (Some ran) → Replies limits (answer.Ran told) (Some new) (stepped_reply limits o l)
        by None none = absurd (cc (none.0))
        by (Some move) (other, is, shows, did) =
            let to : Configuration = step limits l.program l.now move in
            let same : other ≡ ran = sym (same_Some ran other is) in
            let done : Did l.program ran l.now to = subst (λ (r : Ran). Did l.program r l.now to) same did in
            let steps_are : ran.steps ≡ to.steps - l.now.steps = omega (arith, done.steps) in
            record {
              answer_is =
                  ap answer.Ran
                  (told_is to shows
                  ∙ ap (λ (p : tree.Program). record { steps = ran.steps; state = ran.state; raised = ended_by ran.state (named_if p.plan.exceptions (main_raised to.tasks)) }) program_is
                  ∙ ap (λ k. record { steps = k; state = ran.state; raised = ended_by ran.state (named_if l.program.plan.exceptions (main_raised to.tasks)) }) steps_are
                  ∙ ap (λ s. record { steps = to.steps - l.now.steps; state = s; raised = ended_by s (named_if l.program.plan.exceptions (main_raised to.tasks)) }) done.state);
              loaded = record { limits_are = kept.0 ∙ holds.limits_are; program_is = program_is; shows = shows };
            }

-- what is told of a machine leaves it as it is
pub clock_keeps : (loaded : Option Loaded) → (clock_reply loaded).loaded ≡ loaded
clock_keeps None = refl
clock_keeps (Some l) = refl

listed_keeps : (o : Option Lines) (l : Loaded) → (listed_reply o l).loaded ≡ Some l
listed_keeps None l = refl
listed_keeps (Some lines) l = refl

pub list_keeps : (listing : Listing) (loaded : Option Loaded) → (list_reply listing loaded).loaded ≡ loaded
list_keeps listing None = refl
list_keeps listing (Some l) = listed_keeps (listed listing (view l.program l.now)) l

module _ (limits : Limits) (n p : ℕ) (l : Loaded) (old : Shown) (under : UnderWay limits (request.Run n) (Some l) p (Some old)) where
  abbrev plan : tree.Plan
  plan = l.program.plan

  abbrev k : Controls (List Item)
  k = controls l.program

  abbrev pub here : Configuration
  here = run limits l.program p l.now

  -- the machine's steps tell what is left
  pub left_none : STEPS - here.steps ≡ 0 → steps_left l.now ≡ 0
  left_none e = by under.stepped.room
    where
      by : (p ≡ 0) ⊎ (p < min n (steps_left l.now)) → steps_left l.now ≡ 0
      by (inl z) = omega (arith, e, z, under.stepped.steps)
      by (inr lt) = omega (arith, e, lt, under.stepped.steps)

  pub is_spent : (units : ℕ) → STEPS - here.steps ≡ 0 → ServesBy (Some (answer.Refused refusal.StepBudget)) limits (request.Run n) (Some l) p units 1 0 (Some old)
  is_spent units e =
      let none : steps_left l.now ≡ 0 = left_none e in
      let reply : run_reply limits n (Some l) ≡ answers_only (answer.Refused refusal.StepBudget) (Some l) = reply_spent limits n l none in
      let one : (run_reply limits n (Some l)).cost ≡ 1 = ap (λ r. r.cost) reply in
      let zero_done : p ≡ 0 = omega (arith, one, under.unanswered) in
      let holds : Holds limits old l = subst (λ k. Holds limits old (record l { now = run limits l.program k l.now })) zero_done under.is_behind in
      at_once limits (request.Run n) (Some l) p units (Some old) (answer.Refused refusal.StepBudget) one under.unanswered
      (subst (λ r. Replies limits (answer.Refused refusal.StepBudget) (Some old) r) (sym reply) (record { answer_is = refl; loaded = holds }))

  module _ (wanted now units : ℕ) (new : Shown) (ran : Ran) (some : 1 ≤ STEPS - here.steps) (is_wanted : wanted ≡ min (n - p) (STEPS - here.steps)) (is_now : now ≡ min wanted units) (kept : (new.limits ≡ old.limits) × (new.program ≡ old.program)) (ran_from : RunsFrom old.limits (program_in old) now here new ran) where
    abbrev pub whole : ℕ
    whole = min n (steps_left l.now)

    did : RunsFrom limits l.program now here new ran
    did = subst (λ bounds. RunsFrom bounds l.program now here new ran) under.is_behind.limits_are (subst (λ program. RunsFrom old.limits program now here new ran) under.is_behind.program_is ran_from)

    holds : Holds limits new (record l { now = run limits l.program now here })
    holds = record {
      limits_are = kept.0 ∙ under.is_behind.limits_are;
      program_is = ap plain_program kept.1 ∙ under.is_behind.program_is;
      shows = did.shows;
    }

    some_left : 1 ≤ steps_left l.now
    some_left =
        let s : here.steps ≡ l.now.steps + p = under.stepped.steps in
        omega (arith, some, s)

    -- what is done and what is wanted are the whole
    whole_is : p + wanted ≡ whole
    whole_is = by under.stepped.room
      where
        s : here.steps ≡ l.now.steps + p
        s = under.stepped.steps

        by : (p ≡ 0) ⊎ (p < min n (steps_left l.now)) → p + wanted ≡ whole
        by (inl z) = omega (arith, is_wanted, z, s)
        by (inr lt) = omega (arith, is_wanted, lt, s)

    cut : run limits l.program (p + now) l.now ≡ run limits l.program now here
    cut = run_cut plan k limits p now l.now

    reply_is : run_reply limits n (Some l) ≡ ran_reply l (run limits l.program whole l.now)
    reply_is = reply_ran limits n l some_left

    -- the slice ends before the RUN does
    pub goes_on : now < wanted → ran.state ≡ state.More → ServesBy None limits (request.Run n) (Some l) p units units (p + ran.steps) (Some new)
    goes_on lt more =
        let enabled : ¬ (moves_in l.program (run limits l.program now here) ≡ []) = more_moves plan k (run limits l.program now here) (sym did.did.state ∙ more) in
        let full : (run limits l.program now here).steps ≡ here.steps + now = run_full plan k limits now here enabled in
        let all : ran.steps ≡ now = omega (arith, full, did.did.steps) in
        let used : now ≡ units = omega (arith, is_now, lt) in
        let done : p + now ≡ p + ran.steps = ap (λ k. p + k) (sym all) in
        let on : ℕ = whole - (p + now) in
        let split : whole ≡ (p + now) + on = omega (arith, whole_is, lt) in
        let to : run limits l.program whole l.now ≡ run limits l.program on (run limits l.program (p + now) l.now) = ap (λ k. run limits l.program k l.now) split ∙ run_cut plan k limits (p + now) on l.now in
        let enabled_too : ¬ (moves_in l.program (run limits l.program (p + now) l.now) ≡ []) = subst (λ c. ¬ (moves_in l.program c ≡ [])) (sym cut) enabled in
        let steps_now : (run limits l.program (p + now) l.now).steps ≡ l.now.steps + (p + now) = omega (arith, full, under.stepped.steps, ap (λ (c : Configuration). c.steps) cut) in
        let further : (run limits l.program (p + now) l.now).steps < (run limits l.program on (run limits l.program (p + now) l.now)).steps = run_moves plan k limits on (run limits l.program (p + now) l.now) (omega (arith, whole_is, lt)) enabled_too in
        let costs : (run_reply limits n (Some l)).cost ≡ max 1 ((run limits l.program whole l.now).steps - l.now.steps) = ap (λ r. r.cost) reply_is in
        let steps_to : (run limits l.program whole l.now).steps ≡ (run limits l.program on (run limits l.program (p + now) l.now)).steps = ap (λ (c : Configuration). c.steps) to in
        let under_way : UnderWay limits (request.Run n) (Some l) (p + now) (Some new) = record {
          unanswered = omega (arith, costs, steps_to, further, steps_now);
          is_behind = subst (λ c. Holds limits new (record l { now = c })) (sym cut) holds;
          stepped = record { steps = steps_now; room = inr (omega (arith, whole_is, lt)) };
        } in
        (subst (λ k. UnderWay limits (request.Run n) (Some l) k (Some new)) done under_way, refl, ap (λ k. p + k) (all ∙ used))

    -- where it leads is where the whole RUN leads
    same_end : (wanted ≤ now) ⊎ (¬ (ran.state ≡ state.More)) → run limits l.program whole l.now ≡ run limits l.program now here
    same_end (inl le) =
        let e : whole ≡ p + now = omega (arith, whole_is, is_now, le) in
        ap (λ k. run limits l.program k l.now) e ∙ cut
    same_end (inr ended) =
        let none : moves_in l.program (run limits l.program now here) ≡ [] = no_moves plan k (run limits l.program now here) (λ more. ended (did.did.state ∙ more)) in
        let on : ℕ = whole - (p + now) in
        let split : whole ≡ (p + now) + on = omega (arith, whole_is, is_now) in
        ap (λ k. run limits l.program k l.now) split ∙ run_cut plan k limits (p + now) on l.now ∙ ap (run limits l.program on) cut ∙ run_stays plan k limits on (run limits l.program now here) none

    pub is_done : (wanted ≤ now) ⊎ (¬ (ran.state ≡ state.More)) → (told : Report) → IfShows new (λ c. told ≡ record { steps = p + ran.steps; state = ran.state; raised = ended_by ran.state (named_if (program_in new).plan.exceptions (main_raised c.tasks)) }) → (cost : ℕ) → cost ≡ max ran.steps 1 → ServesBy (Some (answer.Ran told)) limits (request.Run n) (Some l) p units cost 0 (Some new)
    is_done ends told told_is cost cost_is =
        let to : Configuration = run limits l.program now here in
        let reply : run_reply limits n (Some l) ≡ ran_reply l to = reply_is ∙ ap (ran_reply l) (same_end ends) in
        let steps : p + ran.steps ≡ to.steps - l.now.steps = omega (arith, did.did.steps, under.stepped.steps) in
        let program_is : program_in new ≡ l.program = ap plain_program kept.1 ∙ under.is_behind.program_is in
        let is : told ≡ report l.program l.now to =
        told_is to did.shows
        ∙ ap (λ (q : tree.Program). record { steps = p + ran.steps; state = ran.state; raised = ended_by ran.state (named_if q.plan.exceptions (main_raised to.tasks)) }) program_is
        ∙ ap (λ k. record { steps = k; state = ran.state; raised = ended_by ran.state (named_if l.program.plan.exceptions (main_raised to.tasks)) }) steps
        ∙ ap (λ s. record { steps = to.steps - l.now.steps; state = s; raised = ended_by s (named_if l.program.plan.exceptions (main_raised to.tasks)) }) did.did.state in
        let costs : (run_reply limits n (Some l)).cost ≡ max 1 (to.steps - l.now.steps) = ap (λ r. r.cost) reply in (
          subst (λ r. Replies limits (answer.Ran told) (Some new) r) (sym reply) (record { answer_is = ap answer.Ran is; loaded = holds }),
          omega (arith, costs, steps, under.unanswered, cost_is),
          refl,
        )
