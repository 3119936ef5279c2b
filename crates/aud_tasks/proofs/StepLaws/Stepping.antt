-- A step is what a task does at its turn.
use Rattle.std.proofs.Common.{◌≡◌, ◌<◌, ◌≤◌, inl, inr, ℕ, zero, suc, List, [], ◌∷◌, length, drop, Option, None, Some, false, slice_get, slice_index_or, refl, ap, sym, ◌∙◌, subst, arith}
use Rattle.aud_text.specs.declared.limits.Limits.{Limits}
use Rattle.aud_typed.specs.Tree.{Plan}
use Rattle.aud_meaning.specs.Configuration.{TaskAt, All, Own}
use Rattle.aud_meaning.specs.Control.{Scene}
use Rattle.aud_meaning.specs.Parts.{nobody, own_of, owns}
use Rattle.aud_meaning.specs.declared.state.Pending.{Pending}
use Rattle.aud_meaning.specs.declared.state.Status.TheVariants.{Running}
use Rattle.aud_meaning.specs.declared.state.Move.{Move}
use Rattle.aud_meaning.specs.Run as run
use Rattle.aud_meaning.specs.Run.{step_of, step_with, turn_taken}
use Rattle.aud_meaning.specs.Why.Carried.{carried_by}
use Rattle.aud_meaning.proofs.Carrying.{carried_law}
use Rattle.aud_code.specs.Control.{going}
use Rattle.aud_code.specs.Flat.{EndLine, Flat, FlatLine, asked_at, barrier_at, end_at, end_from, flat_controls, instructions_from, no_end}
use Rattle.aud_code.specs.Instruction.{no_operands}
use Rattle.aud_code.specs.Frames.{found}
use Rattle.aud_code.proofs.Framing.{end_found, no_end_found}
use Rattle.aud_code.specs.Places.{Spot}
use Rattle.aud_code.specs.Sound.{IsStart}
use Rattle.aud_code.specs.Starts.{AreSpots, IsPlace, IsSpot}
use Rattle.aud_expr.specs.Ticks.{ticks_at, ticks_of}
use Rattle.aud_state.specs.Fast.{executed_at, executed_by, executed_in, scene}
use Rattle.aud_state.specs.Reads.{IsPlain}
use Rattle.aud_tasks.specs.Acting.{ActsPending, ActsSo, DoesAsked}
use Rattle.aud_tasks.specs.Counting.{at_turn, step_ticks}
use Rattle.aud_tasks.specs.declared.turn.Turn.{Turn}
use Rattle.aud_tasks.specs.declared.turn.Turn.TheVariants.{Resting, Closing, Completing, Withdrawing, Serving, Restarting, Expiring, Cancelling, Acting}
use Rattle.aud_tasks.specs.Turning.{turn_in, turned}

-- the task of a number
pub task_there : {A : Type 0} (xs : List A) (n : ℕ) → n < length xs → (x : A) × (slice_get xs n ≡ Some x)
task_there [] n within = absurd (omega (arith, within))
task_there (x ∷ xs) zero within = (x, refl)
task_there (x ∷ xs) (suc n) within = task_there xs n (omega (arith, within))

runs_there : (ts : List (TaskAt Spot)) (n : ℕ) → (slice_index_or (owns ts) n nobody).status ≡ Running → n < length ts
runs_there [] n is = absurd cc
runs_there (t ∷ ts) zero is = omega arith
runs_there (t ∷ ts) (suc n) is = let h = runs_there ts n is in omega (arith, h)

-- one that runs is there
pub plain_there : (n : ℕ) (c : All Spot) → IsPlain (own_of n c) → n < length c.tasks
plain_there n c plain = runs_there c.tasks n plain.runs

no_task : {A : Type 0} (xs : List A) (n : ℕ) → length xs ≤ n → slice_get xs n ≡ None
no_task [] n past = refl
no_task (x ∷ xs) zero past = absurd (omega (arith, past))
no_task (x ∷ xs) (suc n) past = no_task xs n (omega (arith, past))

module _ (plan : Plan) (code : Flat) (limits : Limits) (c : All Spot) (m : Move) where
  pub no_step : length c.tasks ≤ m.task → c ≡ step_with plan (flat_controls plan code) limits c m
  no_step past = ap (λ (t : Option (TaskAt Spot)). step_of plan (flat_controls plan code) limits t m c) (sym (no_task c.tasks m.task past))

  pub steps_so : (t : TaskAt Spot) (u : run.Turn) → slice_get c.tasks m.task ≡ Some t → turn_in plan code m.task c ≡ u →
      turn_taken (going code) plan (barrier_at code) limits u (asked_at code t.own.pending (scene m.task c) t.control) m (record c { steps = suc c.steps }) ≡ step_with plan (flat_controls plan code) limits c m
  steps_so t u there turns =
      ap (λ (v : run.Turn). turn_taken (going code) plan (barrier_at code) limits v (asked_at code t.own.pending (scene m.task c) t.control) m (record c { steps = suc c.steps })) (sym turns)
      ∙ ap (λ (o : Option (TaskAt Spot)). carried_by plan (flat_controls plan code) limits o m c) (sym there)
      ∙ sym (carried_law plan (flat_controls plan code) limits c m)

same : (u t : TaskAt Spot) → Some u ≡ Some t → u ≡ t
same u t is = cc

-- where a task stands
pub spot_at : (lines : List FlatLine) (ts : List (TaskAt Spot)) (n : ℕ) (t : TaskAt Spot) → AreSpots lines ts → slice_get ts n ≡ Some t → IsSpot lines t.control
spot_at lines [] n t spots is = cc
spot_at lines (u ∷ ts) zero t spots is = subst (λ (v : TaskAt Spot). IsSpot lines v.control) (same u t is) spots.0
spot_at lines (u ∷ ts) (suc n) t spots is = spot_at lines ts n t spots.1 is

pub starts : (lines : List FlatLine) (n : ℕ) → IsPlace lines n → n < length lines → IsStart lines n
starts lines n (inl is) within = is
starts lines n (inr is) within = absurd (omega (arith, is, within))

-- the ending at a place that was reached
pub ends_there : (code : Flat) (k place : ℕ) (l : EndLine) → found code.lines k ≡ Some l → found code.lines k ≡ found code.lines place → l ≡ end_at code place
ends_there code k place l is same = end_found (drop place code.lines) place l (sym same ∙ is)

pub no_end_there : (code : Flat) (k place : ℕ) → found code.lines k ≡ None → found code.lines k ≡ found code.lines place → end_at code place ≡ no_end place
no_end_there code k place is same = no_end_found (drop place code.lines) place (sym same ∙ is)

none_from : (ls : List FlatLine) (n : ℕ) → length ls ≤ n → drop n ls ≡ []
none_from [] zero past = refl
none_from [] (suc n) past = refl
none_from (l ∷ ls) zero past = absurd (omega (arith, past))
none_from (l ∷ ls) (suc n) past = none_from ls n (omega (arith, past))

-- behind all lines there is none
pub no_end_behind : (code : Flat) (place : ℕ) → length code.lines ≤ place → end_at code place ≡ no_end place
no_end_behind code place past = ap (λ ls. end_from ls place) (none_from code.lines place past)

pub none_executed : (code : Flat) (place : ℕ) (s : Scene) → length code.lines ≤ place → ticks_at code place s ≡ 0
none_executed code place s past = ap (λ ls. ticks_of false s (instructions_from ls) 0 no_operands) (none_from code.lines place past)

pub own_there : (ts : List (TaskAt Spot)) (n : ℕ) (t : TaskAt Spot) → slice_get ts n ≡ Some t → slice_index_or (owns ts) n nobody ≡ t.own
own_there [] n t is = cc
own_there (u ∷ ts) zero t is = ap (λ (v : TaskAt Spot). v.own) (same u t is)
own_there (u ∷ ts) (suc n) t is = own_there ts n t is

-- it has what is pending
pub acts_so : (plan : Plan) (code : Flat) (limits : Limits) (alternative : Option ℕ) (n : ℕ) (p : Option Pending) (old new : All Spot) → p ≡ (own_of n old).pending → ActsPending plan code limits alternative n p old new → ActsSo plan code limits alternative n old new
acts_so plan code limits alternative n p old new is h = λ t there. subst (λ (q : Option Pending). DoesAsked plan code limits alternative n (asked_at code q (scene n old) t.control) old new) (is ∙ ap (λ (o : Own). o.pending) (own_there old.tasks n t there)) (h t there)

-- What the step executes.

pub executes_so : (code : Flat) (n : ℕ) (c : All Spot) (p : Option Pending) (t : TaskAt Spot) → slice_get c.tasks n ≡ Some t → p ≡ (own_of n c).pending → executed_in code n c ≡ executed_at code p (scene n c) t.control
executes_so code n c p t there is =
    ap (λ (o : Option (TaskAt Spot)). executed_by code o (scene n c)) there
    ∙ ap (λ (q : Option Pending). executed_at code q (scene n c) t.control) (sym (is ∙ ap (λ (o : Own). o.pending) (own_there c.tasks n t there)))

none_at_turn : (u : run.Turn) → at_turn u 0 ≡ 0
none_at_turn run.resting = refl
none_at_turn run.closing = refl
none_at_turn run.completing = refl
none_at_turn (run.withdrawing object) = refl
none_at_turn (run.serving s) = refl
none_at_turn (run.restarting r) = refl
none_at_turn (run.expiring delays) = refl
none_at_turn (run.cancelling id) = refl
none_at_turn (run.acting next) = refl

-- where there is no task
pub no_ticks : (plan : Plan) (code : Flat) (c : All Spot) (m : Move) → length c.tasks ≤ m.task → step_ticks plan code c m ≡ 0
no_ticks plan code c m past =
    ap (λ (o : Option (TaskAt Spot)). at_turn (turn_in plan code m.task c) (executed_by code o (scene m.task c))) (no_task c.tasks m.task past)
    ∙ none_at_turn (turn_in plan code m.task c)

-- whatever its turn is read in
pub at_turned : (plan : Plan) (code : Flat) (n : ℕ) (c d : All Spot) (u : Turn) (ticks : ℕ) → at_turn (turned plan code n c u) ticks ≡ at_turn (turned plan code n d u) ticks
at_turned plan code n c d Resting ticks = refl
at_turned plan code n c d Closing ticks = refl
at_turned plan code n c d Completing ticks = refl
at_turned plan code n c d (Withdrawing object) ticks = refl
at_turned plan code n c d (Serving s) ticks = refl
at_turned plan code n c d (Restarting r) ticks = refl
at_turned plan code n c d Expiring ticks = refl
at_turned plan code n c d Cancelling ticks = refl
at_turned plan code n c d Acting ticks = refl
