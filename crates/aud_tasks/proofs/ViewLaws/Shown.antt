-- What is shown of a task, by what is read of it.
use Rattle.std.proofs.Common.{◌≡◌, ℕ, List, [], ◌∷◌, Bool, true, false, slice_get, refl, sym, ap, ◌∙◌}
use Rattle.std.specs.Option.{is_some}
use Rattle.std.specs.Prelude.{codes}
use Rattle.aud_text.specs.declared.place.Pos.{Pos}
use Rattle.aud_typed.specs.Tree.{Plan}
use Rattle.aud_meaning.specs.declared.state.CallState.{CallState}
use Rattle.aud_meaning.specs.declared.state.Move.{Move}
use Rattle.aud_meaning.specs.declared.state.NextStep.{NextStep}
use Rattle.aud_meaning.specs.declared.state.Status.{Status}
use Rattle.aud_meaning.specs.declared.state.StepKind.{StepKind}
use Rattle.aud_meaning.specs.declared.state.Status.TheVariants.{Running, Calling}
use Rattle.aud_meaning.specs.Configuration.{Own, TaskAt, All}
use Rattle.aud_meaning.specs.Control.{Seen}
use Rattle.aud_meaning.specs.Listings.{call_word, ready_or, running_word, serves_now, place_by, status_by, step_shown, turn_kind, turn_leaves}
use Rattle.aud_meaning.specs.Parts.{call_of, own_of}
use Rattle.aud_meaning.specs.Run as run
use Rattle.aud_meaning.specs.Run.{seen, turn_moves}
use Rattle.aud_code.specs.Places.{Spot}
use Rattle.aud_code.specs.Flat.{Flat, barrier_at, flat_controls}
use Rattle.aud_tasks.specs.declared.turn.Turn.{Turn}
use Rattle.aud_tasks.specs.declared.turn.Turn.TheVariants.{Acting, Cancelling, Closing, Completing, Expiring, Resting, Restarting, Serving, Withdrawing}
use Rattle.aud_tasks.specs.Moving.{moves_of}
use Rattle.aud_tasks.specs.Shown.{status_if, status_in, step_in, turn_seen}
use Rattle.aud_tasks.specs.Turning.{seen_in, turned, turn_in}
use Rattle.aud_tasks.proofs.ViewLaws.Seen.{turn_law}

module _ (plan : Plan) (code : Flat) (n : ℕ) (c : All Spot) where
  abbrev o : Own
  o = own_of n c

  abbrev t : TaskAt Seen
  t = seen_in plan code n c

  abbrev d : All Seen
  d = seen plan (flat_controls plan code) c

  -- its turn as memory tells it is the one that is seen
  pub turn_is : (x : Turn) → turn_in plan code n c ≡ turned plan code n c x → turned plan code n c x ≡ turn_seen plan code n c
  turn_is x h = sym h ∙ turn_law plan code n c

  abbrev next_step : StepKind → Pos → NextStep
  next_step kind at = record { kind = kind; at = at }

  pub step_made : (x : Turn) (k : StepKind) (at : Pos) → k ≡ turn_kind plan (barrier_at code) (turned plan code n c x) o → at ≡ place_by plan (barrier_at code) (turned plan code n c x) t →
      next_step k at ≡ step_shown plan (barrier_at code) (turned plan code n c x) t
  step_made x k at is place =
      ap (λ j. next_step j at) is ∙ ap (next_step (turn_kind plan (barrier_at code) (turned plan code n c x) o)) place

  -- so is the step of that
  pub step_is : (u : run.Turn) (next : NextStep) → u ≡ turn_seen plan code n c → next ≡ step_shown plan (barrier_at code) u t → next ≡ step_in plan code n c
  step_is u next h told = told ∙ ap (λ x. step_shown plan (barrier_at code) x t) h

  -- by its status
  pub status_as : (serves : Bool) (s : Status) → o.status ≡ s → status_if serves plan code n c ≡ status_by plan (barrier_at code) serves s n t d
  status_as serves s is = ap (λ x. status_by plan (barrier_at code) serves x n t d) is

  pub serves_as : (serves : Bool) → serves ≡ serves_now plan (barrier_at code) o.serving o.opened → status_if serves plan code n c ≡ status_in plan code n c
  serves_as serves is = ap (λ b. status_if b plan code n c) is

  -- where it runs
  pub running_as : o.status ≡ Running → status_if false plan code n c ≡ running_word plan (barrier_at code) (turn_leaves plan (barrier_at code) (turn_in plan code n c) o) (moves_of plan code n c)
  running_as is =
      status_as false Running is
      ∙ ap (λ u. running_word plan (barrier_at code) (turn_leaves plan (barrier_at code) u o) (turn_moves plan (barrier_at code) u n d)) (sym (turn_law plan code n c))

  -- where it is blocked at a call
  pub calling_as : o.status ≡ Calling → status_if false plan code n c ≡ call_word plan (barrier_at code) (call_of o.call c).state (moves_of plan code n c)
  calling_as is =
      status_as false Calling is
      ∙ ap (λ u. call_word plan (barrier_at code) (call_of o.call c).state (turn_moves plan (barrier_at code) u n d)) (sym (turn_law plan code n c))

  pub running_by : (leaves : Bool) → leaves ≡ turn_leaves plan (barrier_at code) (turn_in plan code n c) o → running_word plan (barrier_at code) leaves (moves_of plan code n c) ≡ running_word plan (barrier_at code) (turn_leaves plan (barrier_at code) (turn_in plan code n c) o) (moves_of plan code n c)
  running_by leaves is = ap (λ b. running_word plan (barrier_at code) b (moves_of plan code n c)) is

  pub call_by : (s : CallState) → s ≡ (call_of o.call c).state → call_word plan (barrier_at code) s (moves_of plan code n c) ≡ call_word plan (barrier_at code) (call_of o.call c).state (moves_of plan code n c)
  call_by s is = ap (λ x. call_word plan (barrier_at code) x (moves_of plan code n c)) is

  -- ready, or not
  pub ready_by : (other : List ℕ) (ms : List Move) → is_some (slice_get ms 0) ≡ true → codes "ready" ≡ ready_or plan (barrier_at code) other ms
  ready_by other [] h = absurd cc
  ready_by other (m ∷ ms) h = refl

  pub ready_as : (other : List ℕ) (ms : List Move) → is_some (slice_get ms 0) ≡ false → other ≡ ready_or plan (barrier_at code) other ms
  ready_as other [] h = refl
  ready_as other (m ∷ ms) h = absurd cc

  pub leaves_not : (x : Turn) → ¬ (x ≡ Acting) → turn_leaves plan (barrier_at code) (turned plan code n c x) o ≡ false
  leaves_not Resting not = refl
  leaves_not Closing not = refl
  leaves_not Completing not = refl
  leaves_not (Withdrawing object) not = refl
  leaves_not (Serving servicing) not = refl
  leaves_not (Restarting restart) not = refl
  leaves_not Expiring not = refl
  leaves_not Cancelling not = refl
  leaves_not Acting not = absurd (not refl)

  -- by its turn
  pub leaves_as : (x y : Turn) → turn_in plan code n c ≡ turned plan code n c x → x ≡ y → turn_leaves plan (barrier_at code) (turn_in plan code n c) o ≡ turn_leaves plan (barrier_at code) (turned plan code n c y) o
  leaves_as x y h is = ap (λ u. turn_leaves plan (barrier_at code) u o) (h ∙ ap (turned plan code n c) is)
