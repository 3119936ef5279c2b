-- What a task does at its next step, by what is read of it.
use Rattle.std.proofs.Common.{◌≡◌, ℕ, Option, None, true, false, refl, ap, ◌∙◌}
use Rattle.aud_typed.specs.Tree.{Plan}
use Rattle.aud_meaning.specs.declared.state.Serving.{Serving}
use Rattle.aud_meaning.specs.declared.state.Status.{Status}
use Rattle.aud_meaning.specs.declared.state.Status.TheVariants.{Running}
use Rattle.aud_meaning.specs.Configuration.{Own, TaskAt, All}
use Rattle.aud_meaning.specs.Control.{Seen}
use Rattle.aud_meaning.specs.Parts.{own_of}
use Rattle.aud_meaning.specs.Run.{at_once, running, seen, turn_by, under_way, usual}
use Rattle.aud_code.specs.Places.{Spot}
use Rattle.aud_code.specs.Flat.{Flat, barrier_at, flat_controls}
use Rattle.aud_state.specs.Reads.{IsPlain}
use Rattle.aud_tasks.specs.declared.turn.Turn.TheVariants.{Acting}
use Rattle.aud_abort.specs.Deferring.{deferred_in}
use Rattle.aud_tasks.specs.Turning.{coming_in, seen_in, turn_in, turned, usual_in}
use Rattle.aud_tasks.proofs.ViewLaws.Seen.{turn_law}

module _ (plan : Plan) (code : Flat) (n : ℕ) (c : All Spot) where
  abbrev o : Own
  o = own_of n c

  abbrev t : TaskAt Seen
  t = seen_in plan code n c

  abbrev d : All Seen
  d = seen plan (flat_controls plan code) c

  pub turn_as : (s : Status) → o.status ≡ s → turn_in plan code n c ≡ turn_by plan (barrier_at code) s n t d
  turn_as s is = turn_law plan code n c ∙ ap (λ x. turn_by plan (barrier_at code) x n t d) is

  pub usual_as : (servicing : Option Serving) (s : Status) → o.serving ≡ servicing → o.status ≡ s → usual_in plan code n c ≡ usual plan (barrier_at code) servicing s n t d
  usual_as servicing s serves is = ap (λ x. usual plan (barrier_at code) x o.status n t d) serves ∙ ap (λ x. usual plan (barrier_at code) servicing x n t d) is

  -- nothing defers an abnormal task, or something does
  pub at_once_as : o.abnormal ≡ true → deferred_in plan code n c ≡ false → under_way plan (barrier_at code) o.abnormal n t d ≡ at_once plan (barrier_at code) o.withdraw
  at_once_as abnormal deferred = ap (λ b. under_way plan (barrier_at code) b n t d) abnormal ∙ rw deferred refl

  pub usual_deferred : o.abnormal ≡ true → deferred_in plan code n c ≡ true → under_way plan (barrier_at code) o.abnormal n t d ≡ usual_in plan code n c
  usual_deferred abnormal deferred = ap (λ b. under_way plan (barrier_at code) b n t d) abnormal ∙ rw deferred refl

  pub usual_normal : o.abnormal ≡ false → under_way plan (barrier_at code) o.abnormal n t d ≡ usual_in plan code n c
  usual_normal normal = ap (λ b. under_way plan (barrier_at code) b n t d) normal

  -- one that runs, is not abnormal, services nothing and makes no call again acts
  pub turn_plain : IsPlain o → turn_in plan code n c ≡ turned plan code n c Acting
  turn_plain plain = turn_as Running plain.runs ∙ usual_normal plain.normal ∙ usual_as None Running plain.free plain.runs ∙ ap (λ r. running plan (barrier_at code) r (coming_in plan code n c)) plain.settled
