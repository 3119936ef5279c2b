-- What is shown of the next step of a task.
use Rattle.std.proofs.Common.{◌≡◌, ℕ, Option, ap, ◌∙◌}
use Rattle.aud_typed.specs.Tree.{Plan}
use Rattle.aud_meaning.specs.declared.state.Serving.{Serving}
use Rattle.aud_meaning.specs.declared.state.Status.{Status}
use Rattle.aud_meaning.specs.declared.state.StepKind.{StepKind}
use Rattle.aud_meaning.specs.Configuration.{Own, TaskAt, All}
use Rattle.aud_meaning.specs.Control.{Coming, Seen, simply, ending, selecting, calling, starting}
use Rattle.aud_meaning.specs.Listings.{coming_kind, usual_at}
use Rattle.aud_meaning.specs.Parts.{own_of}
use Rattle.aud_code.specs.Places.{Spot}
use Rattle.aud_code.specs.Flat.{Flat, barrier_at}
use Rattle.aud_state.specs.Reads.{IsOfItsKind}
use Rattle.aud_tasks.specs.Listed.{usual_place_in}
use Rattle.aud_tasks.specs.Turning.{seen_in}

module _ (plan : Plan) (code : Flat) (n : ℕ) (c : All Spot) where
  abbrev o : Own
  o = own_of n c

  abbrev t : TaskAt Seen
  t = seen_in plan code n c

  pub kind_as : (own : Own) (k : StepKind) (x : Coming) → IsOfItsKind own k x → k ≡ coming_kind plan (barrier_at code) x own
  kind_as own k (simply w) h = h
  kind_as own k ending h = h
  kind_as own k (selecting ones) h = h
  kind_as own k (calling task entry) h = h
  kind_as own k (starting object reading) h = h

  pub place_as : (servicing : Option Serving) (s : Status) → o.serving ≡ servicing → o.status ≡ s → usual_place_in plan code n c ≡ usual_at plan (barrier_at code) servicing s t
  place_as servicing s serves is = ap (λ x. usual_at plan (barrier_at code) x o.status t) serves ∙ ap (λ x. usual_at plan (barrier_at code) servicing x t) is
