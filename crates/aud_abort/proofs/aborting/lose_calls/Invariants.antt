use Rattle.std.proofs.Common.{◌≡◌, ℕ, Result, Bool, drop}
use Rattle.aud_text.specs.declared.raise.Raise.{Raise as RaiseOf}
use Rattle.aud_typed.specs.Tree.{Plan}
use Rattle.aud_meaning.specs.Evaluation.{Sight}
use Rattle.aud_meaning.specs.Tasks as effect
use Rattle.aud_meaning.specs.Orders.{Orders}
use Rattle.aud_code.specs.Places.{Spot}
use Rattle.aud_abort.proofs.aborting.lose_calls.Given as goal

abbrev pub invariant-loop-id : goal.invariant-loop-id
invariant-loop-id l =
    (go : Orders Spot) → (plan : Plan) → (barrier : ℕ → Sight → Result Bool RaiseOf) →
    effect.loses_call go plan barrier l.task (drop l.id-index l.calls) l.state ≡ effect.loses_call go plan barrier l.task l.calls l.fn.state
