use Rattle.std.proofs.Common.{◌≡◌, ◌++◌, ℕ, Result, Bool, drop}
use Rattle.aud_text.specs.declared.raise.Raise.{Raise as RaiseOf}
use Rattle.aud_typed.specs.Tree.{Plan}
use Rattle.aud_meaning.specs.Evaluation.{Sight}
use Rattle.aud_meaning.specs.Orders.{Orders}
use Rattle.aud_code.specs.Places.{Spot}
use Rattle.aud_meaning.specs.Tasks as effect
use Rattle.aud_abort.proofs.aborting.bodies.Given as goal

abbrev pub invariant-loop-task : goal.invariant-loop-task
invariant-loop-task l =
    (go : Orders Spot) → (plan : Plan) → (barrier : ℕ → Sight → Result Bool RaiseOf) →
    l.frames.items ++ effect.bodies_of go plan barrier (drop l.task-index l.named) l.state ≡ effect.bodies_of go plan barrier l.named l.state
