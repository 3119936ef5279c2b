use Rattle.std.proofs.Common.{◌≡◌, ℕ, Result, Bool, drop}
use Rattle.aud_text.specs.declared.raise.Raise.{Raise as RaiseOf}
use Rattle.aud_typed.specs.Tree.{Plan}
use Rattle.aud_meaning.specs.Evaluation.{Sight}
use Rattle.aud_meaning.specs.Tasks as effect
use Rattle.aud_meaning.specs.Orders.{Orders}
use Rattle.aud_code.specs.Places.{Spot}
use Rattle.aud_sequential.specs.Shown.{plans_of}
use Rattle.aud_masters.proofs.activation.begin_all.Given as goal

abbrev pub invariant-loop-task : goal.invariant-loop-task
invariant-loop-task l =
    (go : Orders Spot) → (plan : Plan) → plan.units ≡ plans_of l.units → (barrier : ℕ → Sight → Result Bool RaiseOf) →
    effect.begin_all go plan barrier l.activator (drop l.task-index l.tasks) l.state ≡ effect.begin_all go plan barrier l.activator l.tasks l.fn.state
