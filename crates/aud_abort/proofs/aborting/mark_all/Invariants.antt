use Rattle.std.proofs.Common.{◌≡◌, ℕ, Result, Bool, drop}
use Rattle.aud_text.specs.declared.raise.Raise.{Raise as RaiseOf}
use Rattle.aud_typed.specs.Tree.{Plan}
use Rattle.aud_meaning.specs.Evaluation.{Sight}
use Rattle.aud_abort.specs.Aborting.{each_abnormal}
use Rattle.aud_meaning.specs.Orders.{Orders}
use Rattle.aud_code.specs.Places.{Spot}
use Rattle.aud_abort.proofs.aborting.mark_all.Given as goal

abbrev pub invariant-loop-task : goal.invariant-loop-task
invariant-loop-task l =
    (go : Orders Spot) → (plan : Plan) → (barrier : ℕ → Sight → Result Bool RaiseOf) →
    each_abnormal go plan barrier (drop l.task-index l.hit) l.state ≡ each_abnormal go plan barrier l.hit l.fn.state
