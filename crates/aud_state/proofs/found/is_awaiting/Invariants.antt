use Rattle.std.proofs.Common.{◌≡◌, drop, ℕ, Bool, Result}
use Rattle.aud_text.specs.declared.raise.Raise.{Raise as RaiseOf}
use Rattle.aud_typed.specs.Tree.{Plan}
use Rattle.aud_meaning.specs.Evaluation.{Sight}
use Rattle.aud_meaning.specs.Orders.{Orders}
use Rattle.aud_meaning.specs.Parts.{any}
use Rattle.aud_meaning.specs.Tasks as effect
use Rattle.aud_code.specs.Places.{Spot}
use Rattle.aud_state.specs.declared.task.Task.{Task}
use Rattle.aud_state.specs.View.{plain_task}
use Rattle.aud_state.proofs.found.is_awaiting.Given as goal

abbrev pub invariant-loop-task : goal.invariant-loop-task
invariant-loop-task l = (go : Orders Spot) → (plan : Plan) → (barrier : ℕ → Sight → Result Bool RaiseOf) → any (λ (z : Task). effect.is_awaited_by go plan barrier l.activator (plain_task z)) (drop l.task-index l.tasks) ≡ any (λ (z : Task). effect.is_awaited_by go plan barrier l.activator (plain_task z)) l.tasks
