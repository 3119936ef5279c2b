use Rattle.std.proofs.Common.{◌≡◌, ℕ, drop}
use Rattle.std.specs.Prelude.{◌||◌}
use Rattle.aud_meaning.specs.Parts.{any, contains}
use Rattle.aud_over.specs.Over.{own_serves}
use Rattle.aud_state.specs.declared.task.Task.{Task}
use Rattle.aud_state.specs.View.{plain_task}
use Rattle.aud_state.proofs.forget.served_by_tasks.Given as goal

abbrev pub invariant-loop-task : goal.invariant-loop-task
invariant-loop-task l =
    (id : ℕ) → (contains id l.served.items || any (λ (z : Task). own_serves id (plain_task z).own) (drop l.task-index l.tasks)) ≡ any (λ (z : Task). own_serves id (plain_task z).own) l.tasks
