use Rattle.std.proofs.Common.{◌≡◌, ℕ, drop}
use Rattle.std.specs.Prelude.{◌||◌}
use Rattle.aud_meaning.specs.Parts.{any, contains}
use Rattle.aud_state.specs.declared.task.Task.{Task}
use Rattle.aud_state.specs.Held.{keeps}
use Rattle.aud_state.specs.View.{plain_task}
use Rattle.aud_state.proofs.forget.kept_by_tasks.Given as goal

abbrev pub invariant-loop-task : goal.invariant-loop-task
invariant-loop-task l =
    (frame : ℕ) → (contains frame l.kept.items || any (λ (z : Task). keeps frame (plain_task z)) (drop l.task-index l.tasks)) ≡ any (λ (z : Task). keeps frame (plain_task z)) l.tasks
