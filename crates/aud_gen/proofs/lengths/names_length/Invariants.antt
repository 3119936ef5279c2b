use Rattle.std.proofs.Common.{◌≡◌, ◌+◌, length, drop}
use Rattle.aud_typed.specs.Ties.View.{plain_task_names}
use Rattle.aud_layout.specs.Instructions.{names_code}
use Rattle.aud_gen.specs.Writes.{counted}
use Rattle.aud_gen.proofs.lengths.names_length.Given as goal

abbrev pub invariant-loop-task : goal.invariant-loop-task
invariant-loop-task l = (l.total ≡ counted l.total) × (counted (l.total + length (names_code (plain_task_names (drop l.task-index l.tasks)))) ≡ counted (length (names_code (plain_task_names l.tasks))))
