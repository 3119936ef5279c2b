use Rattle.std.proofs.Common.{drop}
use Rattle.aud_typed.specs.Ties.View.{plain_task_names}
use Rattle.aud_layout.specs.Instructions.{names_code}
use Rattle.aud_gen.proofs.Writing.{Remains}
use Rattle.aud_gen.proofs.writer.Writer.write_names.Given as goal

abbrev pub invariant-loop-task : goal.invariant-loop-task
invariant-loop-task l = Remains l.fn.self l.self (names_code (plain_task_names l.tasks)) (names_code (plain_task_names (drop l.task-index l.tasks)))
