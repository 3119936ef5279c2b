use Rattle.std.proofs.Common.{[], ◌∷◌, ◌++◌, refl}
use Rattle.aud_typed.specs.Ties.View.{plain_task}
use Rattle.aud_code.specs.Instruction.{Name}
use Rattle.aud_layout.specs.Instructions.{task_code}
use Rattle.aud_gen.proofs.Entering.{one_step}
use Rattle.aud_gen.proofs.writer.Writer.write_requeue.Goals as goal

pub returns-in-Task : goal.returns-in-Task
returns-in-Task c = rw c.in-Task.is (one_step (task_code (plain_task c.in-Task.task) ++ Name ∷ []) _ _ refl c.write_name.ensures c.concern.ensures)

pub returns-in-Object : goal.returns-in-Object
returns-in-Object c = rw c.in-Object.is c.concern-in-Object.ensures
