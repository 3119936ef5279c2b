use Rattle.std.proofs.Common.{◌∷◌, [], arith, length-append}
use Rattle.aud_typed.specs.Ties.View.{plain_task}
use Rattle.aud_code.specs.Instruction.{Name}
use Rattle.aud_layout.specs.Instructions.{task_code}
use Rattle.aud_gen.proofs.lengths.requeue_length.Goals as goal

pub returns-in-Task : goal.returns-in-Task
returns-in-Task c = rw c.in-Task.is (omega (arith, c.task_length.ensures, length-append (task_code (plain_task c.in-Task.task)) (Name ∷ [])))
