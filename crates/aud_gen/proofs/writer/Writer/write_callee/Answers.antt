use Rattle.aud_gen.proofs.Writing.{◌then◌, nothing_instructed}
use Rattle.aud_gen.proofs.writer.Writer.write_callee.Goals as goal

pub returns-in-Task : goal.returns-in-Task
returns-in-Task c = rw c.in-Task.is (c.write_task.ensures then c.instruct.ensures then c.instruct-in-Task.ensures)

pub returns-in-Object : goal.returns-in-Object
returns-in-Object c = rw c.in-Object.is nothing_instructed
