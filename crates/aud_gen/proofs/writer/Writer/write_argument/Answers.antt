use Rattle.aud_gen.proofs.Writing.{◌then◌}
use Rattle.aud_gen.proofs.writer.Writer.write_argument.Goals as goal

pub returns-in-ByValue : goal.returns-in-ByValue
returns-in-ByValue c = rw c.in-ByValue.is (c.write_value.ensures then c.instruct.ensures)

pub returns-in-ByCopy : goal.returns-in-ByCopy
returns-in-ByCopy c = rw c.in-ByCopy.is (c.write_reference.ensures then c.write_first_value.ensures then c.instruct-in-ByCopy.ensures)
