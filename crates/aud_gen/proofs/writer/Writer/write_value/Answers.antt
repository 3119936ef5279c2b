use Rattle.aud_gen.proofs.Writing.{◌then◌}
use Rattle.aud_gen.proofs.writer.Writer.write_value.Goals as goal

pub returns-in-Whole : goal.returns-in-Whole
returns-in-Whole c = rw c.in-Whole.is (c.write_integer.ensures then c.instruct.ensures)

pub returns-in-Truth : goal.returns-in-Truth
returns-in-Truth c = rw c.in-Truth.is (c.write_boolean.ensures then c.instruct-in-Truth.ensures)
