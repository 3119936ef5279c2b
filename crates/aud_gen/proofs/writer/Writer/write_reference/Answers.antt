use Rattle.aud_gen.proofs.Writing.{◌then◌}
use Rattle.aud_gen.proofs.writer.Writer.write_reference.Goals as goal

pub returns-in-Element : goal.returns-in-Element
returns-in-Element c = rw c.in-Element.is (c.write_integer.ensures then c.instruct-in-Element.ensures)
