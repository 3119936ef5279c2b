use Rattle.aud_gen.proofs.Writing.{◌then◌}
use Rattle.aud_gen.proofs.writer.Writer.write_calling.Goals as goal

pub returns : goal.returns
returns c = c.write_into.ensures then (rw c.deref.ensures.value at c.write_arguments.ensures)
