use Rattle.aud_gen.proofs.Writing.{◌then◌}
use Rattle.aud_gen.proofs.writer.Writer.write_called.Goals as goal

pub returns : goal.returns
returns c = c.write_arguments.ensures then c.write_form.ensures
