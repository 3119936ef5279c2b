use Rattle.aud_gen.proofs.Writing.{◌then◌}
use Rattle.aud_gen.proofs.writer.Writer.write_object.Goals as goal

pub returns : goal.returns
returns c = c.instruct.ensures then c.write_components.ensures
