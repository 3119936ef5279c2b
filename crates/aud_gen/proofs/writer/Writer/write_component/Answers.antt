use Rattle.aud_gen.proofs.Writing.{◌then◌}
use Rattle.aud_gen.proofs.writer.Writer.write_component.Goals as goal

pub returns : goal.returns
returns c = c.write_value.ensures then c.instruct.ensures
