use Rattle.aud_gen.proofs.Writing.{◌then◌}
use Rattle.aud_gen.proofs.writer.Writer.write_name.Goals as goal

pub returns : goal.returns
returns c = c.write_task.ensures then c.instruct.ensures
