use Rattle.aud_gen.proofs.Writing.{◌then◌}
use Rattle.aud_gen.proofs.writer.Writer.write_choice_code.Goals as goal

pub returns : goal.returns
returns c = c.write_openings.ensures then c.instruct.ensures then c.write_times.ensures
