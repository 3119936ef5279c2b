use Rattle.aud_gen.proofs.Writing.{◌then◌}
use Rattle.aud_gen.proofs.writer.Writer.write_delay.Goals as goal

pub returns-in-Seconds : goal.returns-in-Seconds
returns-in-Seconds c = rw c.in-Seconds.is (c.write_integer.ensures then c.instruct-in-Seconds.ensures)
