use Rattle.aud_gen.proofs.Writing.{nothing_instructed}
use Rattle.aud_gen.proofs.writer.Writer.write_into.Goals as goal

pub returns-in-None : goal.returns-in-None
returns-in-None c = rw c.in-None.is nothing_instructed
