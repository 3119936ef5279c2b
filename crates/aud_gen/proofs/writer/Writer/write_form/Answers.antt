use Rattle.aud_gen.proofs.Writing.{nothing_instructed}
use Rattle.aud_gen.proofs.writer.Writer.write_form.Goals as goal

pub returns-in-Plain : goal.returns-in-Plain
returns-in-Plain c = rw c.in-Plain.is nothing_instructed

pub returns-in-Conditional : goal.returns-in-Conditional
returns-in-Conditional c = rw c.in-Conditional.is nothing_instructed
