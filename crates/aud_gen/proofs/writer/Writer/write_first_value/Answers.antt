use Rattle.aud_gen.proofs.Writing.{◌then◌}
use Rattle.aud_gen.proofs.writer.Writer.write_first_value.Goals as goal

pub returns-then-is_in : goal.returns-then-is_in
returns-then-is_in c = rw c.if-is_in.true (c.instruct.ensures then c.instruct-then-is_in.ensures)
