use Rattle.aud_gen.proofs.writer.Writer.write_literal.Goals as goal

pub returns-in-Err : goal.returns-in-Err
returns-in-Err c = record { writes = c.refuse.ensures _ _ }
