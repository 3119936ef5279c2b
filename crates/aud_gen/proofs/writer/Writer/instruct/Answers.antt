use Rattle.aud_gen.proofs.writer.Writer.instruct.Goals as goal

pub returns : goal.returns
returns c = record { writes = c.write.ensures }
