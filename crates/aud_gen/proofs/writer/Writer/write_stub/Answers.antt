use Rattle.aud_gen.proofs.writer.Writer.write_stub.Goals as goal

pub returns : goal.returns
returns c = rw c.place.ensures at c.end.ensures
