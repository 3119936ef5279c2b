use Rattle.aud_gen.proofs.writer.Writer.refuse.Goals as goal

pub returns : goal.returns
returns c = λ begun lines. record { unless_refused = λ e. cc }
