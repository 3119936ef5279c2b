use Rattle.std.proofs.Common.{arith}
use Rattle.aud_gen.proofs.Writing.{found_as}
use Rattle.aud_gen.proofs.writer.Writer.passed.Goals as goal

pub returns : goal.returns
returns c = found_as (λ it. omega (arith, it.0, it.1, c.boolean_length.ensures)) c.behind.ensures
