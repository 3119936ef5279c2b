use Rattle.std.proofs.Common.{arith}
use Rattle.aud_gen.proofs.Writing.{found_as}
use Rattle.aud_gen.proofs.writer.Writer.behind_bounds.Goals as goal

pub returns : goal.returns
returns c = found_as (λ it. omega (arith, it.0, it.1, c.place.ensures, c.integer_length.ensures, c.integer_length-2.ensures)) c.behind.ensures
