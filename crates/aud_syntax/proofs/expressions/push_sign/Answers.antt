use Rattle.aud_syntax.proofs.Written.{nothing_written}
use Rattle.aud_syntax.proofs.expressions.push_sign.Goals as goal

pub returns-in_default : goal.returns-in_default
returns-in_default c = rw c.in_default.is nothing_written
