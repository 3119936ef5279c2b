use Rattle.aud_syntax.proofs.Written.{nothing_written}
use Rattle.aud_syntax.proofs.declarations.push_minus.Goals as goal

pub returns-then-negative : goal.returns-then-negative
returns-then-negative c = rw c.if-negative.true c.push_word.ensures

pub returns-else-negative : goal.returns-else-negative
returns-else-negative c = rw c.if-negative.false nothing_written
