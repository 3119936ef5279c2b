use Rattle.aud_syntax.proofs.Written.{nothing_written}
use Rattle.aud_syntax.proofs.statements.push_reverse.Goals as goal

pub returns-then-reverse : goal.returns-then-reverse
returns-then-reverse c = rw c.if-reverse.true c.push_word.ensures

pub returns-else-reverse : goal.returns-else-reverse
returns-else-reverse c = rw c.if-reverse.false nothing_written
