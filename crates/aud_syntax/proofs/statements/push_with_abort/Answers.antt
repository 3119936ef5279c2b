use Rattle.aud_syntax.proofs.Written.{nothing_written}
use Rattle.aud_syntax.proofs.statements.push_with_abort.Goals as goal

pub returns-then-with_abort : goal.returns-then-with_abort
returns-then-with_abort c = rw c.if-with_abort.true c.push_two_words.ensures

pub returns-else-with_abort : goal.returns-else-with_abort
returns-else-with_abort c = rw c.if-with_abort.false nothing_written
