use Rattle.aud_syntax.proofs.Written.{nothing_written}
use Rattle.aud_syntax.proofs.declarations.push_type.Goals as goal

pub returns-then-is_type : goal.returns-then-is_type
returns-then-is_type c = rw c.if-is_type.true c.push_word.ensures

pub returns-else-is_type : goal.returns-else-is_type
returns-else-is_type c = rw c.if-is_type.false nothing_written
