use Rattle.aud_syntax.proofs.Written.{nothing_written}
use Rattle.aud_syntax.proofs.statements.push_declare.Goals as goal

pub returns-then-declare : goal.returns-then-declare
returns-then-declare c = rw c.if-declare.true c.push_last_word.ensures

pub returns-else-declare : goal.returns-else-declare
returns-else-declare c = rw c.if-declare.false nothing_written
