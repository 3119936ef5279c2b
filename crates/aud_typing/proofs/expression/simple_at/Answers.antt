use Rattle.aud_typing.proofs.Opened.{simple_begins}
use Rattle.aud_typing.proofs.expression.simple_at.Goals as goal

pub returns-in-Some : goal.returns-in-Some
returns-in-Some c = rw simple_begins (rw c.in-Some.is)

pub returns-in-None : goal.returns-in-None
returns-in-None c = rw simple_begins (rw c.in-None.is c.term_at.ensures)
