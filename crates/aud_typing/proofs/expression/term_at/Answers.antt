use Rattle.aud_typing.proofs.Opened.{term_begins}
use Rattle.aud_typing.proofs.expression.term_at.Goals as goal

pub returns : goal.returns
returns c = rw term_begins c.factor_at.ensures
