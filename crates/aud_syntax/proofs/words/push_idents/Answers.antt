use Rattle.aud_syntax.proofs.Written.{◌then◌}
use Rattle.aud_syntax.proofs.words.push_idents.Goals as goal

pub returns : goal.returns
returns c = c.push_ident.ensures then (rw c.deref.ensures.value at c.push_more_idents.ensures)
