use Rattle.aud_syntax.proofs.Written.{◌then◌}
use Rattle.aud_syntax.proofs.declarations.push_object.Goals as goal

pub returns : goal.returns
returns c = c.push_idents.ensures then c.push_word.ensures then c.push_ident.ensures then c.push_maybe.ensures then c.push_last_word.ensures
