use Rattle.aud_syntax.proofs.Written.{◌then◌}
use Rattle.aud_syntax.proofs.declarations.push_formal.Goals as goal

pub returns : goal.returns
returns c = c.push_idents.ensures then c.push_word.ensures then c.push_mode.ensures then c.push_ident.ensures
