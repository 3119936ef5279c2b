use Rattle.aud_syntax.proofs.Written.{◌then◌}
use Rattle.aud_syntax.proofs.declarations.push_head.Goals as goal

pub returns : goal.returns
returns c = c.push_word.ensures then c.push_ident.ensures then c.push_formals.ensures
