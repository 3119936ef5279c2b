use Rattle.aud_syntax.proofs.Written.{◌then◌}
use Rattle.aud_syntax.proofs.statements.push_parameter.Goals as goal

pub returns : goal.returns
returns c = c.push_word.ensures then c.push_ident.ensures then c.push_word-2.ensures then c.push_reverse.ensures then c.push_simple.ensures then c.push_word-3.ensures then c.push_simple-2.ensures
