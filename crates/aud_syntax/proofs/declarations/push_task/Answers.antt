use Rattle.aud_syntax.proofs.Written.{◌then◌}
use Rattle.aud_syntax.proofs.declarations.push_task.Goals as goal

pub returns : goal.returns
returns c = c.push_word.ensures then c.push_type.ensures then c.push_ident.ensures then c.push_definition.ensures then c.push_last_word.ensures
