use Rattle.aud_syntax.proofs.Written.{◌then◌}
use Rattle.aud_syntax.proofs.statements.push_exit.Goals as goal

pub returns : goal.returns
returns c = c.push_word.ensures then c.push_end_name.ensures then c.push_maybe.ensures then c.push_last_word.ensures
