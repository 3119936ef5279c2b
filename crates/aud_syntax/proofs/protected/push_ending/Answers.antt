use Rattle.aud_syntax.proofs.Written.{◌then◌}
use Rattle.aud_syntax.proofs.protected.push_ending.Goals as goal

pub returns : goal.returns
returns c = c.push_word.ensures then c.push_end_name.ensures then c.push_last_word.ensures
