use Rattle.aud_syntax.proofs.Written.{◌then◌}
use Rattle.aud_syntax.proofs.declarations.push_index.Goals as goal

pub returns : goal.returns
returns c = c.push_word.ensures then c.push_range.ensures then c.push_word-2.ensures
