use Rattle.aud_syntax.proofs.Written.{◌then◌}
use Rattle.aud_syntax.proofs.declarations.push_range.Goals as goal

pub returns : goal.returns
returns c = c.push_bound.ensures then c.push_word.ensures then c.push_bound-2.ensures
