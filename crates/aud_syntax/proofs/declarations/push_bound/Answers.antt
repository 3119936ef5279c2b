use Rattle.aud_syntax.proofs.Written.{◌then◌}
use Rattle.aud_syntax.proofs.declarations.push_bound.Goals as goal

pub returns : goal.returns
returns c = c.push_minus.ensures then c.push_number.ensures
