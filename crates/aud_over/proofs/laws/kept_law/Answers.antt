use Rattle.aud_over.proofs.Like.{kept_left}
use Rattle.aud_over.proofs.laws.kept_law.Goals as goal

pub returns-clause-statements : goal.returns-clause-statements
returns-clause-statements c = λ x frames calls f g. kept_left x frames calls f g

pub returns-clause-code : goal.returns-clause-code
returns-clause-code c = λ x frames calls f g. kept_left x frames calls f g
