use Rattle.aud_over.proofs.Left.{again}
use Rattle.aud_over.proofs.laws.again_law.Goals as goal

pub returns-clause-statements : goal.returns-clause-statements
returns-clause-statements c = λ x. again x

pub returns-clause-code : goal.returns-clause-code
returns-clause-code c = λ x. again x
