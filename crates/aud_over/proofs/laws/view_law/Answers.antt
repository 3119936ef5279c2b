use Rattle.aud_over.proofs.Left.{view_left}
use Rattle.aud_over.proofs.laws.view_law.Goals as goal

pub returns-clause-statements : goal.returns-clause-statements
returns-clause-statements c = λ plan k x y through same. view_left plan k through x y same

pub returns-clause-code : goal.returns-clause-code
returns-clause-code c = λ plan k x y through same. view_left plan k through x y same
