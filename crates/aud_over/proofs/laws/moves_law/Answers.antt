use Rattle.aud_over.proofs.Left.{moves_left}
use Rattle.aud_over.proofs.laws.moves_law.Goals as goal

pub returns-clause-statements : goal.returns-clause-statements
returns-clause-statements c = λ plan k x y through same. moves_left plan k through x y same

pub returns-clause-code : goal.returns-clause-code
returns-clause-code c = λ plan k x y through same. moves_left plan k through x y same
