use Rattle.aud_over.proofs.Left.{run_left}
use Rattle.aud_over.proofs.laws.run_law.Goals as goal

pub returns-clause-statements : goal.returns-clause-statements
returns-clause-statements c = λ plan k limits n x y through same. run_left plan k through limits n x y same

pub returns-clause-code : goal.returns-clause-code
returns-clause-code c = λ plan k limits n x y through same. run_left plan k through limits n x y same
