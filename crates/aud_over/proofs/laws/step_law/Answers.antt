use Rattle.aud_over.proofs.Left.{step_left}
use Rattle.aud_over.proofs.laws.step_law.Goals as goal

pub returns-clause-statements : goal.returns-clause-statements
returns-clause-statements c = λ plan k limits x y m through same enabled. step_left plan k through limits x y m same enabled

pub returns-clause-code : goal.returns-clause-code
returns-clause-code c = λ plan k limits x y m through same enabled. step_left plan k through limits x y m same enabled
