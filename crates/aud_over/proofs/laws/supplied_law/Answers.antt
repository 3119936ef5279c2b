use Rattle.aud_over.proofs.Like.{supplied_left}
use Rattle.aud_over.proofs.laws.supplied_law.Goals as goal

pub returns-clause-statements : goal.returns-clause-statements
returns-clause-statements c = λ x y choices milliseconds same. supplied_left x y choices milliseconds same

pub returns-clause-code : goal.returns-clause-code
returns-clause-code c = λ x y choices milliseconds same. supplied_left x y choices milliseconds same
