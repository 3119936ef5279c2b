use Rattle.aud_framed.proofs.Kept.{supplied_framed, framed_kept, missed_kept}
use Rattle.aud_framed.proofs.Opening.{opening_framed}
use Rattle.aud_framed.proofs.laws.kept_law.Goals as goal

pub returns-clause-supplied : goal.returns-clause-supplied
returns-clause-supplied c = supplied_framed

pub returns-clause-framed : goal.returns-clause-framed
returns-clause-framed c = framed_kept

pub returns-clause-statements : goal.returns-clause-statements
returns-clause-statements c = λ x y same missed. missed_kept x y same missed

pub returns-clause-code : goal.returns-clause-code
returns-clause-code c = λ x y same missed. missed_kept x y same missed

pub returns-clause-opens : goal.returns-clause-opens
returns-clause-opens c = opening_framed
