use Rattle.aud_meaning.specs.Statements.{controls}
use Rattle.aud_meaning.proofs.Counts.{run_full}
use Rattle.aud_meaning.proofs.laws.steps_law.Goals as goal

pub returns : goal.returns
returns c = λ limits program. run_full program.plan (controls program) limits
