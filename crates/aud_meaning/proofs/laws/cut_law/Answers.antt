use Rattle.aud_meaning.specs.Statements.{controls}
use Rattle.aud_meaning.proofs.Counts.{run_cut}
use Rattle.aud_meaning.proofs.laws.cut_law.Goals as goal

pub returns : goal.returns
returns c = λ limits program. run_cut program.plan (controls program) limits
