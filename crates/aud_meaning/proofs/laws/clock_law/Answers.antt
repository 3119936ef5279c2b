use Rattle.aud_meaning.specs.Statements.{controls}
use Rattle.aud_meaning.proofs.Counts.{clock_kept}
use Rattle.aud_meaning.proofs.laws.clock_law.Goals as goal

pub returns : goal.returns
returns c = λ limits program. clock_kept program.plan (controls program) limits
