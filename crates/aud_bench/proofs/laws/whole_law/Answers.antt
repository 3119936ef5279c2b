use Rattle.aud_bench.proofs.Fronts.{whole_law}
use Rattle.aud_bench.proofs.laws.whole_law.Goals as goal

pub returns : goal.returns
returns c = whole_law
