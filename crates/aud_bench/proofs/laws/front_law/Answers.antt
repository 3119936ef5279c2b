use Rattle.aud_bench.proofs.Fronts.{front_law}
use Rattle.aud_bench.proofs.laws.front_law.Goals as goal

pub returns : goal.returns
returns c = front_law
