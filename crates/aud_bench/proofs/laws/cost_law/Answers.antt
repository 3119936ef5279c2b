use Rattle.aud_bench.proofs.Made.{cost_more}
use Rattle.aud_bench.proofs.laws.cost_law.Goals as goal

pub returns : goal.returns
returns c = cost_more
