use Rattle.aud_bench.proofs.Told.{alone_count}
use Rattle.aud_bench.proofs.laws.count_law.Goals as goal

pub returns : goal.returns
returns c = alone_count
