use Rattle.aud_bench.proofs.Told.{alone_never}
use Rattle.aud_bench.proofs.laws.never_law.Goals as goal

pub returns : goal.returns
returns c = alone_never
