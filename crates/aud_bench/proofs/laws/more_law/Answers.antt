use Rattle.aud_bench.proofs.Made.{made_more}
use Rattle.aud_bench.proofs.laws.more_law.Goals as goal

pub returns : goal.returns
returns c = made_more
