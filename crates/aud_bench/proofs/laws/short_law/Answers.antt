use Rattle.aud_bench.proofs.Made.{short_law}
use Rattle.aud_bench.proofs.laws.short_law.Goals as goal

pub returns : goal.returns
returns c = short_law
