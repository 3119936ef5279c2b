use Rattle.aud_bench.proofs.Made.{made_grows}
use Rattle.aud_bench.proofs.laws.grows_law.Goals as goal

pub returns : goal.returns
returns c = made_grows
