use Rattle.aud_worlds.proofs.Ample.{ample_law}
use Rattle.aud_worlds.proofs.laws.ample_law.Goals as goal

pub returns : goal.returns
returns c = ample_law
