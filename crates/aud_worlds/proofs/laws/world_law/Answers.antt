use Rattle.aud_worlds.proofs.Isolation.{world_law}
use Rattle.aud_worlds.proofs.laws.world_law.Goals as goal

pub returns : goal.returns
returns c = world_law
