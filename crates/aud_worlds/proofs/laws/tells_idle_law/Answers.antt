use Rattle.aud_worlds.proofs.Idle.{tells_idle_law}
use Rattle.aud_worlds.proofs.laws.tells_idle_law.Goals as goal

pub returns : goal.returns
returns c = tells_idle_law
