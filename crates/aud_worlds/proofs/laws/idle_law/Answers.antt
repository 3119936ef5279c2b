use Rattle.aud_worlds.proofs.Idle.{idle_law}
use Rattle.aud_worlds.proofs.laws.idle_law.Goals as goal

pub returns : goal.returns
returns c = idle_law
