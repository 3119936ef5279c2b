use Rattle.aud_worlds.proofs.LastTaken.{last_law}
use Rattle.aud_worlds.proofs.laws.last_law.Goals as goal

pub returns : goal.returns
returns c = last_law
