use Rattle.aud_worlds.proofs.Isolation.{headline_law}
use Rattle.aud_worlds.proofs.laws.headline_law.Goals as goal

pub returns : goal.returns
returns c = headline_law
