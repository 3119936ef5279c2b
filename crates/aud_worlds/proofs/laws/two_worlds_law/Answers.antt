use Rattle.aud_worlds.proofs.Isolation.{two_worlds_law}
use Rattle.aud_worlds.proofs.laws.two_worlds_law.Goals as goal

pub returns : goal.returns
returns c = two_worlds_law
