use Rattle.aud_worlds.proofs.Isolation.{isolation_law}
use Rattle.aud_worlds.proofs.laws.isolation_law.Goals as goal

pub returns : goal.returns
returns c = isolation_law
