use Rattle.aud_worlds.proofs.Isolation.{session_law}
use Rattle.aud_worlds.proofs.laws.session_law.Goals as goal

pub returns : goal.returns
returns c = session_law
