use Rattle.aud_worlds.proofs.Awaited.{awaited_law}
use Rattle.aud_worlds.proofs.laws.awaited_law.Goals as goal

pub returns : goal.returns
returns c = awaited_law
