use Rattle.aud_worlds.proofs.Isolation.{others_law}
use Rattle.aud_worlds.proofs.laws.others_law.Goals as goal

pub returns : goal.returns
returns c = others_law
