use Rattle.aud_worlds.proofs.Isolation.{slice_law}
use Rattle.aud_worlds.proofs.laws.slice_law.Goals as goal

pub returns : goal.returns
returns c = slice_law
