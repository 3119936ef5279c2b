use Rattle.aud_layout.proofs.Flat.Laws.{opening_law}
use Rattle.aud_layout.proofs.laws.opening_law.Goals as goal

pub returns : goal.returns
returns c = opening_law
