use Rattle.aud_layout.proofs.Flat.Laws.{start_law}
use Rattle.aud_layout.proofs.laws.start_law.Goals as goal

pub returns : goal.returns
returns c = start_law
