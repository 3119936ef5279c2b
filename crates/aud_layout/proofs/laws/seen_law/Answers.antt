use Rattle.aud_layout.proofs.Flat.Laws.{seen_law}
use Rattle.aud_layout.proofs.laws.seen_law.Goals as goal

pub returns : goal.returns
returns c = seen_law
