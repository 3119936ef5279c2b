use Rattle.aud_layout.proofs.ByKind.Idling.{null_law}
use Rattle.aud_layout.proofs.laws.null_law.Goals as goal

pub returns : goal.returns
returns c = null_law
