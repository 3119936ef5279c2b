use Rattle.aud_layout.proofs.Flat.Laws.{agreement_law}
use Rattle.aud_layout.proofs.laws.agreement_law.Goals as goal

pub returns : goal.returns
returns c = agreement_law
