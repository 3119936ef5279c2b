use Rattle.aud_layout.proofs.Standing.Agreement.{layout_agreement_law}
use Rattle.aud_layout.proofs.laws.layout_agreement_law.Goals as goal

pub returns : goal.returns
returns c = layout_agreement_law
