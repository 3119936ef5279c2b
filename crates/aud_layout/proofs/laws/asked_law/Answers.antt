use Rattle.aud_layout.proofs.Asking.Steps.{asked_law}
use Rattle.aud_layout.proofs.laws.asked_law.Goals as goal

pub returns : goal.returns
returns c = asked_law
