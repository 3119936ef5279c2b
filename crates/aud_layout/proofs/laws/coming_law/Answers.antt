use Rattle.aud_layout.proofs.Asking.Steps.{coming_law}
use Rattle.aud_layout.proofs.laws.coming_law.Goals as goal

pub returns : goal.returns
returns c = coming_law
