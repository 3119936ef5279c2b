use Rattle.aud_layout.proofs.Flat.Laws.{step_law}
use Rattle.aud_layout.proofs.laws.step_law.Goals as goal

pub returns : goal.returns
returns c = step_law
