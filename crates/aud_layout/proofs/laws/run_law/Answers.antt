use Rattle.aud_layout.proofs.Flat.Laws.{run_law}
use Rattle.aud_layout.proofs.laws.run_law.Goals as goal

pub returns : goal.returns
returns c = run_law
