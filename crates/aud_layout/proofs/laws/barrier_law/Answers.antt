use Rattle.aud_layout.proofs.Asking.Steps.{barrier_law}
use Rattle.aud_layout.proofs.laws.barrier_law.Goals as goal

pub returns : goal.returns
returns c = barrier_law
