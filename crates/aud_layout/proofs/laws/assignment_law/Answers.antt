use Rattle.aud_layout.proofs.ByKind.Assigning.{assignment_law}
use Rattle.aud_layout.proofs.laws.assignment_law.Goals as goal

pub returns : goal.returns
returns c = assignment_law
