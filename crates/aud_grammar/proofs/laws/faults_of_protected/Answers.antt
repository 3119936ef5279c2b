use Rattle.aud_grammar.proofs.ProtectedRows.{wrong_objects, wrong_bodies}
use Rattle.aud_grammar.proofs.laws.faults_of_protected.Goals as goal

pub returns : goal.returns
returns c = (wrong_objects, wrong_bodies)
