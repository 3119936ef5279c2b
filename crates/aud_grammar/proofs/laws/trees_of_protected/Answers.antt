use Rattle.aud_grammar.proofs.ProtectedRows.{protected_objects, protected_bodies, calls_of_operations}
use Rattle.aud_grammar.proofs.laws.trees_of_protected.Goals as goal

pub returns : goal.returns
returns c = (protected_objects, protected_bodies, calls_of_operations)
