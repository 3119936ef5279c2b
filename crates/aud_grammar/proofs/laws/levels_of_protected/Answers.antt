use Rattle.aud_grammar.proofs.ProtectedRows.{levels_of_protected}
use Rattle.aud_grammar.proofs.laws.levels_of_protected.Goals as goal

pub returns : goal.returns
returns c = levels_of_protected
