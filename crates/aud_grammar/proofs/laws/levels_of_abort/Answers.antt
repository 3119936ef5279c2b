use Rattle.aud_grammar.proofs.AbortRows.{levels_of_abort}
use Rattle.aud_grammar.proofs.laws.levels_of_abort.Goals as goal

pub returns : goal.returns
returns c = levels_of_abort
