use Rattle.aud_grammar.proofs.AbortRows.{trees_of_abort}
use Rattle.aud_grammar.proofs.laws.trees_of_abort.Goals as goal

pub returns : goal.returns
returns c = trees_of_abort
