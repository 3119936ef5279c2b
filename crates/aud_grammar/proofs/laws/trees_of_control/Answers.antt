use Rattle.aud_grammar.proofs.ControlRows.{declarations, blocks, exceptions, for_loops}
use Rattle.aud_grammar.proofs.laws.trees_of_control.Goals as goal

pub returns : goal.returns
returns c = (declarations, blocks, exceptions, for_loops)
