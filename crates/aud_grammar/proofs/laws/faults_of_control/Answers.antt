use Rattle.aud_grammar.proofs.ControlRows.{wrong_declarations, wrong_blocks, wrong_handlers, wrong_for_loops}
use Rattle.aud_grammar.proofs.laws.faults_of_control.Goals as goal

pub returns : goal.returns
returns c = (wrong_declarations, wrong_blocks, wrong_handlers, wrong_for_loops)
