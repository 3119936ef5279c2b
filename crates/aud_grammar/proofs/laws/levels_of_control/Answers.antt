use Rattle.aud_grammar.proofs.ControlRows.{levels_of_control}
use Rattle.aud_grammar.proofs.laws.levels_of_control.Goals as goal

pub returns : goal.returns
returns c = levels_of_control
