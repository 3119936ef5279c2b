use Rattle.aud_grammar.proofs.Answered.{the_spelled}
use Rattle.aud_grammar.proofs.laws.spells_law.Goals as goal

pub returns : goal.returns
returns c = the_spelled
