use Rattle.aud_grammar.proofs.Answered.{first_deep}
use Rattle.aud_grammar.proofs.laws.first_deep_law.Goals as goal

pub returns : goal.returns
returns c = first_deep
