use Rattle.aud_grammar.proofs.Answered.{wrong_place}
use Rattle.aud_grammar.proofs.laws.wrong_place_law.Goals as goal

pub returns : goal.returns
returns c = wrong_place
