use Rattle.aud_grammar.proofs.Answered.{deep_place}
use Rattle.aud_grammar.proofs.laws.deep_place_law.Goals as goal

pub returns : goal.returns
returns c = deep_place
