use Rattle.aud_lex.proofs.Separated.{gaps_are_separators}
use Rattle.aud_lex.proofs.laws.gaps_are_separators.Goals as goal

pub returns : goal.returns
returns c = gaps_are_separators
