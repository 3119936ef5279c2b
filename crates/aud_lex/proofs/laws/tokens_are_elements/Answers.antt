use Rattle.aud_lex.proofs.Recognized.{tokens_are_elements}
use Rattle.aud_lex.proofs.laws.tokens_are_elements.Goals as goal

pub returns : goal.returns
returns c = tokens_are_elements
