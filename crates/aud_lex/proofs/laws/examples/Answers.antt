use Rattle.aud_lex.proofs.Recognized.{examples}
use Rattle.aud_lex.proofs.laws.examples.Goals as goal

pub returns : goal.returns
returns c = examples
