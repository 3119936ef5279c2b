use Rattle.aud_grammar.proofs.RoundTrip.{one_text}
use Rattle.aud_grammar.proofs.laws.one_text_law.Goals as goal

pub returns : goal.returns
returns c = one_text
