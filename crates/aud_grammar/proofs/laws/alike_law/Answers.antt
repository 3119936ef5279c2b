use Rattle.aud_grammar.proofs.Places.{alike_read}
use Rattle.aud_grammar.proofs.laws.alike_law.Goals as goal

pub returns : goal.returns
returns c = alike_read
