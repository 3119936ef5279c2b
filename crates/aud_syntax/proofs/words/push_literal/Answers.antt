use Rattle.aud_syntax.proofs.Written.{◌more◌}
use Rattle.aud_syntax.proofs.words.push_literal.Goals as goal

pub returns : goal.returns
returns c = record { appends = (c.push.ensures more (rw c.as_bytes.ensures at c.push_doubled.ensures) more c.push-2.ensures) more c.push-3.ensures }
