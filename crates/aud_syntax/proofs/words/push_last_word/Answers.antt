use Rattle.aud_syntax.proofs.Written.{◌more◌}
use Rattle.aud_syntax.proofs.words.push_last_word.Goals as goal

pub returns : goal.returns
returns c = record { appends = c.push_bytes.ensures more c.push.ensures }
