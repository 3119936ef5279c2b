use Rattle.aud_syntax.proofs.Written.{◌more◌}
use Rattle.aud_syntax.proofs.words.push_number.Goals as goal

pub returns : goal.returns
returns c = record { appends = c.push_whole.ensures more c.push.ensures }
