use Rattle.aud_syntax.proofs.Written.{◌more◌}
use Rattle.aud_syntax.proofs.words.push_real.Goals as goal

pub returns : goal.returns
returns c = record { appends = (c.push_whole.ensures more c.push.ensures more c.push_decimals.ensures) more c.push-2.ensures }
