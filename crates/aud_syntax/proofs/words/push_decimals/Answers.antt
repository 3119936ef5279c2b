use Rattle.aud_syntax.proofs.Written.{◌more◌}
use Rattle.aud_syntax.proofs.words.push_decimals.Goals as goal

pub returns-in-Some : goal.returns-in-Some
returns-in-Some c = rw c.in-Some.is (c.push_digit.ensures more c.push_digit-in-Some.ensures more c.push_digit-in-Some-2.ensures)
