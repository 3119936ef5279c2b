use Rattle.aud_syntax.proofs.Written.{nothing_written}
use Rattle.aud_syntax.proofs.declarations.push_mode.Goals as goal

pub returns-in-Unstated : goal.returns-in-Unstated
returns-in-Unstated c = rw c.in-Unstated.is nothing_written
