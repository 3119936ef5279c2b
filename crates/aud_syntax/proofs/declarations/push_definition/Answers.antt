use Rattle.aud_syntax.proofs.Written.{nothing_written}
use Rattle.aud_syntax.proofs.declarations.push_definition.Goals as goal

pub returns-in-None : goal.returns-in-None
returns-in-None c = rw c.in-None.is nothing_written
