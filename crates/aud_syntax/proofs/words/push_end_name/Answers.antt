use Rattle.aud_syntax.proofs.Written.{nothing_written}
use Rattle.aud_syntax.proofs.words.push_end_name.Goals as goal

pub returns-in-None : goal.returns-in-None
returns-in-None c = rw c.in-None.is nothing_written
