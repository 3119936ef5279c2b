use Rattle.aud_syntax.proofs.Written.{◌then◌, nothing_written}
use Rattle.aud_syntax.proofs.protected.push_private.Goals as goal

pub returns-in-None : goal.returns-in-None
returns-in-None c = rw c.in-None.is nothing_written

pub returns-in-Some : goal.returns-in-Some
returns-in-Some c = rw c.in-Some.is (c.push_word.ensures then (rw c.deref.ensures.value at c.push_private_items.ensures))
