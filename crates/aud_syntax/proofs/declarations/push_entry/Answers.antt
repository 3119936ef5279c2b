use Rattle.aud_syntax.proofs.Written.{◌then◌}
use Rattle.aud_syntax.proofs.declarations.push_entry.Goals as goal

pub returns : goal.returns
returns c = (rw c.deref.ensures.value at c.push_head.ensures) then c.push_last_word.ensures
