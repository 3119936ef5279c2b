use Rattle.aud_syntax.proofs.Written.{◌then◌}
use Rattle.aud_syntax.proofs.protected.push_protected.Goals as goal

pub returns : goal.returns
returns c = c.push_word.ensures then c.push_ident.ensures then c.push_last_word.ensures then (rw c.deref.ensures.value at c.push_operations.ensures) then c.push_private.ensures then c.push_ending.ensures
