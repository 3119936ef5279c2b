use Rattle.aud_syntax.proofs.Written.{◌then◌}
use Rattle.aud_syntax.proofs.statements.push_abort.Goals as goal

pub returns : goal.returns
returns c = c.push_word.ensures then (c.push_name.ensures then (rw c.deref.ensures.value at c.push_more_names.ensures)) then c.push_last_word.ensures
