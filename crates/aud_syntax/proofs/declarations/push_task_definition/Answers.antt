use Rattle.aud_syntax.proofs.Written.{◌then◌}
use Rattle.aud_syntax.proofs.declarations.push_task_definition.Goals as goal

pub returns : goal.returns
returns c = c.push_last_word.ensures then (rw c.deref.ensures.value at c.push_entries.ensures) then c.push_word.ensures then c.push_end_name.ensures
