use Rattle.aud_syntax.proofs.Written.{◌then◌}
use Rattle.aud_syntax.proofs.print.push_unit.Goals as goal

pub returns : goal.returns
returns c = (rw c.deref.ensures.value at c.push_contexts.ensures) then c.push_word.ensures then c.push_ident.ensures then c.push_last_word.ensures then (rw c.deref-2.ensures.value at c.push_declarations.ensures) then c.push_body.ensures
