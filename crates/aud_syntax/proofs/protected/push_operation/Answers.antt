use Rattle.aud_syntax.proofs.Written.{◌then◌}
use Rattle.aud_syntax.proofs.protected.push_operation.Goals as goal

pub returns-in-Procedure : goal.returns-in-Procedure
returns-in-Procedure c = rw c.in-Procedure.is ((rw c.deref.ensures.value at c.push_head.ensures) then c.push_last_word.ensures)

pub returns-in-Function : goal.returns-in-Function
returns-in-Function c = rw c.in-Function.is ((rw c.deref-in-Function.ensures.value at c.push_head-in-Function.ensures) then c.push_word.ensures then c.push_ident.ensures then c.push_last_word-in-Function.ensures)
