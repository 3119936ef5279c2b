use Rattle.aud_syntax.proofs.Written.{◌then◌}
use Rattle.aud_syntax.proofs.protected.push_operation_head.Goals as goal

pub returns-in-Entry : goal.returns-in-Entry
returns-in-Entry c = rw c.in-Entry.is (c.push_head.ensures then c.push_word.ensures then c.push_expression.ensures)

pub returns-in-Function : goal.returns-in-Function
returns-in-Function c = rw c.in-Function.is (c.push_head-in-Function.ensures then c.push_word-in-Function.ensures then c.push_ident.ensures)
