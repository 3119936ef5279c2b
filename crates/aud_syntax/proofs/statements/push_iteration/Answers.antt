use Rattle.aud_syntax.proofs.Written.{◌then◌, nothing_written}
use Rattle.aud_syntax.proofs.statements.push_iteration.Goals as goal

pub returns-in-Forever : goal.returns-in-Forever
returns-in-Forever c = rw c.in-Forever.is nothing_written

pub returns-in-While : goal.returns-in-While
returns-in-While c = rw c.in-While.is (c.push_word.ensures then c.push_expression.ensures)
