use Rattle.std.proofs.Common.{sym, ◌∙◌}
use Rattle.aud_state.proofs.task.Task.open_alternatives.Goals as goal

pub returns-then-is_open : goal.returns-then-is_open
returns-then-is_open c = rw (sym c.is_open.ensures ∙ c.if-is_open.true) (rw c.accepts.ensures at c.in_ok-numbers.ensures)

pub returns : goal.returns
returns c = rw (sym c.is_open.ensures ∙ c.if-is_open.false) c.new.ensures.items
