use Rattle.aud_typing.proofs.Opened.{prefix_shows}
use Rattle.aud_typing.proofs.expression.prefix.Goals as goal

pub returns : goal.returns
returns c = prefix_shows c.args.name.now c.args.scope.now c.args.faults.now c.part_arguments.new.faults c.check_prefix.new.faults c.in_ok-last.last (rw c.in_ok-nothing.ensures at c.in_ok-last.ensures) (rw (c.deref.ensures.value, c.deref-2.ensures) at c.check_prefix.ensures)
