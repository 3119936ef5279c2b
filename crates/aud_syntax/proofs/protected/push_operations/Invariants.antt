use Rattle.std.proofs.Common.{drop, map}
use Rattle.aud_syntax.specs.Ties.View.{plain_operation}
use Rattle.aud_syntax.specs.Why.Printed.{operations_words}
use Rattle.aud_syntax.proofs.Written.{Remains}
use Rattle.aud_syntax.proofs.protected.push_operations.Given as goal

abbrev pub invariant-loop-next : goal.invariant-loop-next
invariant-loop-next l = Remains l.fn.out l.out (operations_words (map plain_operation l.fn.operations)) (operations_words (map plain_operation (drop l.next-index l.operations)))
