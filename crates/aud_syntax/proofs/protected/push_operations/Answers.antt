use Rattle.std.proofs.Common.{map, refl, arith}
use Rattle.aud_syntax.specs.Ties.View.{plain_operation}
use Rattle.aud_syntax.specs.Why.Printed.{operation_words, operations_words}
use Rattle.aud_syntax.proofs.Written.{all_remain, next_written, loop_ends}
use Rattle.aud_syntax.proofs.protected.push_operations.Goals as goal

pub loop-next-init : goal.loop-next-init
loop-next-init c = all_remain _

pub loop-next-preserved : goal.loop-next-preserved
loop-next-preserved c =
    next_written (λ xs. operations_words (map plain_operation xs)) (λ x. operation_words (plain_operation x)) (λ x xs. refl) c.args.operations.now c.loop-next.next-index c.next-item.result (omega arith) c.next-item.is c.loop-next.invariant c.push_operation.ensures

pub returns : goal.returns
returns c = loop_ends (λ xs. operations_words (map plain_operation xs)) refl c.args.operations.now c.loop-next.next-index c.loop-next-test.false c.loop-next.invariant
