use Rattle.std.proofs.Common.{◌≡◌, length, refl, arith}
use Rattle.aud_typed.specs.Tree.{chained, binary}
use Rattle.aud_typed.specs.Ties.View.{plain_integer}
use Rattle.aud_typed.proofs.Chains.{plain_operation}
use Rattle.aud_layout.specs.Instructions.{integer_code}
use Rattle.aud_gen.specs.Writes.{counted}
use Rattle.aud_gen.proofs.Loops.{loop_begins, loop_goes_on, loop_ends}
use Rattle.aud_gen.proofs.Writing.{whole_chain, operation_length}
use Rattle.aud_gen.proofs.lengths.+integer_length.Goals as goal

pub loop-next-init : goal.loop-next-init
loop-next-init t c =
    loop_begins chained plain_operation c.deref-next-items.result.now (plain_integer c.args.e.now) (plain_integer c.deref-in-Chain.result.now) (λ done. c.integer_length-total.result ≡ counted (length (integer_code done))) c.integer_length-total.ensures
    (whole_chain c.args.e.now c.deref-in-Chain.result.now c.deref-next-items.result.now c.in-Chain.first c.in-Chain.rest c.in-Chain.is c.deref-in-Chain.ensures c.deref-next-items.ensures.value)

pub loop-next-preserved : goal.loop-next-preserved
loop-next-preserved t c =
    loop_goes_on chained plain_operation (λ d o. binary o.operator d o.right) (λ d o os. refl) c.deref-next-items.result.now c.loop-next.next-index c.next-item.result (omega arith) c.next-item.is (plain_integer c.args.e.now) (λ done. c.loop-next.total ≡ counted (length (integer_code done))) (λ done. c.saturating_add-total.result ≡ counted (length (integer_code done)))
    (λ d h. omega (arith, h, operation_length d (plain_operation c.next-item.result))) c.loop-next.invariant

pub returns-after-loop-next : goal.returns-after-loop-next
returns-after-loop-next t c =
    loop_ends chained plain_operation (λ d. refl) c.deref-next-items.result.now c.loop-next.next-index (plain_integer c.args.e.now) (λ done. c.loop-next.total ≡ counted (length (integer_code done))) c.loop-next-test.false c.loop-next.invariant
