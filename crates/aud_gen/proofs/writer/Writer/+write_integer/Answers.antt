use Rattle.std.proofs.Common.{refl, arith}
use Rattle.aud_typed.specs.Tree.{chained, binary}
use Rattle.aud_typed.specs.Ties.View.{plain_integer}
use Rattle.aud_typed.proofs.Chains.{plain_operation}
use Rattle.aud_layout.specs.Instructions.{integer_code}
use Rattle.aud_gen.specs.Writes.{Instructs}
use Rattle.aud_gen.proofs.Loops.{loop_begins, loop_goes_on, loop_ends}
use Rattle.aud_gen.proofs.Writing.{◌then◌, whole_chain}
use Rattle.aud_gen.proofs.writer.Writer.+write_integer.Goals as goal

pub returns-in-Element : goal.returns-in-Element
returns-in-Element t c = rw c.in-Element.is ((rw c.deref.ensures at c.write_integer.ensures) then c.instruct-in-Element.ensures)

pub returns-in-Unary : goal.returns-in-Unary
returns-in-Unary t c = rw c.in-Unary.is ((rw c.deref-in-Unary.ensures at c.write_integer-in-Unary.ensures) then c.instruct-in-Unary.ensures)

pub loop-next-init : goal.loop-next-init
loop-next-init t c =
    loop_begins chained plain_operation c.deref-next-items.result.now (plain_integer c.args.e.now) (plain_integer c.deref-in-Chain.result.now) (λ done. Instructs c.args.self.now c.write_integer-in-Chain.new.self (integer_code done)) c.write_integer-in-Chain.ensures
    (whole_chain c.args.e.now c.deref-in-Chain.result.now c.deref-next-items.result.now c.in-Chain.first c.in-Chain.rest c.in-Chain.is c.deref-in-Chain.ensures c.deref-next-items.ensures.value)

pub loop-next-preserved : goal.loop-next-preserved
loop-next-preserved t c =
    loop_goes_on chained plain_operation (λ d o. binary o.operator d o.right) (λ d o os. refl) c.deref-next-items.result.now c.loop-next.next-index c.next-item.result (omega arith) c.next-item.is (plain_integer c.args.e.now) (λ done. Instructs c.args.self.now c.loop-next.self (integer_code done)) (λ done. Instructs c.args.self.now c.instruct-in-loop-next.new.self (integer_code done))
    (λ d h. h then c.write_integer-in-loop-next.ensures then c.instruct-in-loop-next.ensures) c.loop-next.invariant

pub returns-after-loop-next : goal.returns-after-loop-next
returns-after-loop-next t c =
    loop_ends chained plain_operation (λ d. refl) c.deref-next-items.result.now c.loop-next.next-index (plain_integer c.args.e.now) (λ done. Instructs c.args.self.now c.loop-next.self (integer_code done)) c.loop-next-test.false c.loop-next.invariant
