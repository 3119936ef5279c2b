use Rattle.std.proofs.Common.{◌∷◌, length, refl, arith}
use Rattle.aud_typed.specs.Ties.View.{plain_boolean, connected, all_connected}
use Rattle.aud_code.specs.Instruction.{PassIfFalse, PassIfTrue}
use Rattle.aud_layout.specs.Instructions.{condition_code}
use Rattle.aud_gen.specs.Writes.{Instructs}
use Rattle.aud_gen.proofs.Loops.{loop_begins, loop_goes_on, loop_ends}
use Rattle.aud_gen.proofs.Writing.{◌then◌, found_then, whole_connection, connection_written}
use Rattle.aud_gen.proofs.writer.Writer.+boolean.Goals as goal

pub write_boolean-returns-in-Variable : goal.write_boolean-returns-in-Variable
write_boolean-returns-in-Variable t c = rw c.in-Variable.is (c.instruct-in-Variable.ensures then c.instruct-in-Variable-2.ensures)

pub write_boolean-returns-in-Element : goal.write_boolean-returns-in-Element
write_boolean-returns-in-Element t c = rw c.in-Element.is ((c.write_integer.ensures then c.instruct-in-Element.ensures) then c.instruct-in-Element-2.ensures)

pub write_boolean-returns-in-Not : goal.write_boolean-returns-in-Not
write_boolean-returns-in-Not t c = rw c.in-Not.is ((rw c.deref.ensures at c.write_boolean.ensures) then c.instruct-in-Not.ensures)

pub write_boolean-returns-in-Relation : goal.write_boolean-returns-in-Relation
write_boolean-returns-in-Relation t c = rw c.in-Relation.is (c.write_integer-in-Relation.ensures then c.write_integer-in-Relation-2.ensures then c.instruct-in-Relation.ensures)

pub write_boolean-returns-in-Comparison : goal.write_boolean-returns-in-Comparison
write_boolean-returns-in-Comparison t c = rw c.in-Comparison.is ((rw c.deref-in-Comparison.ensures at c.write_boolean-in-Comparison.ensures) then (rw c.deref-in-Comparison-2.ensures at c.write_boolean-in-Comparison-2.ensures) then c.instruct-in-Comparison.ensures)

pub write_boolean-loop-next-init : goal.write_boolean-loop-next-init
write_boolean-loop-next-init t c =
    loop_begins (all_connected c.in-Chain.connective) plain_boolean c.deref-next-items.result.now (plain_boolean c.args.e.now) (plain_boolean c.deref-in-Chain.result.now) (λ done. Instructs c.args.self.now c.write_boolean-in-Chain.new.self (condition_code done)) c.write_boolean-in-Chain.ensures
    (whole_connection c.args.e.now c.deref-in-Chain.result.now c.deref-next-items.result.now c.in-Chain.connective c.in-Chain.first c.in-Chain.rest c.in-Chain.is c.deref-in-Chain.ensures c.deref-next-items.ensures.value)

pub write_boolean-loop-next-preserved : goal.write_boolean-loop-next-preserved
write_boolean-loop-next-preserved t c =
    loop_goes_on (all_connected c.in-Chain.connective) plain_boolean (connected c.in-Chain.connective) (λ d x xs. refl) c.deref-next-items.result.now c.loop-next.next-index c.next-item.result (omega arith) c.next-item.is (plain_boolean c.args.e.now) (λ done. Instructs c.args.self.now c.loop-next.self (condition_code done)) (λ done. Instructs c.args.self.now c.write_right.new.self (condition_code done))
    (λ d h. connection_written c.in-Chain.connective d (plain_boolean c.next-item.result) h c.write_right.ensures) c.loop-next.invariant

pub write_boolean-returns-after-loop-next : goal.write_boolean-returns-after-loop-next
write_boolean-returns-after-loop-next t c =
    loop_ends (all_connected c.in-Chain.connective) plain_boolean (λ d. refl) c.deref-next-items.result.now c.loop-next.next-index (plain_boolean c.args.e.now) (λ done. Instructs c.args.self.now c.loop-next.self (condition_code done)) c.loop-next-test.false c.loop-next.invariant

pub write_boolean-returns-in-Callable : goal.write_boolean-returns-in-Callable
write_boolean-returns-in-Callable t c = rw c.in-Callable.is (c.write_task.ensures then c.instruct-in-Callable.ensures)

pub write_boolean-returns-in-Terminated : goal.write_boolean-returns-in-Terminated
write_boolean-returns-in-Terminated t c = rw c.in-Terminated.is (c.write_task-in-Terminated.ensures then c.instruct-in-Terminated.ensures)

pub write_right-returns-in-Logical : goal.write_right-returns-in-Logical
write_right-returns-in-Logical t c = rw c.in-Logical.is (c.write_boolean.ensures then c.instruct.ensures)

pub write_right-returns-in-AndThen : goal.write_right-returns-in-AndThen
write_right-returns-in-AndThen t c =
    let e = condition_code (plain_boolean c.args.e.now) in
    rw c.in-AndThen.is (found_then (λ n. PassIfFalse n ∷ e) c.passed-passed.result (length e) c.passed-passed.ensures (c.instruct-in-AndThen.ensures then c.write_boolean-in-AndThen.ensures))

pub write_right-returns-in-OrElse : goal.write_right-returns-in-OrElse
write_right-returns-in-OrElse t c =
    let e = condition_code (plain_boolean c.args.e.now) in
    rw c.in-OrElse.is (found_then (λ n. PassIfTrue n ∷ e) c.passed-passed-in-OrElse.result (length e) c.passed-passed-in-OrElse.ensures (c.instruct-in-OrElse.ensures then c.write_boolean-in-OrElse.ensures))
