use Rattle.std.proofs.Common.{refl, arith}
use Rattle.aud_typed.specs.Tree.{joined, join}
use Rattle.aud_typed.specs.Ties.View.{plain_text}
use Rattle.aud_layout.specs.Instructions.{text_code}
use Rattle.aud_gen.specs.Writes.{Instructs}
use Rattle.aud_gen.proofs.Loops.{loop_begins, loop_goes_on, loop_ends}
use Rattle.aud_gen.proofs.Writing.{◌then◌, whole_join}
use Rattle.aud_gen.proofs.writer.Writer.+write_text.Goals as goal

pub returns-in-Image : goal.returns-in-Image
returns-in-Image t c = rw c.in-Image.is (c.write_integer.ensures then c.instruct.ensures)

pub returns-in-ImageTruth : goal.returns-in-ImageTruth
returns-in-ImageTruth t c = rw c.in-ImageTruth.is (c.write_boolean.ensures then c.instruct-in-ImageTruth.ensures)

pub loop-next-init : goal.loop-next-init
loop-next-init t c =
    loop_begins joined plain_text c.deref-next-items.result.now (plain_text c.args.t.now) (plain_text c.deref.result.now) (λ done. Instructs c.args.self.now c.write_text.new.self (text_code done)) c.write_text.ensures
    (whole_join c.args.t.now c.deref.result.now c.deref-next-items.result.now c.in-Join.first c.in-Join.rest c.in-Join.is c.deref.ensures c.deref-next-items.ensures.value)

pub loop-next-preserved : goal.loop-next-preserved
loop-next-preserved t c =
    loop_goes_on joined plain_text join (λ d x xs. refl) c.deref-next-items.result.now c.loop-next.next-index c.next-item.result (omega arith) c.next-item.is (plain_text c.args.t.now) (λ done. Instructs c.args.self.now c.loop-next.self (text_code done)) (λ done. Instructs c.args.self.now c.write_text-in-loop-next.new.self (text_code done))
    (λ d h. h then c.write_text-in-loop-next.ensures) c.loop-next.invariant

pub returns-after-loop-next : goal.returns-after-loop-next
returns-after-loop-next t c =
    loop_ends joined plain_text (λ d. refl) c.deref-next-items.result.now c.loop-next.next-index (plain_text c.args.t.now) (λ done. Instructs c.args.self.now c.loop-next.self (text_code done)) c.loop-next-test.false c.loop-next.invariant
