use Rattle.std.proofs.Common.{◌≡◌, length, refl, arith}
use Rattle.aud_typed.specs.Tree.{joined, join}
use Rattle.aud_typed.specs.Ties.View.{plain_text}
use Rattle.aud_layout.specs.Instructions.{text_code}
use Rattle.aud_gen.specs.Writes.{counted}
use Rattle.aud_gen.proofs.Loops.{loop_begins, loop_goes_on, loop_ends}
use Rattle.aud_gen.proofs.Writing.{whole_join, join_length}
use Rattle.aud_gen.proofs.lengths.+text_length.Goals as goal

pub loop-next-init : goal.loop-next-init
loop-next-init t c =
    loop_begins joined plain_text c.deref-next-items.result.now (plain_text c.args.t.now) (plain_text c.deref.result.now) (λ done. c.text_length-total.result ≡ counted (length (text_code done))) c.text_length-total.ensures
    (whole_join c.args.t.now c.deref.result.now c.deref-next-items.result.now c.in-Join.first c.in-Join.rest c.in-Join.is c.deref.ensures c.deref-next-items.ensures.value)

pub loop-next-preserved : goal.loop-next-preserved
loop-next-preserved t c =
    loop_goes_on joined plain_text join (λ d x xs. refl) c.deref-next-items.result.now c.loop-next.next-index c.next-item.result (omega arith) c.next-item.is (plain_text c.args.t.now) (λ done. c.loop-next.total ≡ counted (length (text_code done))) (λ done. c.saturating_add-total.result ≡ counted (length (text_code done)))
    (λ d h. omega (arith, h, join_length d (plain_text c.next-item.result))) c.loop-next.invariant

pub returns-after-loop-next : goal.returns-after-loop-next
returns-after-loop-next t c =
    loop_ends joined plain_text (λ d. refl) c.deref-next-items.result.now c.loop-next.next-index (plain_text c.args.t.now) (λ done. c.loop-next.total ≡ counted (length (text_code done))) c.loop-next-test.false c.loop-next.invariant
