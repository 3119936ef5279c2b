use Rattle.std.proofs.Common.{ap, arith}
use Rattle.std.proofs.lemmas.List.{drop_all}
use Rattle.aud_gen.proofs.Writing.{rights_length, whole_length, next_right}
use Rattle.aud_gen.proofs.lengths.+boolean_length.Goals as goal

pub loop-next-init : goal.loop-next-init
loop-next-init t c =
    let whole = whole_length c.args.e.now c.deref-in-Chain.result.now c.deref-next-items.result.now c.in-Chain.field-0 c.in-Chain.first c.in-Chain.rest c.in-Chain.is c.deref-in-Chain.ensures c.deref-next-items.ensures.value in
    (omega arith, omega arith)

pub loop-next-preserved : goal.loop-next-preserved
loop-next-preserved t c =
    let more = next_right c.deref-next-items.result.now c.loop-next.next-index c.next-item.result (omega arith) c.next-item.is in
    (omega arith, omega (arith, c.loop-next.invariant.0, c.loop-next.invariant.1))

pub returns-after-loop-next : goal.returns-after-loop-next
returns-after-loop-next t c =
    let none_left = ap rights_length (drop_all c.loop-next.next-index c.deref-next-items.result.now c.loop-next-test.false) in
    omega (arith, c.loop-next.invariant.0, c.loop-next.invariant.1)
