use Rattle.std.proofs.Common.{length, ap, sym, ◌∙◌, arith}
use Rattle.aud_tasks.proofs.MoveLaws.Delays.{picked_none, picked_one, picked_past}
use Rattle.aud_tasks.proofs.enabled.count_ended.Goals as goal
use Rattle.aud_tasks.proofs.enabled.count_ended.Goals.{then-expired, else-expired}

pub loop-delay-preserved : goal.loop-delay-preserved
loop-delay-preserved c =
    elim c.if-expired.branch [
      | then-expired w ↦
          let more = ap length (picked_one c.args.task c.args.clock c.args.delays.now c.loop-delay.delay-index (omega arith) (sym c.expired.ensures ∙ w.if-expired.true)) in
          record {
            few = omega (arith, w.count-is, c.loop-delay.invariant.few);
            counted = omega (arith, w.count-is, c.loop-delay.invariant.counted, more);
          }
      | else-expired w ↦
          let more = ap length (picked_none c.args.task c.args.clock c.args.delays.now c.loop-delay.delay-index (omega arith) (sym c.expired.ensures ∙ w.if-expired.false)) in
          record {
            few = omega (arith, w.count-is, c.loop-delay.invariant.few);
            counted = omega (arith, w.count-is, c.loop-delay.invariant.counted, more);
          }
    ]

pub returns : goal.returns
returns c =
    let none = ap length (picked_past c.args.task c.args.clock c.args.delays.now c.loop-delay.delay-index (omega arith)) in
    omega (arith, none, c.loop-delay.invariant.counted)
