use Rattle.std.proofs.Common.{◌+◌, ◌-◌, Some, drop, get_or, slice_get, ap, sym, ◌∙◌, arith}
use Rattle.aud_meaning.specs.Run.{picks}
use Rattle.aud_tasks.specs.Moving.{picked}
use Rattle.aud_tasks.proofs.MoveLaws.Delays.{no_delay, nth_behind, nth_first, picked_none, picked_one, picked_past}
use Rattle.aud_tasks.proofs.enabled.nth_ended.Goals as goal
use Rattle.aud_tasks.proofs.enabled.nth_ended.Goals.{then-expired+else-left-eq0, else-expired}

pub returns-then-left-eq0 : goal.returns-then-left-eq0
returns-then-left-eq0 c =
    let d = get_or c.args.delays.now c.loop-delay.delay-index no_delay in
    let rest = picked c.args.task c.args.clock (drop (c.loop-delay.delay-index + 1) c.args.delays.now) in
    let one = picked_one c.args.task c.args.clock c.args.delays.now c.loop-delay.delay-index (omega arith) (sym c.expired.ensures ∙ c.if-expired.true) in
    sym (c.loop-delay.invariant
    ∙ nth_first (picks c.args.task d.alternative) rest (picked c.args.task c.args.clock (drop c.loop-delay.delay-index c.args.delays.now)) c.loop-delay.left one c.if-left-eq0.true
    ∙ ap Some (sym c.pick.ensures))

pub loop-delay-preserved : goal.loop-delay-preserved
loop-delay-preserved c =
    let d = get_or c.args.delays.now c.loop-delay.delay-index no_delay in
    let here = picked c.args.task c.args.clock (drop c.loop-delay.delay-index c.args.delays.now) in
    let rest = picked c.args.task c.args.clock (drop (c.loop-delay.delay-index + 1) c.args.delays.now) in
    elim c.if-expired.branch [
      | then-expired+else-left-eq0 w ↦
          let one = picked_one c.args.task c.args.clock c.args.delays.now c.loop-delay.delay-index (omega arith) (sym c.expired.ensures ∙ w.if-expired.true) in
          rw w.left-is (c.loop-delay.invariant ∙ nth_behind (picks c.args.task d.alternative) rest here c.loop-delay.left (c.loop-delay.left - 1) one (omega (arith, w.if-left-eq0.false)))
      | else-expired w ↦
          let none = picked_none c.args.task c.args.clock c.args.delays.now c.loop-delay.delay-index (omega arith) (sym c.expired.ensures ∙ w.if-expired.false) in
          rw w.left-is (c.loop-delay.invariant ∙ ap (λ l. slice_get l c.loop-delay.left) none)
    ]

pub returns : goal.returns
returns c = sym (c.loop-delay.invariant ∙ ap (λ l. slice_get l c.loop-delay.left) (picked_past c.args.task c.args.clock c.args.delays.now c.loop-delay.delay-index (omega arith)))
