use Rattle.std.proofs.Common.{[], ◌∷◌, ◌++◌, ◌+◌, append-nil, drop, get_or, ap, sym, ◌∙◌, arith}
use Rattle.aud_meaning.specs.Run.{picks}
use Rattle.aud_tasks.specs.Moving.{picked}
use Rattle.aud_tasks.proofs.MoveLaws.Delays.{no_delay, listed_one, picked_none, picked_one, picked_past}
use Rattle.aud_tasks.proofs.enabled.list_ended.Goals as goal
use Rattle.aud_tasks.proofs.enabled.list_ended.Goals.{then-expired+in_ok-push, else-expired}

pub loop-delay-preserved : goal.loop-delay-preserved
loop-delay-preserved c =
    let d = get_or c.args.delays.now c.loop-delay.delay-index no_delay in
    let before = c.loop-delay.moves.items in
    let here = picked c.args.task c.args.clock (drop c.loop-delay.delay-index c.args.delays.now) in
    let rest = picked c.args.task c.args.clock (drop (c.loop-delay.delay-index + 1) c.args.delays.now) in
    elim c.if-expired.branch [
      | then-expired+in_ok-push w ↦
          let one = picked_one c.args.task c.args.clock c.args.delays.now c.loop-delay.delay-index (omega arith) (sym c.expired.ensures ∙ w.if-expired.true) in
          rw (w.moves-is, w.in_ok-push.ensures.items) (listed_one before (picks c.args.task d.alternative) rest here _ one (ap (λ m. before ++ m ∷ []) w.pick.ensures) ∙ c.loop-delay.invariant)
      | else-expired w ↦
          let none = picked_none c.args.task c.args.clock c.args.delays.now c.loop-delay.delay-index (omega arith) (sym c.expired.ensures ∙ w.if-expired.false) in
          rw w.moves-is (ap (λ l. before ++ l) (sym none) ∙ c.loop-delay.invariant)
    ]

pub returns : goal.returns
returns c =
    sym (append-nil c.loop-delay.moves.items)
    ∙ ap (λ l. c.loop-delay.moves.items ++ l) (sym (picked_past c.args.task c.args.clock c.args.delays.now c.loop-delay.delay-index (omega arith)))
    ∙ c.loop-delay.invariant
