use Rattle.std.proofs.Common.{◌+◌, ap, sym, ◌∙◌, arith}
use Rattle.aud_tasks.specs.Moving as moving
use Rattle.aud_tasks.specs.Moving.{times_of}
use Rattle.aud_tasks.proofs.MoveLaws.Moving.{times, times_next, times_past}
use Rattle.aud_tasks.proofs.MoveLaws.Soonest.{soonest_joined}
use Rattle.aud_tasks.proofs.times.soonest.Goals as goal

pub loop-task-preserved : goal.loop-task-preserved
loop-task-preserved c = λ plan.
    let code = c.args.code.now in
    let s = c.args.state.now in
    let n = c.loop-task.task in
    let found = c.loop-task.found in
    ap (λ o. moving.soonest o (times plan code s (n + 1))) (c.soonest_of-found.ensures plan)
    ∙ sym (soonest_joined found (times_of plan code n s) (times plan code s (n + 1)))
    ∙ sym (ap (moving.soonest found) (times_next plan code s n (omega arith)))
    ∙ c.loop-task.invariant plan

pub returns : goal.returns
returns c = λ plan.
    sym (ap (moving.soonest c.loop-task.found) (times_past plan c.args.code.now c.args.state.now c.loop-task.task (omega arith)))
    ∙ c.loop-task.invariant plan
