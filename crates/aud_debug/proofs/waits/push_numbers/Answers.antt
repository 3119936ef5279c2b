use Rattle.std.proofs.Common.{get_or, refl, arith}
use Rattle.aud_debug.proofs.Watched.{next_number, no_number}
use Rattle.aud_debug.proofs.waits.push_numbers.Goals as goal

pub loop-task-preserved : goal.loop-task-preserved
loop-task-preserved c =
    let ns = c.args.tasks.now in
    let i = c.loop-task.task-index in
    next_number _ _ _ _ _ (get_or ns i 0) 0 ns i (omega arith) c.in_ok-extend_from_slice.ensures.items c.in_ok-push_decimal.ensures c.in_ok-number_of.ensures refl c.loop-task.invariant

pub returns : goal.returns
returns c = no_number c.loop-task.out.items _ c.args.tasks.now c.loop-task.task-index (omega (arith, c.loop-task-test.false)) c.loop-task.invariant
