use Rattle.std.proofs.Common.{arith}
use Rattle.aud_debug.proofs.Waiting.{awaited_next, awaited_past}
use Rattle.aud_debug.proofs.waits.push_awaited.Goals as goal

pub loop-task-preserved : goal.loop-task-preserved
loop-task-preserved c =
    awaited_next c.args.activator c.loop-task.task c.args.state.now c.loop-task.out.items _ _ c.is_awaited.result (omega arith) c.is_awaited.ensures c.in_ok-push_if.ensures c.loop-task.invariant

pub returns : goal.returns
returns c = awaited_past c.args.activator c.loop-task.task c.args.state.now c.loop-task.out.items _ (omega arith) c.loop-task.invariant
