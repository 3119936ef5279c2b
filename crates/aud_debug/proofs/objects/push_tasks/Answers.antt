use Rattle.std.proofs.Common.{◌++◌, length, false, sym, arith}
use Rattle.aud_debug.specs.Ties.Watched.{tasks_of}
use Rattle.aud_debug.proofs.Watched.{next_number, no_number, tasks_at, tasks_many}
use Rattle.aud_debug.proofs.objects.push_tasks.Goals as goal

pub loop-action-preserved : goal.loop-action-preserved
loop-action-preserved c =
    let actions = c.args.actions.now in
    let i = c.loop-action.action-index in
    next_number _ _ _ _ _ _ 0 (tasks_of actions) i (omega (arith, tasks_many actions, c.loop-action-test.true)) c.in_ok-extend_from_slice.ensures.items c.in_ok-push_decimal.ensures c.in_ok-number_of.ensures
    (sym (tasks_at actions i (record { task = 0; reading = false }))) c.loop-action.invariant

pub returns : goal.returns
returns c =
    let actions = c.args.actions.now in
    no_number c.loop-action.out.items _ (tasks_of actions) c.loop-action.action-index (omega (arith, tasks_many actions, c.loop-action-test.false)) c.loop-action.invariant
