use Rattle.std.proofs.Common.{◌+◌, refl, arith}
use Rattle.aud_typed.specs.Ties.View.{plain_program}
use Rattle.aud_debug.specs.Ties.Watched.{reasons_in, told_of}
use Rattle.aud_debug.proofs.Ended.{all_come}
use Rattle.aud_debug.proofs.Pages.{comes_more}
use Rattle.aud_debug.proofs.Waiting.{waits_from, waits_next, waits_past}
use Rattle.aud_debug.proofs.waits.push_waits.Goals as goal

pub loop-task-preserved : goal.loop-task-preserved
loop-task-preserved c =
    let plan = (plain_program c.args.compiled.program.now).plan in
    let code = c.args.compiled.code.now in
    let s = c.args.state.now in
    let n = c.loop-task.task in
    comes_more _ _ _ (told_of n (reasons_in plan code n s) s) (waits_from plan code s (n + 1)) (waits_from plan code s n) (waits_from plan code s 0)
    c.in_ok-push_reasons.ensures (waits_next plan code s n (omega arith)) c.loop-task.invariant

pub returns : goal.returns
returns c =
    let plan = (plain_program c.args.compiled.program.now).plan in
    let code = c.args.compiled.code.now in
    let s = c.args.state.now in
    all_come _ _ _ (waits_from plan code s 0) _ (waits_past plan code s c.loop-task.task (omega arith)) refl c.loop-task.invariant
