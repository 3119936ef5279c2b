use Rattle.std.proofs.Common.{◌∷◌, [], ◌+◌, refl, arith}
use Rattle.aud_typed.specs.Ties.View.{plain_program}
use Rattle.aud_debug.specs.Ties.Rows.{task_line}
use Rattle.aud_debug.proofs.Ended.{all_come, line_ended}
use Rattle.aud_debug.proofs.Pages.{comes_more}
use Rattle.aud_debug.proofs.Tasked.{lines_from, lines_next, lines_past}
use Rattle.aud_debug.proofs.tasks.push_tasks.Goals as goal

pub loop-task-preserved : goal.loop-task-preserved
loop-task-preserved c =
    let plan = (plain_program c.args.compiled.program.now).plan in
    let code = c.args.compiled.code.now in
    let s = c.args.state.now in
    let n = c.loop-task.task in
    comes_more _ _ _ (task_line plan code n s ∷ []) (lines_from plan code s (n + 1)) (lines_from plan code s n) (lines_from plan code s 0)
    (line_ended _ _ _ (task_line plan code n s) _ _ c.in_ok-push_line.ensures c.in_ok-end_line.ensures.bytes c.in_ok-end_line.ensures.count)
    (lines_next plan code s n (omega arith))
    c.loop-task.invariant

pub returns : goal.returns
returns c =
    let plan = (plain_program c.args.compiled.program.now).plan in
    let code = c.args.compiled.code.now in
    let s = c.args.state.now in
    all_come _ _ _ (lines_from plan code s 0) _ (lines_past plan code s c.loop-task.task (omega arith)) refl c.loop-task.invariant
