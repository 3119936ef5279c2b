use Rattle.std.proofs.Common.{◌+◌, ap, refl, ◌∙◌, arith}
use Rattle.aud_typed.specs.Ties.View.{plain_program}
use Rattle.aud_meaning.specs.declared.state.Owner.TheVariants as owner
use Rattle.aud_meaning.specs.Listings.{entries_by}
use Rattle.aud_debug.proofs.Ended.{all_come}
use Rattle.aud_debug.proofs.Pages.{comes_more}
use Rattle.aud_debug.proofs.Queued.{of_task, tasks_from, tasks_next, tasks_past}
use Rattle.aud_debug.proofs.queues.push_tasks.Goals as goal

pub loop-task-preserved : goal.loop-task-preserved
loop-task-preserved c =
    let plan = (plain_program c.args.compiled.program.now).plan in
    let s = c.args.state.now in
    let n = c.loop-task.task in
    let are = c.entries_of-entries.ensures ∙ ap (entries_by plan) c.task_type.ensures in
    comes_more _ _ _ (of_task plan s n) (tasks_from plan s (n + 1)) (tasks_from plan s n) (tasks_from plan s 0)
    (rw are at c.in_ok-push_each.ensures) (tasks_next plan s n (omega arith)) c.loop-task.invariant

pub returns : goal.returns
returns c =
    let plan = (plain_program c.args.compiled.program.now).plan in
    let s = c.args.state.now in
    all_come _ _ _ (tasks_from plan s 0) _ (tasks_past plan s c.loop-task.task (omega arith)) refl c.loop-task.invariant
