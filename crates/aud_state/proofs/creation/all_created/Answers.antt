use Rattle.std.proofs.Common.{◌++◌, ◌+◌, ◌-◌, map, ap, sym, ◌∙◌, arith, append-nil}
use Rattle.aud_typed.specs.Ties.View.{plain_tasks}
use Rattle.aud_meaning.specs.Tasks as effect
use Rattle.aud_code.specs.Control.{going}
use Rattle.aud_state.specs.View.{plain_task}
use Rattle.aud_state.proofs.TaskLaws.Creating.{created_more, created_all}
use Rattle.aud_state.proofs.creation.all_created.Goals as goal

pub loop-index-preserved : goal.loop-index-preserved
loop-index-preserved c = λ plan has typed barrier.
    let go = going c.args.code.now in
    let ts = plain_tasks c.args.tasks.now in
    let creator = (plain_task c.args.creator.now).own in
    let i = c.loop-index.index in
    let n = c.args.tasks.now.length in
    ap (λ xs. map plain_task xs ++ effect.all_created go plan barrier creator ts (i + 1) (n - (i + 1))) c.in_ok-push.ensures.items
    ∙ created_more go plan barrier creator ts c.loop-index.all.items c.in_ok-task.task i n (omega (arith, c.loop-index-test.true)) (c.in_ok-task.ensures plan has typed barrier)
    ∙ c.loop-index.invariant plan has typed barrier

pub returns : goal.returns
returns c = λ plan has typed barrier.
    let go = going c.args.code.now in
    let ts = plain_tasks c.args.tasks.now in
    let creator = (plain_task c.args.creator.now).own in
    sym (append-nil (map plain_task c.loop-index.all.items))
    ∙ sym (created_all go plan barrier creator ts (map plain_task c.loop-index.all.items) c.loop-index.index c.args.tasks.now.length (omega (arith, c.loop-index-test.false)))
    ∙ c.loop-index.invariant plan has typed barrier
