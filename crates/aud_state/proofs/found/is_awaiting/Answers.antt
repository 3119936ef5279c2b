use Rattle.std.proofs.Common.{Bool, sym, ◌∙◌, arith}
use Rattle.std.proofs.lemmas.List.{at_drop_all}
use Rattle.aud_meaning.specs.Parts.{any}
use Rattle.aud_meaning.specs.Tasks as effect
use Rattle.aud_state.specs.declared.task.Task.{Task}
use Rattle.aud_state.specs.View.{plain_task}
use Rattle.aud_state.proofs.Numbered.{any_here, any_map, any_more}
use Rattle.aud_state.proofs.found.is_awaiting.Goals as goal

pub returns-then-is_awaited_by : goal.returns-then-is_awaited_by
returns-then-is_awaited_by c = λ go plan barrier.
    let p : Task → Bool = λ z. effect.is_awaited_by go plan barrier c.args.activator (plain_task z) in
    sym (any_map plain_task (effect.is_awaited_by go plan barrier c.args.activator) c.args.tasks.now
    ∙ sym (c.loop-task.invariant go plan barrier)
    ∙ any_here p c.args.tasks.now c.loop-task.task-index c.task-item.result c.loop-task-test.true c.task-item.is (sym (c.is_awaited_by.ensures go plan barrier) ∙ c.if-is_awaited_by.true))

pub loop-task-preserved : goal.loop-task-preserved
loop-task-preserved c = λ go plan barrier.
    let p : Task → Bool = λ z. effect.is_awaited_by go plan barrier c.args.activator (plain_task z) in
    any_more p c.args.tasks.now c.loop-task.task-index c.task-item.result c.loop-task-test.true c.task-item.is (sym (c.is_awaited_by.ensures go plan barrier) ∙ c.if-is_awaited_by.false)
    ∙ c.loop-task.invariant go plan barrier

pub returns : goal.returns
returns c = λ go plan barrier.
    let p : Task → Bool = λ z. effect.is_awaited_by go plan barrier c.args.activator (plain_task z) in
    sym (any_map plain_task (effect.is_awaited_by go plan barrier c.args.activator) c.args.tasks.now
    ∙ sym (c.loop-task.invariant go plan barrier)
    ∙ at_drop_all (any p) c.args.tasks.now c.loop-task.task-index (omega arith))
