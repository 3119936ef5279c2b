use Rattle.std.proofs.Common.{Bool, sym, ◌∙◌, arith}
use Rattle.aud_meaning.specs.Parts.{contains}
use Rattle.aud_calls.proofs.Lists.{all_more, one_more}
use Rattle.aud_state.specs.declared.task.Task.{Task}
use Rattle.aud_state.specs.Held.{keeps}
use Rattle.aud_state.specs.View.{plain_task}
use Rattle.aud_state.proofs.Numbered.{any_map}
use Rattle.aud_state.proofs.forget.kept_by_tasks.Goals as goal

pub loop-task-preserved : goal.loop-task-preserved
loop-task-preserved c = λ frame.
    let p : Task → Bool = λ z. keeps frame (plain_task z) in
    one_more p c.args.tasks.now c.loop-task.task-index c.task-item.result (contains frame c.loop-task.kept.items) (contains frame c.put_kept.new.kept.items) (omega arith) c.task-item.is (c.in_ok-put_kept.ensures frame)
    ∙ c.loop-task.invariant frame

pub returns : goal.returns
returns c = λ frame.
    let p : Task → Bool = λ z. keeps frame (plain_task z) in
    sym (all_more p c.args.tasks.now c.loop-task.task-index (contains frame c.loop-task.kept.items) (omega arith))
    ∙ c.loop-task.invariant frame
    ∙ sym (any_map plain_task (keeps frame) c.args.tasks.now)
