use Rattle.std.proofs.Common.{Bool, sym, ◌∙◌, arith}
use Rattle.aud_meaning.specs.Parts.{contains}
use Rattle.aud_over.specs.Over.{own_serves}
use Rattle.aud_calls.proofs.Lists.{all_more, one_more}
use Rattle.aud_state.specs.declared.task.Task.{Task}
use Rattle.aud_state.specs.View.{plain_task}
use Rattle.aud_state.proofs.Numbered.{any_own}
use Rattle.aud_state.proofs.forget.served_by_tasks.Goals as goal

pub loop-task-preserved : goal.loop-task-preserved
loop-task-preserved c = λ id.
    let p : Task → Bool = λ z. own_serves id (plain_task z).own in
    one_more p c.args.tasks.now c.loop-task.task-index c.task-item.result (contains id c.loop-task.served.items) (contains id c.put_served.new.served.items) (omega arith) c.task-item.is (c.in_ok-put_served.ensures id)
    ∙ c.loop-task.invariant id

pub returns : goal.returns
returns c = λ id.
    let p : Task → Bool = λ z. own_serves id (plain_task z).own in
    sym (all_more p c.args.tasks.now c.loop-task.task-index (contains id c.loop-task.served.items) (omega arith))
    ∙ c.loop-task.invariant id
    ∙ sym (any_own (own_serves id) c.args.tasks.now)
