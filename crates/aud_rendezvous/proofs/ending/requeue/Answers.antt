use Rattle.std.proofs.Common.{ap, sym, ◌∙◌}
use Rattle.aud_meaning.specs.Tasks as effect
use Rattle.aud_code.specs.Control.{going}
use Rattle.aud_rendezvous.proofs.ending.requeue.Goals as goal

pub returns-in_ok-requeue_on_task-in-Task : goal.returns-in_ok-requeue_on_task-in-Task
returns-in_ok-requeue_on_task-in-Task c = λ plan barrier.
    c.in_ok-requeue_on_task-in-Task.ensures plan barrier c.args.at c.args.n
    ∙ ap (λ o. effect.requeued_on (going c.args.code.now) plan barrier c.args.alternative o c.args.at c.args.id c.args.n c.args.state.now) (sym c.in-Task.is)

pub returns-in-Object : goal.returns-in-Object
returns-in-Object c = λ plan barrier.
    c.set_restart.ensures
    ∙ ap (λ o. effect.requeued_on (going c.args.code.now) plan barrier c.args.alternative o c.args.at c.args.id c.args.n c.args.state.now) (sym c.in-Object.is)
