use Rattle.std.proofs.Common.{ap, sym, ◌∙◌, arith}
use Rattle.aud_meaning.specs.Configuration.{Own}
use Rattle.aud_meaning.specs.Tasks as effect
use Rattle.aud_state.proofs.TaskLaws.Changed.{own_at}
use Rattle.aud_state.proofs.state.State.is_activating.Goals as goal

pub returns-then-task-len : goal.returns-then-task-len
returns-then-task-len c = λ go plan barrier.
    c.is_activating.ensures go plan barrier ∙ ap (λ (o : Own). effect.is_activating go plan barrier o.status) (sym (own_at c.self.inside.tasks.items c.self.inside.progress c.self.inside.calls c.self.inside.objects.items c.args.task c.index-found.result.now c.args.self.now (omega arith) c.index-found.ensures c.self.view_is))
