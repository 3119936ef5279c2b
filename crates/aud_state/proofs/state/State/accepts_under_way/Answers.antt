use Rattle.std.proofs.Common.{ap, sym, ◌∙◌, arith}
use Rattle.aud_meaning.specs.Configuration.{Own}
use Rattle.aud_meaning.specs.Tasks as effect
use Rattle.aud_state.proofs.TaskLaws.Changed.{own_at, own_none}
use Rattle.aud_state.proofs.TaskLaws.Beside.{accepts_same}
use Rattle.aud_state.proofs.state.State.accepts_under_way.Goals as goal

pub returns-then-task-len : goal.returns-then-task-len
returns-then-task-len c = λ go plan barrier.
    rw c.stack.ensures at c.in_ok-calls.ensures
    ∙ accepts_same go plan barrier c.index-found.result.now.parked.stack.opened
    ∙ ap (λ (o : Own). effect.accepts_under_way go plan barrier o.opened) (sym (own_at c.self.inside.tasks.items c.self.inside.progress c.self.inside.calls c.self.inside.objects.items c.args.task c.index-found.result.now c.args.self.now (omega arith) c.index-found.ensures c.self.view_is))

pub returns : goal.returns
returns c = λ go plan barrier.
    c.new.ensures.items ∙ ap (λ (o : Own). effect.accepts_under_way go plan barrier o.opened) (sym (own_none c.self.inside.tasks.items c.self.inside.progress c.self.inside.calls c.self.inside.objects.items c.args.task c.args.self.now (omega arith) c.self.view_is))
