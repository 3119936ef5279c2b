use Rattle.std.proofs.Common.{filter, nat_eq, not, arith}
use Rattle.aud_meaning.specs.declared.state.Action.{Action}
use Rattle.aud_state.proofs.TaskLaws.Changed.{object_changed, no_object_there}
use Rattle.aud_state.proofs.state.State.let_go.Goals as goal

pub returns-then-object-len : goal.returns-then-object-len
returns-then-object-len c =
    let s = c.self.inside in
    object_changed (λ o. record o { actions = filter (λ (a : Action). not (nat_eq a.task c.args.task)) o.actions }) s.tasks.items s.progress s.calls s.objects.items c.args.object c.index_mut.result.now c.end.new.self c.args.self.now (omega arith) c.index_mut.ensures.value c.end.ensures c.self.view_is

pub returns-else-object-len : goal.returns-else-object-len
returns-else-object-len c =
    let s = c.self.inside in
    no_object_there (λ o. record o { actions = filter (λ (a : Action). not (nat_eq a.task c.args.task)) o.actions }) s.tasks.items s.progress s.calls s.objects.items c.args.object c.args.self.now (omega arith) c.self.view_is
