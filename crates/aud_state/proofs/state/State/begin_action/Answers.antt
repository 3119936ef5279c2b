use Rattle.std.proofs.Common.{◌++◌, ◌∷◌, [], arith}
use Rattle.aud_state.proofs.TaskLaws.Changed.{object_changed, no_object_there}
use Rattle.aud_state.proofs.state.State.begin_action.Goals as goal

pub returns-in_ok-begin : goal.returns-in_ok-begin
returns-in_ok-begin c =
    let s = c.self.inside in
    object_changed (λ o. record o { actions = o.actions ++ record { task = c.args.task; reading = c.args.reading } ∷ [] }) s.tasks.items s.progress s.calls s.objects.items c.args.object c.index_mut.result.now c.begin.new.self c.args.self.now (omega arith) c.index_mut.ensures.value c.in_ok-begin.ensures c.self.view_is

pub returns-else-object-len : goal.returns-else-object-len
returns-else-object-len c =
    let s = c.self.inside in
    no_object_there (λ o. record o { actions = o.actions ++ record { task = c.args.task; reading = c.args.reading } ∷ [] }) s.tasks.items s.progress s.calls s.objects.items c.args.object c.args.self.now (omega arith) c.self.view_is
