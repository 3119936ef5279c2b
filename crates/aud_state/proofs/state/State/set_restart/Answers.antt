use Rattle.std.proofs.Common.{arith, Some}
use Rattle.aud_state.proofs.TaskLaws.Changed.{task_changed, no_task}
use Rattle.aud_state.proofs.state.State.set_restart.Goals as goal

pub returns-then-n-len : goal.returns-then-n-len
returns-then-n-len c =
    let s = c.self.inside in
    task_changed (λ t. record t { own = record t.own { restart = Some c.args.restart } }) s.tasks.items s.progress s.calls s.objects.items c.args.n c.index_mut.result.now c.set_restart.new.self c.args.self.now (omega arith) c.index_mut.ensures.value c.set_restart.ensures c.self.view_is

pub returns-else-n-len : goal.returns-else-n-len
returns-else-n-len c =
    let s = c.self.inside in
    no_task (λ t. record t { own = record t.own { restart = Some c.args.restart } }) s.tasks.items s.progress s.calls s.objects.items c.args.n c.args.self.now (omega arith) c.self.view_is
