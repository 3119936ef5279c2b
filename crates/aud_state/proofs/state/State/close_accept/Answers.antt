use Rattle.std.proofs.Common.{arith}
use Rattle.aud_state.specs.View.{leaves_accept}
use Rattle.aud_state.proofs.TaskLaws.Changed.{task_changed, no_task}
use Rattle.aud_state.proofs.state.State.close_accept.Goals as goal

pub returns-then-n-len : goal.returns-then-n-len
returns-then-n-len c =
    let s = c.self.inside in
    task_changed (λ t. record t { own = leaves_accept t.own }) s.tasks.items s.progress s.calls s.objects.items c.args.n c.index_mut.result.now c.close_accept.new.self c.args.self.now (omega arith) c.index_mut.ensures.value c.close_accept.ensures c.self.view_is

pub returns-else-n-len : goal.returns-else-n-len
returns-else-n-len c =
    let s = c.self.inside in
    no_task (λ t. record t { own = leaves_accept t.own }) s.tasks.items s.progress s.calls s.objects.items c.args.n c.args.self.now (omega arith) c.self.view_is
