use Rattle.std.proofs.Common.{arith}
use Rattle.aud_code.specs.Control.{going}
use Rattle.aud_state.proofs.TaskLaws.Changed.{task_changed, no_task}
use Rattle.aud_state.proofs.state.State.enter.Goals as goal

pub returns-in_ok-enter : goal.returns-in_ok-enter
returns-in_ok-enter c =
    let s = c.self.inside in
    task_changed (λ t. record t { control = (going c.args.code.now).enters c.args.unit t.control }) s.tasks.items s.progress s.calls s.objects.items c.args.n c.index_mut.result.now c.enter.new.self c.args.self.now (omega arith) c.index_mut.ensures.value c.in_ok-enter.ensures c.self.view_is

pub returns-else-n-len : goal.returns-else-n-len
returns-else-n-len c =
    let s = c.self.inside in
    no_task (λ t. record t { control = (going c.args.code.now).enters c.args.unit t.control }) s.tasks.items s.progress s.calls s.objects.items c.args.n c.args.self.now (omega arith) c.self.view_is
