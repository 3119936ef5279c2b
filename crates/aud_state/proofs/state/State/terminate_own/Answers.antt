use Rattle.std.proofs.Common.{arith, [], None}
use Rattle.aud_meaning.specs.declared.state.Status.TheVariants.{Terminated}
use Rattle.aud_meaning.specs.Parts.{no_waits}
use Rattle.aud_state.proofs.TaskLaws.Changed.{task_changed, no_task}
use Rattle.aud_state.proofs.state.State.terminate_own.Goals as goal

pub returns-then-n-len : goal.returns-then-n-len
returns-then-n-len c =
    let s = c.self.inside in
    task_changed (λ t. record t { own = record t.own { status = Terminated; pending = None; display = []; opened = []; waits = no_waits } }) s.tasks.items s.progress s.calls s.objects.items c.args.n c.index_mut.result.now c.terminate_own.new.self c.args.self.now (omega arith) c.index_mut.ensures.value c.terminate_own.ensures c.self.view_is

pub returns-else-n-len : goal.returns-else-n-len
returns-else-n-len c =
    let s = c.self.inside in
    no_task (λ t. record t { own = record t.own { status = Terminated; pending = None; display = []; opened = []; waits = no_waits } }) s.tasks.items s.progress s.calls s.objects.items c.args.n c.args.self.now (omega arith) c.self.view_is
