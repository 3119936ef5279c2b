use Rattle.std.proofs.Common.{arith}
use Rattle.aud_code.specs.Control.{going}
use Rattle.aud_state.specs.View.{begins_entry}
use Rattle.aud_state.proofs.TaskLaws.Changed.{task_changed, no_task}
use Rattle.aud_state.proofs.state.State.begin_entry.Goals as goal

pub returns-in_ok-begin_entry : goal.returns-in_ok-begin_entry
returns-in_ok-begin_entry c =
    let s = c.self.inside in
    task_changed (begins_entry (going c.args.code.now) c.args.unit) s.tasks.items s.progress s.calls s.objects.items c.args.n c.index_mut.result.now c.begin_entry.new.self c.args.self.now (omega arith) c.index_mut.ensures.value c.in_ok-begin_entry.ensures c.self.view_is

pub returns-else-n-len : goal.returns-else-n-len
returns-else-n-len c =
    let s = c.self.inside in
    no_task (begins_entry (going c.args.code.now) c.args.unit) s.tasks.items s.progress s.calls s.objects.items c.args.n c.args.self.now (omega arith) c.self.view_is
