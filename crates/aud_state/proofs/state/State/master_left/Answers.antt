use Rattle.std.proofs.Common.{None, refl, arith}
use Rattle.aud_state.specs.Reads.{coming_by, LeavesBy}
use Rattle.aud_state.proofs.TaskLaws.Reading.{read_at, read_none}
use Rattle.aud_state.proofs.state.State.master_left.Goals as goal

pub returns-then-task-len : goal.returns-then-task-len
returns-then-task-len c = λ plan s.
    let e = c.self.inside in
    read_at (λ o t. LeavesBy o c.master_left.result (coming_by c.args.code.now plan s t)) e.tasks.items e.progress e.calls e.objects.items c.args.task c.index-found.result.now c.args.self.now (omega arith) c.index-found.ensures c.self.view_is
    (c.master_left.ensures plan s)

pub returns : goal.returns
returns c = λ plan s.
    let e = c.self.inside in
    read_none (λ o t. LeavesBy o None (coming_by c.args.code.now plan s t)) e.tasks.items e.progress e.calls e.objects.items c.args.task c.args.self.now (omega arith) c.self.view_is refl
