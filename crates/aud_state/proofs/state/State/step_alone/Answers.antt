use Rattle.std.proofs.Common.{ap, ◌∙◌, arith}
use Rattle.aud_meaning.specs.Parts.{acting as beside}
use Rattle.aud_meaning.specs.Ties.Part.{shared_by}
use Rattle.aud_meaning.specs.Why.Alone.{acts}
use Rattle.aud_code.specs.Control.{going}
use Rattle.aud_code.specs.Flat.{asked_last}
use Rattle.aud_code.specs.Instruction.{Reached}
use Rattle.aud_code.specs.Places.{loops_of}
use Rattle.aud_code.specs.View.{exit_of, plain_last}
use Rattle.aud_state.specs.declared.task.Task.{Task}
use Rattle.aud_state.specs.View.{plain_own, plain_task}
use Rattle.aud_state.proofs.TaskLaws.Beside.{alone_changed, alone_past, got}
use Rattle.aud_state.proofs.state.State.step_alone.Goals as goal

pub returns-in_ok-step_alone : goal.returns-in_ok-step_alone
returns-in_ok-step_alone c = λ s plan has barrier.
    let i = c.self.inside in
    alone_changed (acts (going c.args.code.now) plan barrier (asked_last (plain_last c.args.end.now.last) (loops_of (exit_of c.args.end.now.last)) c.args.end.now.at s (Reached c.args.operands.now))) i.tasks.items i.progress c.step_alone.new.progress i.calls i.objects.items c.args.n c.index_mut.result.now c.step_alone.new.self c.args.self.now
    (omega arith) c.index_mut.ensures.value
    (λ shared. ap (λ (t : Task). beside (plain_task t) (shared_by shared c.step_alone.new.progress)) c.in_ok-step_alone.ensures.same ∙ c.in_ok-step_alone.ensures.does s plan has barrier (plain_own c.index_mut.result.now) shared) c.in_ok-step_alone.ensures.kept c.self.view_is

pub returns-else-n-len : goal.returns-else-n-len
returns-else-n-len c = λ s plan has barrier.
    let i = c.self.inside in
    alone_past (acts (going c.args.code.now) plan barrier (asked_last (plain_last c.args.end.now.last) (loops_of (exit_of c.args.end.now.last)) c.args.end.now.at s (Reached c.args.operands.now))) i.tasks.items i.progress i.calls i.objects.items c.args.n c.args.self.now (omega arith) c.self.view_is

pub step_alone-requires-clause-there : goal.step_alone-requires-clause-there
step_alone-requires-clause-there c =
    let i = c.self.inside in
    let m = c.index_mut.result.now in
    (rw (← c.self.view_is) at c.requires.there) (plain_task m) (got plain_task i.tasks.items c.args.n m (omega arith) c.index_mut.ensures.value)
