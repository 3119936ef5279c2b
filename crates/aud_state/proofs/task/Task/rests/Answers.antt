use Rattle.std.proofs.Common.{refl}
use Rattle.aud_state.specs.View.{plain_task}
use Rattle.aud_state.proofs.Waking.{rests_by}
use Rattle.aud_state.proofs.task.Task.rests.Goals as goal

pub returns-then-rests : goal.returns-then-rests
returns-then-rests c = λ is.
    let t = c.args.self.now in
    rests_by t.condition.status c.args.clock c.args.calls.now.calls t.condition (plain_task t).own refl refl refl (c.rests.ensures c.if-rests.true)
