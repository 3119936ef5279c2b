use Rattle.std.proofs.Common.{◌++◌, append-nil, sym, ◌∙◌, arith}
use Rattle.std.proofs.lemmas.List.{at_drop_all}
use Rattle.aud_meaning.specs.Tasks as effect
use Rattle.aud_abort.proofs.aborting.bodies.Goals as goal

pub returns : goal.returns
returns c = λ go plan barrier.
    sym (append-nil c.loop-task.frames.items)
    ∙ sym (at_drop_all (λ ns. c.loop-task.frames.items ++ effect.bodies_of go plan barrier ns c.args.state.now) c.args.named.now c.loop-task.task-index (omega arith))
    ∙ c.loop-task.invariant go plan barrier
