use Rattle.std.proofs.Common.{ℕ, ◌+◌, List, drop, ap, sym, ◌∙◌, arith}
use Rattle.std.proofs.lemmas.List.{at_drop_all, at_drop_more}
use Rattle.aud_meaning.specs.Configuration.{All}
use Rattle.aud_abort.specs.Aborting.{each_abnormal}
use Rattle.aud_code.specs.Places.{Spot}
use Rattle.aud_abort.proofs.aborting.mark_all.Goals as goal

pub loop-task-preserved : goal.loop-task-preserved
loop-task-preserved c = λ go plan barrier.
    let f : List ℕ → All Spot → All Spot = λ ns s. each_abnormal go plan barrier ns s in
    ap (f (drop (c.loop-task.task-index + 1) c.args.hit.now)) c.mark.ensures
    ∙ sym (at_drop_more (λ ns. f ns c.loop-task.state) c.args.hit.now c.loop-task.task-index 0 (omega arith))
    ∙ c.loop-task.invariant go plan barrier

pub returns : goal.returns
returns c = λ go plan barrier.
    let f : List ℕ → All Spot → All Spot = λ ns s. each_abnormal go plan barrier ns s in
    sym (at_drop_all (λ ns. f ns c.loop-task.state) c.args.hit.now c.loop-task.task-index (omega arith)) ∙ c.loop-task.invariant go plan barrier
