use Rattle.std.proofs.Common.{◌+◌, ap, sym, ◌∙◌, arith, drop}
use Rattle.aud_meaning.specs.Listings.Waits.{again_by, again_on}
use Rattle.aud_meaning.specs.Parts.{owns}
use Rattle.aud_debug.proofs.Waiting.{again_next, again_past}
use Rattle.aud_debug.proofs.waits.again_on.Goals as goal

pub loop-task-preserved : goal.loop-task-preserved
loop-task-preserved c =
    let s = c.args.state.now in
    let n = c.loop-task.task in
    let id = c.args.id in
    ap (again_on id (drop (n + 1) (owns s.tasks))) (c.again_by-owner.ensures ∙ ap (λ r. again_by id r c.loop-task.owner) c.restart.ensures)
    ∙ sym (again_next id n c.loop-task.owner s (omega arith))
    ∙ c.loop-task.invariant

pub returns : goal.returns
returns c = sym (again_past c.args.id c.loop-task.task c.loop-task.owner c.args.state.now (omega arith)) ∙ c.loop-task.invariant
