use Rattle.std.proofs.Common.{◌+◌, sym, ◌∙◌, arith}
use Rattle.aud_meaning.specs.Parts.{own_of}
use Rattle.aud_debug.proofs.Watched.{found_there, not_there, open_from, open_next, open_past, opens, opens_as}
use Rattle.aud_debug.proofs.objects.is_open.Goals as goal

pub loop-task-preserved : goal.loop-task-preserved
loop-task-preserved c =
    let s = c.args.state.now in
    let n = c.loop-task.task in
    let frame = c.args.frame in
    let is = opens_as frame (own_of n s) c.has_open.result _ c.has_open.ensures c.opened.ensures in
    sym (open_next frame n s (omega arith) ∙ not_there (opens frame (own_of n s)) (open_from frame (n + 1) s) (sym is ∙ c.if-has_open.false))
    ∙ c.loop-task.invariant

pub returns-then-has_open : goal.returns-then-has_open
returns-then-has_open c =
    let s = c.args.state.now in
    let n = c.loop-task.task in
    let frame = c.args.frame in
    let is = opens_as frame (own_of n s) c.has_open.result _ c.has_open.ensures c.opened.ensures in
    sym (sym c.loop-task.invariant ∙ open_next frame n s (omega arith) ∙ found_there (opens frame (own_of n s)) (open_from frame (n + 1) s) (sym is ∙ c.if-has_open.true))

pub returns : goal.returns
returns c = sym (sym c.loop-task.invariant ∙ open_past c.args.frame c.loop-task.task c.args.state.now (omega arith))
