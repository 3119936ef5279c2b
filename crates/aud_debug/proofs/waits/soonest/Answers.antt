use Rattle.std.proofs.Common.{Some, ap, sym, ◌∙◌, arith, drop, ◌+◌}
use Rattle.aud_meaning.specs.Listings.Waits.{times}
use Rattle.aud_debug.proofs.Waiting.{fold, fold_is, fold_next, fold_past}
use Rattle.aud_debug.proofs.waits.soonest.Goals as goal

pub loop-delay-preserved : goal.loop-delay-preserved
loop-delay-preserved c =
    let ds = c.args.delays.now in
    let i = c.loop-delay.delay-index in
    ap (λ t. fold (Some t) (times (drop (i + 1) ds))) c.sooner.ensures
    ∙ sym (fold_next c.loop-delay.found ds i _ c.loop-delay-test.true)
    ∙ c.loop-delay.invariant

pub returns : goal.returns
returns c =
    let ds = c.args.delays.now in
    sym (fold_past c.loop-delay.found ds c.loop-delay.delay-index (omega (arith, c.loop-delay-test.false))) ∙ c.loop-delay.invariant ∙ fold_is (times ds)
