use Rattle.std.proofs.Common.{Some, map, ◌+◌, drop, ap, sym, ◌∙◌, arith}
use Rattle.std.proofs.lemmas.List.{at_drop_all}
use Rattle.aud_meaning.specs.declared.state.OpenDelay.{OpenDelay}
use Rattle.aud_tasks.specs.Moving.{soonest}
use Rattle.aud_tasks.proofs.MoveLaws.Soonest.{delay_more}
use Rattle.aud_tasks.proofs.times.soonest_delay.Goals as goal

pub loop-delay-preserved : goal.loop-delay-preserved
loop-delay-preserved c =
    let rest = map (λ (d : OpenDelay). d.time) (drop (c.loop-delay.delay-index + 1) c.args.delays.now) in
    ap (λ t. soonest (Some t) rest) c.sooner.ensures
    ∙ sym (delay_more c.loop-delay.first c.args.delays.now c.loop-delay.delay-index (omega arith))
    ∙ c.loop-delay.invariant

pub returns : goal.returns
returns c =
    sym (at_drop_all (λ ds. soonest c.loop-delay.first (map (λ (d : OpenDelay). d.time) ds)) c.args.delays.now c.loop-delay.delay-index (omega arith))
    ∙ c.loop-delay.invariant
