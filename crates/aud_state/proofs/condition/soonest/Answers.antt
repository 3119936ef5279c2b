use Rattle.std.proofs.Common.{◌≡◌, ◌+◌, drop, false, get_or, ap, sym, ◌∙◌, arith}
use Rattle.std.proofs.lemmas.Bool.{lt-leb}
use Rattle.std.proofs.lemmas.List.{at_drop_all, at_drop_more}
use Rattle.std.specs.Prelude.{◌||◌}
use Rattle.aud_meaning.specs.declared.state.OpenDelay.{OpenDelay}
use Rattle.aud_meaning.specs.Parts.{any}
use Rattle.aud_state.specs.Condition.{has_come}
use Rattle.aud_state.proofs.condition.soonest.Goals as goal

abbrev no_delay : OpenDelay
no_delay = record { alternative = 0; time = 0 }

pub loop-delay-preserved : goal.loop-delay-preserved
loop-delay-preserved c = λ clock before.
    let ds = c.args.delays.now in
    let i = c.loop-delay.delay-index in
    let later : has_come clock (get_or ds i no_delay) ≡ false = lt-leb (get_or ds i no_delay).time clock (omega (arith, before, c.min-first.ensures)) in
    sym (at_drop_more (any (has_come clock)) ds i no_delay c.loop-delay-test.true
    ∙ ap (λ b. b || any (has_come clock) (drop (i + 1) ds)) later)
    ∙ c.loop-delay.invariant clock (omega (arith, before, c.min-first.ensures))

pub returns : goal.returns
returns c = λ clock before.
    sym (c.loop-delay.invariant clock before)
    ∙ at_drop_all (any (has_come clock)) c.args.delays.now c.loop-delay.delay-index (omega arith)
