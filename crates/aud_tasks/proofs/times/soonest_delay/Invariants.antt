use Rattle.std.proofs.Common.{◌≡◌, drop, map}
use Rattle.aud_meaning.specs.declared.state.OpenDelay.{OpenDelay}
use Rattle.aud_tasks.specs.Moving.{soonest}
use Rattle.aud_tasks.proofs.times.soonest_delay.Given as goal

abbrev pub invariant-loop-delay : goal.invariant-loop-delay
invariant-loop-delay l = soonest l.first (map (λ (d : OpenDelay). d.time) (drop l.delay-index l.delays)) ≡ soonest l.fn.found (map (λ (d : OpenDelay). d.time) l.delays)
