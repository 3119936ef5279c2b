use Rattle.std.proofs.Common.{◌≡◌, ◌<◌, ℕ, drop}
use Rattle.aud_meaning.specs.Parts.{any}
use Rattle.aud_state.specs.Condition.{has_come}
use Rattle.aud_state.proofs.condition.soonest.Given as goal

abbrev pub invariant-loop-delay : goal.invariant-loop-delay
invariant-loop-delay l = (clock : ℕ) → clock < l.first → any (has_come clock) (drop l.delay-index l.delays) ≡ any (has_come clock) l.delays
