use Rattle.std.proofs.Common.{◌≡◌, None, drop}
use Rattle.aud_meaning.specs.Listings.Waits.{times}
use Rattle.aud_debug.proofs.Waiting.{fold}
use Rattle.aud_debug.proofs.waits.soonest.Given as goal

abbrev pub invariant-loop-delay : goal.invariant-loop-delay
invariant-loop-delay l = fold l.found (times (drop l.delay-index l.delays)) ≡ fold None (times l.delays)
