use Rattle.std.proofs.Common.{arith, refl}
use Rattle.std.proofs.lemmas.Bool.{false≢true}
use Rattle.aud_code.proofs.seen.places_see.Goals as goal

pub returns-then-not-place_sees : goal.returns-then-not-place_sees
returns-then-not-place_sees c =
    (λ e. absurd (false≢true e), λ h. c.if-not-place_sees.ensures.1 (h c.loop-place.place (omega arith)))

pub returns : goal.returns
returns c = (λ e. λ k within. c.loop-place.invariant k (omega arith), λ h. refl)
