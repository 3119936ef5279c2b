use Rattle.std.proofs.Common.{drop, map}
use Rattle.aud_code.specs.View.{plain_line}
use Rattle.aud_code.proofs.Framing.{OffersAt}
use Rattle.aud_code.proofs.frames.offers_fit.Given as goal

abbrev pub invariant-loop-offer : goal.invariant-loop-offer
invariant-loop-offer l = OffersAt (map plain_line l.lines) l.within l.place (drop l.offer-index l.offers) → OffersAt (map plain_line l.lines) l.within l.place l.offers
