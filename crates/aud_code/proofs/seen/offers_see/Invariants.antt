use Rattle.std.proofs.Common.{drop}
use Rattle.aud_code.proofs.Framing.{OffersSee}
use Rattle.aud_code.proofs.seen.offers_see.Given as goal

abbrev pub invariant-loop-offer : goal.invariant-loop-offer
invariant-loop-offer l = OffersSee l.seen l.frames (drop l.offer-index l.offers) → OffersSee l.seen l.frames l.offers
