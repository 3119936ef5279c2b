use Rattle.std.proofs.Common.{refl}
use Rattle.std.proofs.lemmas.Bool.{false≢true}
use Rattle.aud_code.proofs.Framing.{offers_see_behind, offers_see_first}
use Rattle.aud_code.proofs.seen.offers_see.Goals as goal

pub returns-then-not-offer_sees : goal.returns-then-not-offer_sees
returns-then-not-offer_sees c = (
  λ e. absurd (false≢true e),
  λ h. c.if-not-offer_sees.ensures.1 ((offers_see_first c.args.seen.now c.args.frames c.args.offers.now c.loop-offer.offer-index c.loop-offer-test.true).0 (offers_see_behind c.args.seen.now c.args.frames c.args.offers.now c.loop-offer.offer-index h)).0,
)

pub loop-offer-preserved : goal.loop-offer-preserved
loop-offer-preserved c = λ h. c.loop-offer.invariant ((offers_see_first c.args.seen.now c.args.frames c.args.offers.now c.loop-offer.offer-index c.loop-offer-test.true).1 (c.if-not-offer_sees.ensures.0 refl, h))
