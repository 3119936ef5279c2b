use Rattle.std.proofs.Common.{map, refl}
use Rattle.std.proofs.lemmas.Bool.{false≢true}
use Rattle.aud_code.specs.View.{plain_line}
use Rattle.aud_code.proofs.Framing.{offers_at_behind, offers_at_first}
use Rattle.aud_code.proofs.frames.offers_fit.Goals as goal

pub returns-then-not-offer_fits : goal.returns-then-not-offer_fits
returns-then-not-offer_fits c = (
  λ e. absurd (false≢true e),
  λ h. c.if-not-offer_fits.ensures.1 ((offers_at_first (map plain_line c.args.lines.now) c.args.within c.args.place c.args.offers.now c.loop-offer.offer-index c.loop-offer-test.true).0 (offers_at_behind (map plain_line c.args.lines.now) c.args.within c.args.place c.args.offers.now c.loop-offer.offer-index h)).0,
)

pub loop-offer-preserved : goal.loop-offer-preserved
loop-offer-preserved c = λ h. c.loop-offer.invariant ((offers_at_first (map plain_line c.args.lines.now) c.args.within c.args.place c.args.offers.now c.loop-offer.offer-index c.loop-offer-test.true).1 (c.if-not-offer_fits.ensures.0 refl, h))
