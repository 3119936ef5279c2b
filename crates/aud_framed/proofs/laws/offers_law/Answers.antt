use Rattle.aud_framed.proofs.Offers.{accept_offers, select_offers}
use Rattle.aud_framed.proofs.laws.offers_law.Goals as goal

pub returns : goal.returns
returns clause = record {
  offers = λ code table tasks barriers seen sound fits place returns display os l s. (
    accept_offers code table tasks barriers seen sound fits place returns display os l s,
    select_offers code table tasks barriers seen sound fits place returns display os l s,
  );
}
