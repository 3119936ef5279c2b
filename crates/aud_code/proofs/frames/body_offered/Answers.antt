use Rattle.std.proofs.Common.{◌-◌, ◌∙◌, sym}
use Rattle.aud_code.specs.View.{bodies_offered}
use Rattle.aud_code.proofs.Framing.{behind_own, offered_at, none_offered}
use Rattle.aud_code.proofs.frames.body_offered.Goals as goal

pub returns-in-Some : goal.returns-in-Some
returns-in-Some c =
    let offers = c.args.offers.now in
    let n = c.args.alternative in
    let found = c.in-Some.ensures.lookup in
    sym (behind_own c.args.own (bodies_offered offers) n c.if-alternative-eq0.false ∙ offered_at offers (n - 1) c.in-Some.offer.now found.3.0 found.1)

pub returns-in-None : goal.returns-in-None
returns-in-None c =
    let offers = c.args.offers.now in
    let n = c.args.alternative in
    sym (behind_own c.args.own (bodies_offered offers) n c.if-alternative-eq0.false ∙ none_offered offers (n - 1) c.in-None.ensures.lookup.3)
