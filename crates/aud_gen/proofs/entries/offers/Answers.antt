use Rattle.std.proofs.Common.{◌≡◌, ◌+◌, ℕ, [], ◌∷◌, ◌++◌, drop, ap, sym, ◌∙◌, arith, append-nil}
use Rattle.std.proofs.lemmas.List.{drop_all, map-append}
use Rattle.aud_typed.specs.Ties.View.{alternatives_in}
use Rattle.aud_code.specs.declared.line.Offer.{Offer}
use Rattle.aud_code.specs.View.{behind_offers, bodies_offered}
use Rattle.aud_layout.specs.Layout.{bodies_from_by, parts_from_by}
use Rattle.aud_layout.specs.Written.{flat_step}
use Rattle.aud_gen.specs.Writes.{alternative_size}
use Rattle.aud_gen.proofs.Entering.{one_body, one_offer}
use Rattle.aud_gen.proofs.entries.offers.Goals as goal

pub loop-alternative-preserved : goal.loop-alternative-preserved
loop-alternative-preserved c =
    let xs = c.args.alternatives.now in
    let i = c.loop-alternative.alternative-index in
    let x = c.alternative-item.result in
    let ways = c.args.ways in
    let first = c.loop-alternative.first in
    let done = c.loop-alternative.offers.items in
    let new = c.in_ok-offer.field-0 in
    let rest = alternatives_in (drop (i + 1) xs) in
    let there : c.in_ok-first.first ≡ first + alternative_size x ways = omega (arith, c.in_ok-first.ensures.same, c.in_ok-first.ensures.whole, c.alternative_length.ensures) in
    let behind = ap behind_offers c.in_ok-push.ensures.items ∙ map-append (λ (o : Offer). o.behind) done (new ∷ []) in
    let bodies = ap bodies_offered c.in_ok-push.ensures.items ∙ map-append (λ (o : Offer). o.body) done (new ∷ []) in
    let one = c.in_ok-offer.ensures ways in (
      ap (λ (n : ℕ). behind_offers c.push.new.self.items ++ parts_from_by flat_step rest n c.args.next ways) there
          ∙ one_offer xs i x (omega arith) c.alternative-item.is first c.args.next ways new.behind (behind_offers done) _ _ one.0 behind c.loop-alternative.invariant.0,
      ap (λ (n : ℕ). bodies_offered c.push.new.self.items ++ bodies_from_by flat_step rest n c.args.next ways) there
          ∙ one_body xs i x (omega arith) c.alternative-item.is first c.args.next ways new.body (bodies_offered done) _ _ one.1 bodies c.loop-alternative.invariant.1,
    )

pub returns : goal.returns
returns c =
    let i = c.loop-alternative.alternative-index in
    let first = c.loop-alternative.first in
    let none = drop_all i c.args.alternatives.now (omega (arith, c.loop-alternative-test.false)) in
    let inv = rw none at c.loop-alternative.invariant in
    (sym (append-nil (behind_offers c.loop-alternative.offers.items)) ∙ inv.0, sym (append-nil (bodies_offered c.loop-alternative.offers.items)) ∙ inv.1)
