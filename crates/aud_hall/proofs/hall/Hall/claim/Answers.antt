use Rattle.std.proofs.Common.{length, sym, ap, ◌∙◌, arith}
use Rattle.aud_hall.specs.Halls.{claiming, claims}
use Rattle.aud_hall.specs.Ties.Said.{is_memory, said}
use Rattle.aud_hall.proofs.Limits.{limits_stay, limits_kept}
use Rattle.aud_hall.proofs.Places.{at_place_is}
use Rattle.aud_hall.proofs.hall.Hall.claim.Goals as goal

pub returns-clause-claims : goal.returns-clause-claims
returns-clause-claims c =
    ap (claims c.args.seat (is_memory c.claim.result)) (sym c.self.view_is)
    ∙ at_place_is c.args.seat c.in-Some.index c.self.inside.places.items c.index_mut-place.result.now c.in-Some.ensures.0 (omega (arith, c.in-Some.ensures.1, ap length c.self.view_is)) c.index_mut-place.ensures.value
    (claiming (is_memory c.claim.result)) c.claim.new.self (said c.claim.result) c.claim.ensures.claims

pub invariant_of-self : goal.invariant_of-self
invariant_of-self c =
    limits_stay c.self.inside.limits.items c.self.inside.places.items c.args.self.now c.in-Some.index c.index_mut-place.result.now c.claim.new.self c.self.view_is c.self.invariant (omega (arith, c.in-Some.ensures.1, ap length c.self.view_is)) c.index_mut-place.ensures.value c.claim.ensures.limits

pub returns-clause-limits : goal.returns-clause-limits
returns-clause-limits c =
    limits_kept c.self.inside.limits.items c.self.inside.places.items c.args.self.now c.in-Some.index c.index_mut-place.result.now c.claim.new.self c.self.view_is c.self.invariant (omega (arith, c.in-Some.ensures.1, ap length c.self.view_is)) c.index_mut-place.ensures.value c.claim.ensures.limits
