use Rattle.std.proofs.Common.{length, sym, ap, ◌∙◌, arith}
use Rattle.aud_hall.specs.Halls.{freeing, frees}
use Rattle.aud_hall.specs.Ties.Said.{said}
use Rattle.aud_hall.proofs.Limits.{limits_stay, limits_kept}
use Rattle.aud_hall.proofs.Places.{at_place_is}
use Rattle.aud_hall.proofs.hall.Hall.free.Goals as goal

pub returns-clause-frees : goal.returns-clause-frees
returns-clause-frees c =
    ap (frees c.args.seat) (sym c.self.view_is)
    ∙ at_place_is c.args.seat c.in-Some.index c.self.inside.places.items c.index_mut-place.result.now c.in-Some.ensures.0 (omega (arith, c.in-Some.ensures.1, ap length c.self.view_is)) c.index_mut-place.ensures.value
    freeing c.free.new.self (said c.free.result) c.free.ensures.frees

pub invariant_of-self : goal.invariant_of-self
invariant_of-self c =
    limits_stay c.self.inside.limits.items c.self.inside.places.items c.args.self.now c.in-Some.index c.index_mut-place.result.now c.free.new.self c.self.view_is c.self.invariant (omega (arith, c.in-Some.ensures.1, ap length c.self.view_is)) c.index_mut-place.ensures.value c.free.ensures.limits

pub returns-clause-limits : goal.returns-clause-limits
returns-clause-limits c =
    limits_kept c.self.inside.limits.items c.self.inside.places.items c.args.self.now c.in-Some.index c.index_mut-place.result.now c.free.new.self c.self.view_is c.self.invariant (omega (arith, c.in-Some.ensures.1, ap length c.self.view_is)) c.index_mut-place.ensures.value c.free.ensures.limits
