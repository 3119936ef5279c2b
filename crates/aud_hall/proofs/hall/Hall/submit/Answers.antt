use Rattle.std.proofs.Common.{length, sym, ap, ◌∙◌, arith}
use Rattle.aud_hall.specs.Seats.{submitted}
use Rattle.aud_hall.specs.Halls.{at_seat, submits}
use Rattle.aud_hall.specs.Ties.Said.{is_memory, said}
use Rattle.aud_hall.proofs.Limits.{limits_stay, limits_kept}
use Rattle.aud_hall.proofs.Places.{at_place_is}
use Rattle.aud_hall.proofs.hall.Hall.submit.Goals as goal

pub returns-clause-submits : goal.returns-clause-submits
returns-clause-submits c =
    ap (submits c.args.seat c.args.request (is_memory c.submit.result)) (sym c.self.view_is)
    ∙ at_place_is c.args.seat c.in-Some.index c.self.inside.places.items c.index_mut-place.result.now c.in-Some.ensures.0 (omega (arith, c.in-Some.ensures.1, ap length c.self.view_is)) c.index_mut-place.ensures.value
    (at_seat (submitted c.args.request (is_memory c.submit.result))) c.submit.new.self (said c.submit.result) c.submit.ensures.submits

pub invariant_of-self : goal.invariant_of-self
invariant_of-self c =
    limits_stay c.self.inside.limits.items c.self.inside.places.items c.args.self.now c.in-Some.index c.index_mut-place.result.now c.submit.new.self c.self.view_is c.self.invariant (omega (arith, c.in-Some.ensures.1, ap length c.self.view_is)) c.index_mut-place.ensures.value c.submit.ensures.limits

pub returns-clause-limits : goal.returns-clause-limits
returns-clause-limits c =
    limits_kept c.self.inside.limits.items c.self.inside.places.items c.args.self.now c.in-Some.index c.index_mut-place.result.now c.submit.new.self c.self.view_is c.self.invariant (omega (arith, c.in-Some.ensures.1, ap length c.self.view_is)) c.index_mut-place.ensures.value c.submit.ensures.limits
