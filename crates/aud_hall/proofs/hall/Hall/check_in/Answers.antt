use Rattle.std.proofs.Common.{length, sym, ap, ◌∙◌, arith}
use Rattle.aud_hall.specs.Halls.{checks_in}
use Rattle.aud_hall.specs.Ties.Said.{said_next}
use Rattle.aud_hall.proofs.Limits.{limits_stay, limits_kept}
use Rattle.aud_hall.proofs.Places.{checks_in_is}
use Rattle.aud_hall.proofs.hall.Hall.check_in.Goals as goal

pub returns-clause-checks : goal.returns-clause-checks
returns-clause-checks c =
    ap (checks_in c.args.seat c.args.parcel.bench) (sym c.self.view_is)
    ∙ checks_in_is c.args.seat c.in-Some.index c.self.inside.places.items c.index_mut-place.result.now c.in-Some.ensures.0 (omega (arith, c.in-Some.ensures.1, ap length c.self.view_is))
    c.index_mut-place.ensures.value c.args.parcel.bench c.check_in.new.self (said_next c.check_in.result) c.check_in.ensures.checks

pub invariant_of-self : goal.invariant_of-self
invariant_of-self c =
    limits_stay c.self.inside.limits.items c.self.inside.places.items c.args.self.now c.in-Some.index c.index_mut-place.result.now c.check_in.new.self c.self.view_is c.self.invariant (omega (arith, c.in-Some.ensures.1, ap length c.self.view_is)) c.index_mut-place.ensures.value c.check_in.ensures.limits

pub returns-clause-limits : goal.returns-clause-limits
returns-clause-limits c =
    limits_kept c.self.inside.limits.items c.self.inside.places.items c.args.self.now c.in-Some.index c.index_mut-place.result.now c.check_in.new.self c.self.view_is c.self.invariant (omega (arith, c.in-Some.ensures.1, ap length c.self.view_is)) c.index_mut-place.ensures.value c.check_in.ensures.limits
