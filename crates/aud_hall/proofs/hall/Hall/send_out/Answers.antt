use Rattle.std.proofs.Common.{length, sym, ap, ◌∙◌, arith}
use Rattle.aud_hall.specs.Halls.{sends_out}
use Rattle.aud_hall.specs.Parcels.{bench_of}
use Rattle.aud_hall.proofs.Limits.{limits_stay, limits_kept}
use Rattle.aud_hall.proofs.Places.{sends_out_is}
use Rattle.aud_hall.proofs.hall.Hall.send_out.Goals as goal

pub returns-clause-sends : goal.returns-clause-sends
returns-clause-sends c =
    let sends = c.send_out.ensures.sends in (
      sends.0,
      ap (sends_out c.args.seat sends.0) (sym c.self.view_is)
          ∙ sends_out_is c.args.seat c.in-Some.index c.self.inside.places.items c.index_mut-place.result.now c.in-Some.ensures.0 (omega (arith, c.in-Some.ensures.1, ap length c.self.view_is))
          c.index_mut-place.ensures.value sends.0 c.send_out.new.self (bench_of c.send_out.result) sends.1,
    )

pub invariant_of-self : goal.invariant_of-self
invariant_of-self c =
    limits_stay c.self.inside.limits.items c.self.inside.places.items c.args.self.now c.in-Some.index c.index_mut-place.result.now c.send_out.new.self c.self.view_is c.self.invariant (omega (arith, c.in-Some.ensures.1, ap length c.self.view_is)) c.index_mut-place.ensures.value c.send_out.ensures.limits

pub returns-clause-limits : goal.returns-clause-limits
returns-clause-limits c =
    limits_kept c.self.inside.limits.items c.self.inside.places.items c.args.self.now c.in-Some.index c.index_mut-place.result.now c.send_out.new.self c.self.view_is c.self.invariant (omega (arith, c.in-Some.ensures.1, ap length c.self.view_is)) c.index_mut-place.ensures.value c.send_out.ensures.limits
