use Rattle.std.proofs.Common.{◌≡◌, Option, None, sym, ap, ◌∙◌}
use Rattle.aud_bench.specs.Seen.{Seen as Bench}
use Rattle.aud_hall.specs.Seats.{Seat}
use Rattle.aud_hall.specs.CheckIns.{judged}
use Rattle.aud_hall.specs.Halls.{Place}
use Rattle.aud_hall.specs.Ties.Places.{judged_at}
use Rattle.aud_hall.proofs.Keeping.{taken_kept}
use Rattle.aud_hall.proofs.place.Place.check_in.Goals as goal

pub invariant_of-self : goal.invariant_of-self
invariant_of-self c =
    let limits = c.self.inside.limits in
    let b : Bench = c.args.parcel.bench in
    let s : Seat = c.in-Some-seat.seat in
    let none : judged limits b s ≡ None =
    ap (λ (o : Option Seat). judged_at (record { limits = limits; seat = o }) o b) (sym c.in-Some-seat.is) ∙ ap (λ (p : Place). judged_at p p.seat b) c.self.view_is ∙ sym c.judge.ensures ∙ c.in_default.is in
    taken_kept limits c.self.inside.seat s c.in-Some-seat.is c.self.invariant c.take_in.new.self b c.take_in.ensures.right none c.take_in.ensures.seat
