use Rattle.std.proofs.Common.{◌≡◌, None, sym, ap, ◌∙◌, subst, length, arith}
use Rattle.aud_bench.specs.Seen.{Seen as Bench, answers_of}
use Rattle.aud_hall.specs.Seats.{Seat}
use Rattle.aud_hall.specs.Ties.Right.{IsTrue}
use Rattle.aud_hall.specs.Ties.Places.{unboxed}
use Rattle.aud_hall.specs.CheckIns.{first_difference, not_awaited, or_differs}
use Rattle.aud_hall.proofs.Rooms.{awaited, room_in}
use Rattle.aud_hall.proofs.seat.Seat.take_in.Goals as goal

pub take_answers-requires-clause-room : goal.take_answers-requires-clause-room
take_answers-requires-clause-room c =
    let s : Seat = record { requests = c.self.inside.requests.items; outbox = c.self.inside.outbox.items; home = unboxed c.self.inside.home } in
    let b : Bench = c.args.parcel.bench in
    let none = subst (λ (t : Seat). or_differs (first_difference b.journal t.requests) (not_awaited b t.outbox t.home) ≡ None) (sym c.self.view_is) c.requires in
    let true : IsTrue b = subst IsTrue c.into_bench-home.ensures.bench c.into_bench-home.ensures.right in
    let room = room_in b s true (awaited b s none) in
    let count = ap (λ (x : Bench). length (answers_of x)) (c.deref_mut-bench.ensures.value ∙ c.into_bench-home.ensures.bench) in
    omega (arith, room, count, c.len-from.ensures, c.self.inside.outbox.ok.0, c.self.invariant.0)
