use Rattle.std.proofs.Common.{List, length, sym, ap, ◌∙◌, arith}
use Rattle.aud_hall.specs.Replies.{Then}
use Rattle.aud_hall.specs.Seats.{collected}
use Rattle.aud_hall.specs.Halls.{Place, place_at, at_seat, collects}
use Rattle.aud_hall.specs.Ties.Said.{is_memory, said_answers}
use Rattle.aud_hall.specs.Ties.Places.{outbox_at}
use Rattle.aud_hall.proofs.Places.{set_same, place_is, at_place_is}
use Rattle.aud_hall.proofs.hall.Hall.collect.Goals as goal

pub returns-clause-collects : goal.returns-clause-collects
returns-clause-collects c =
    let hall = c.self.inside.places.items in
    let old = c.index.result.now in
    let reply = said_answers c.collect.result in
    let then : List Place → Then (List Place) = λ places. record { now = places; reply = reply } in
    ap (collects c.args.seat c.args.from (is_memory c.collect.result)) (sym c.self.view_is)
    ∙ at_place_is c.args.seat c.in-Some.index hall old c.in-Some.ensures.0 (omega (arith, c.in-Some.ensures.1, ap length c.self.view_is)) c.index.ensures
    (at_seat (λ s. record { now = s; reply = collected c.args.from (is_memory c.collect.result) s })) old reply c.collect.ensures.collects
    ∙ ap then (set_same hall c.in-Some.index old c.index.ensures ∙ c.self.view_is)

pub returns-clause-some : goal.returns-clause-some
returns-clause-some c =
    λ memory.
    let here = place_is c.args.seat c.in-Some.index c.self.inside.places.items c.index.result.now c.in-Some.ensures.0 (omega (arith, c.in-Some.ensures.1, ap length c.self.view_is)) c.index.ensures in
    let same = ap (λ (places : List Place). length (outbox_at (place_at places c.args.seat))) (sym c.self.view_is) ∙ ap (λ o. length (outbox_at o)) here in
    omega (arith, c.collect.ensures.some memory, same)
