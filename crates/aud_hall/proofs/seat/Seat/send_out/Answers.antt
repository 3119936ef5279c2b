use Rattle.std.proofs.Common.{◌≡◌, ◌-◌, ◌<◌, ◌++◌, List, length, drop, Some, None, true, sym, ap, ◌∙◌, subst, arith}
use Rattle.aud_bench.specs.declared.request.Request.{Request}
use Rattle.aud_bench.specs.declared.request.Answer.{Answer}
use Rattle.aud_bench.specs.Ties.Kept.{is_kept}
use Rattle.aud_bench.specs.Seen.{Seen as Bench, answers_of}
use Rattle.aud_hall.specs.Seats.{Seat, Sending, sent}
use Rattle.aud_hall.specs.Ties.Places.{IsRightThere, unboxed}
use Rattle.aud_hall.proofs.Giving.{given_cut, sent_cut, goes_out}
use Rattle.aud_hall.proofs.Rooms.{held_home, kept_home, room_home}
use Rattle.aud_hall.proofs.seat.Seat.send_out.Goals as goal

pub give_rest-requires-clause-kept : goal.give_rest-requires-clause-kept
give_rest-requires-clause-kept c =
    let s : Seat = record { requests = c.self.inside.requests.items; outbox = c.self.inside.outbox.items; home = unboxed c.self.inside.home } in
    let b : Bench = c.deref_mut-bench.result.now in
    let home : s.home ≡ Some b = ap unboxed (sym c.take.ensures.value ∙ c.in-Some.is) ∙ ap (λ (x : Bench). Some x) (sym c.deref_mut-bench.ensures.value) in
    let there : IsRightThere s = subst IsRightThere (sym c.self.view_is) c.requires in
    ap (λ (rs : List Request). is_kept (b.journal ++ drop (length b.journal) rs)) c.deref.ensures.value ∙ kept_home s b home there

pub take_answers-requires-clause-held : goal.take_answers-requires-clause-held
take_answers-requires-clause-held c =
    let s : Seat = record { requests = c.self.inside.requests.items; outbox = c.self.inside.outbox.items; home = unboxed c.self.inside.home } in
    let b : Bench = c.deref_mut-bench.result.now in
    let home : s.home ≡ Some b = ap unboxed (sym c.take.ensures.value ∙ c.in-Some.is) ∙ ap (λ (x : Bench). Some x) (sym c.deref_mut-bench.ensures.value) in
    let there : IsRightThere s = subst IsRightThere (sym c.self.view_is) c.requires in
    let held = held_home s b home there in
    let cut = c.give_rest.ensures.cut c.if-give_rest.false in
    let same = ap (λ (b : Bench). b.taken) (c.close.ensures ∙ ap (λ (b : Bench). record b { spent = true }) cut.2) in
    omega (arith, held, same, c.len-known.ensures, c.self.inside.outbox.ok.0)

pub take_answers-requires-clause-room : goal.take_answers-requires-clause-room
take_answers-requires-clause-room c =
    let s : Seat = record { requests = c.self.inside.requests.items; outbox = c.self.inside.outbox.items; home = unboxed c.self.inside.home } in
    let b : Bench = c.deref_mut-bench.result.now in
    let home : s.home ≡ Some b = ap unboxed (sym c.take.ensures.value ∙ c.in-Some.is) ∙ ap (λ (x : Bench). Some x) (sym c.deref_mut-bench.ensures.value) in
    let there : IsRightThere s = subst IsRightThere (sym c.self.view_is) c.requires in
    let goes = goes_out s c.args.self.now c.self.view_is b home c.stays.result c.if-stays.false c.stays.ensures in
    let cut = c.give_rest.ensures.cut c.if-give_rest.false in
    let n = cut.0 in
    let less : n < length s.requests - length b.journal = omega (arith, cut.1, ap length c.deref.ensures.value) in
    let closed : c.close.new.self ≡ given_cut s.requests b n =
    c.close.ensures ∙ ap (λ (x : Bench). record x { spent = true }) cut.2 ∙ ap (λ rs. given_cut rs b n) c.deref.ensures.value in
    let room = room_home s b n home goes less there in
    let count = ap (λ (x : Bench). length (answers_of x)) closed in
    omega (arith, room, count, c.len-known.ensures, c.self.inside.outbox.ok.0, c.self.invariant.0)

pub returns : goal.returns
returns c =
    let s : Seat = record { requests = c.self.inside.requests.items; outbox = c.self.inside.outbox.items; home = unboxed c.self.inside.home } in
    let b : Bench = c.deref_mut-bench.result.now in
    let home : s.home ≡ Some b = ap unboxed (sym c.take.ensures.value ∙ c.in-Some.is) ∙ ap (λ (x : Bench). Some x) (sym c.deref_mut-bench.ensures.value) in
    let goes = goes_out s c.args.self.now c.self.view_is b home c.stays.result c.if-stays.false c.stays.ensures in
    let cut = c.give_rest.ensures.cut c.if-give_rest.false in
    let n = cut.0 in
    let less : n < length s.requests - length b.journal = omega (arith, cut.1, ap length c.deref.ensures.value) in
    let shut : Bench = c.close.new.self in
    let closed : shut ≡ given_cut s.requests b n = c.close.ensures ∙ ap (λ (x : Bench). record x { spent = true }) cut.2 ∙ ap (λ rs. given_cut rs b n) c.deref.ensures.value in
    let known : length s.outbox ≡ c.len-known.result = sym (c.len-known.ensures ∙ c.self.inside.outbox.ok.0) in
    let end : List Answer → Bench → Sending = λ outbox x. record { seat = record { requests = s.requests; outbox = outbox; home = Some x }; gone = None } in (
      Some n,
      ap (sent (Some n)) (sym c.self.view_is) ∙ sent_cut s b home goes n less
          ∙ ap (λ (x : Bench). end (s.outbox ++ drop (length s.outbox) (answers_of x)) (record x { taken = length (answers_of x) })) (sym closed)
          ∙ ap (λ k. end (s.outbox ++ drop k (answers_of shut)) (record shut { taken = length (answers_of shut) })) known
          ∙ ap (λ xs. end xs (record shut { taken = length (answers_of shut) })) (sym c.take_answers.ensures.items)
          ∙ ap (end c.take_answers.new.into.items) (sym c.take_answers.ensures.bench),
    )
