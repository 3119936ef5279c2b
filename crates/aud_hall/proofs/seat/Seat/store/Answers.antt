use Rattle.std.proofs.Common.{◌≡◌, [], ◌∷◌, length, length-append, true, false, sym, ap, ◌∙◌, arith}
use Rattle.aud_bench.specs.Alone.{fits}
use Rattle.aud_bench.specs.Size.{bytes_of}
use Rattle.aud_bench.specs.Seen.{has_quit}
use Rattle.aud_bench.proofs.Journals.{bytes_append, last_quits, room_left}
use Rattle.aud_hall.specs.Seats.{Seat}
use Rattle.aud_hall.proofs.seat.Seat.store.Goals as goal

pub invariant_of-self-2 : goal.invariant_of-self-2
invariant_of-self-2 c =
    let s = c.self.inside in
    let r = c.args.request in
    let going : has_quit s.requests.items ≡ false = ap (λ (t : Seat). has_quit t.requests) c.self.view_is ∙ c.requires.open in
    let bytes : s.bytes ≡ bytes_of s.requests.items = (c.self.invariant.1 (c.self.invariant.2 ∙ going)).0 in
    let room : fits (length s.requests.items) (bytes_of s.requests.items) r ≡ true = ap (λ (t : Seat). fits (length t.requests) (bytes_of t.requests) r) c.self.view_is ∙ c.requires.fits in (
      omega (arith, ap length c.in_ok-push.ensures.items, length-append s.requests.items (r ∷ []), c.in_ok-reserve.ensures.ok, c.in_ok-reserve.ensures.len, c.in_ok-reserve.ensures.capacity, c.saturating_sub-room.ensures, c.len.ensures, c.len-2.ensures, s.requests.ok.0, s.outbox.ok.0),
      (λ other.
          let within = room_left (length s.requests.items) (bytes_of s.requests.items) r room (sym c.is_quit-quit.ensures ∙ other) in (
            omega (arith, bytes, c.size-size.ensures, ap bytes_of c.in_ok-push.ensures.items, bytes_append s.requests.items r),
            omega (arith, within, bytes, c.size-size.ensures),
          )),
      c.is_quit-quit.ensures ∙ sym (last_quits s.requests.items r going) ∙ ap has_quit (sym c.in_ok-push.ensures.items),
    )
