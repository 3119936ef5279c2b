-- What a look at the answers tells its user.
use Rattle.std.specs.Prelude.{nat_lt, ◌==◌, if◌then◌else◌}
use Rattle.std.proofs.Common.{◌≡◌, inl, inr, ◌-◌, ◌<◌, List, length, Option, Some, None, Result, Ok, Err, Bool, true, false, refl, sym, ap, subst, subst₂, arith}
use Rattle.aud_bench.specs.declared.request.Answer.{Answer}
use Rattle.aud_bench.proofs.Truths.{eq_true}
use Rattle.aud_hall.specs.Halls.{Place, place_at}
use Rattle.aud_hall.specs.Told.{IsToldAt}
use Rattle.aud_hall.specs.Ties.Places.{outbox_at}
use Rattle.aud_hall.proofs.Truths.{true_lt}
use Rattle.aud_pass.specs.declared.got.Got.{Got}
use Rattle.aud_pass.specs.declared.got.Got.TheVariants.{Idle, New, Busy}
use Rattle.aud_pass.specs.declared.fault.DeskFault.{DeskFault}
use Rattle.aud_pass.specs.declared.fault.DeskFault.TheVariants as fault
use Rattle.aud_pass.specs.Passed.{Passed, is_over, IsGot}
use Rattle.aud_pass.specs.Replies.{IsAwaited, Grows, IsLost, Fails, Collects}
use Rattle.aud_pass.specs.Sections.{not_there, Collected, collected_by, collected, IsNew, CollectsIn}
use Rattle.aud_pass.proofs.Overs.{front_longer}
use Rattle.aud_pass.proofs.Places.{lost_of, answers_there}
use Rattle.aud_pass.proofs.Passes.{with_got, is_whole, awaited}

pub lost_fails : (p : Passed) (f : DeskFault) → IsLost f → Fails p f
lost_fails p fault.NoSuchSeat h = tt
lost_fails p fault.NotClaimed h = tt
lost_fails p (fault.NotThisDesk place) h = tt
lost_fails p fault.SeatInUse h = absurd h
lost_fails p fault.Full h = absurd h
lost_fails p fault.Memory h = absurd h

-- what is found where no answer tells that memory is out
abbrev found : Passed → List Answer → Collected
found p outbox =
    if length p.got == length p.sent then record { reply = Ok Idle; pass = p }
    else if nat_lt (length p.got) (length outbox) then record { reply = Ok (New (length outbox - length p.got)); pass = with_got outbox p }
    else record { reply = Ok Busy; pass = p }

module _ (p : Passed) (right : IsGot p.limits p.sent p.got) (o : Option Place) (t : IsToldAt o) where
  grows_to : not_there p o ≡ None → is_over p.got ≡ false → length p.got < length (outbox_at o) → Grows (length (outbox_at o) - length p.got) p (with_got (outbox_at o) p)
  grows_to there over longer =
      let is = answers_there p o there t in
      record {
        seat = refl;
        limits = refl;
        sent = refl;
        front = front_longer p.limits p.sent p.got right over is.0 (outbox_at o) is.1 longer;
        more = omega (arith, longer);
        some = omega (arith, longer);
      }

  module _ (there : not_there p o ≡ None) (over : is_over p.got ≡ false) where
    finds_so : let c = found p (outbox_at o) in Collects p c.reply c.pass
    finds_so = by (length p.got == length p.sent) (nat_lt (length p.got) (length (outbox_at o))) refl refl
      where
        by : (whole more : Bool) → (length p.got == length p.sent) ≡ whole → nat_lt (length p.got) (length (outbox_at o)) ≡ more
            → let c : Collected = (if whole then record { reply = Ok Idle; pass = p } else if more then record { reply = Ok (New (length (outbox_at o) - length p.got)); pass = with_got (outbox_at o) p } else record { reply = Ok Busy; pass = p }) in Collects p c.reply c.pass
        by true more e m = (is_whole p right over (eq_true (length p.got) (length p.sent) e), refl)
        by false true e m = (awaited p right over e, grows_to there over (true_lt (length p.got) (length (outbox_at o)) m))
        by false false e m = (awaited p right over e, refl)

  collects_by : (wrong : Option DeskFault) (over : Bool) → not_there p o ≡ wrong → is_over p.got ≡ over → let c = collected_by wrong (outbox_at o) p in Collects p c.reply c.pass
  collects_by (Some f) over e h = (lost_fails p f (lost_of p o f e), refl)
  collects_by None true e h =
      subst (λ (c : Collected). Collects p c.reply c.pass) (sym (ap (λ b. if b then record { reply = Err fault.Memory; pass = p } else found p (outbox_at o)) h)) (inl h, refl)
  collects_by None false e h = subst (λ (c : Collected). Collects p c.reply c.pass) (sym (ap (λ b. if b then record { reply = Err fault.Memory; pass = p } else found p (outbox_at o)) h)) (finds_so e h)

  -- what would be new is awaited
  collects_now : let c = collected_by (not_there p o) (outbox_at o) p in Collects p c.reply c.pass
  collects_now = collects_by (not_there p o) (is_over p.got) refl refl

  new_awaited : (reply : Result Got DeskFault) (q : Passed) → Collects p reply q → IsNew reply → IsAwaited p
  new_awaited (Ok Idle) q h new = absurd new
  new_awaited (Ok (New n)) q h new = h.0
  new_awaited (Ok Busy) q h new = absurd new
  new_awaited (Err f) q h new = absurd new

pub told_of : (p : Passed) (places : List Place) (reply : Result Got DeskFault) (q : Passed) → IsGot p.limits p.sent p.got → IsToldAt (place_at places p.seat) → CollectsIn p places reply q → Collects p reply q
told_of p places reply q right t (inl (reply_is, q_is)) = subst₂ (λ r x. Collects p r x) (sym reply_is) (sym q_is) (collects_now p right (place_at places p.seat) t)
told_of p places reply q right t (inr (reply_is, q_is, new)) =
    let c = collected p places in
    let waits = new_awaited p right (place_at places p.seat) t c.reply c.pass (collects_now p right (place_at places p.seat) t) new in
    subst₂ (λ r x. Collects p r x) (sym reply_is) (sym q_is) (inr waits, refl)
