-- Where memory is ample, the answers have no end but their own.
use Rattle.std.specs.Prelude.{nat_le, ◌||◌}
use Rattle.std.proofs.Common.{◌≡◌, ℕ, List, [], ◌∷◌, ◌++◌, length, Option, Some, None, Bool, true, false, refl, sym, ap, ◌∙◌, subst, append-nil}
use Rattle.aud_bench.specs.declared.request.Request.{Request}
use Rattle.aud_bench.specs.Alone.{alone}
use Rattle.aud_bench.specs.Seen.{Seen as Bench, told}
use Rattle.aud_hall.specs.declared.why.Why.{Why}
use Rattle.aud_hall.specs.Seats.{Seat, has_closed, submitting, submitted, sending_by, sending, sent, collected}
use Rattle.aud_hall.specs.CheckIns.{judged, checked}
use Rattle.aud_hall.specs.Numbered.{IsPrefix}
use Rattle.aud_worlds.specs.Session.{Part, Own, Began, Submitted, SentOut, Sliced, Returned, Strayed, Collected, Freed, Held, bench_at, acts, at_held, own_sending, own_slicing, own_checking, asked, session_from, none_yet}
use Rattle.aud_worlds.specs.Mine.{mine}
use Rattle.aud_worlds.specs.Headline.{IsCalm, IsAmple, AmpleLaw}
use Rattle.aud_worlds.proofs.Isolation.{held_own, headline_law}

-- the bench at home has not closed
abbrev IsOpen : Option Held → Type 0
IsOpen None = Unit {0}
IsOpen (Some h) = has_closed h.seat.home ≡ false

submitting_open : (over full refused : Bool) (r : Request) (s : Seat) → has_closed s.home ≡ false → has_closed (submitting over full refused r s).now.home ≡ false
submitting_open true full refused r s h = h
submitting_open false true refused r s h = h
submitting_open false false true r s h = h
submitting_open false false false r s h = h

sent_open : (s : Seat) → has_closed s.home ≡ false → has_closed (sent None s).seat.home ≡ false
sent_open s h = by s.home h
  where
    stays : (c : Bool) (b : Bench) → has_closed s.home ≡ false → has_closed (sending_by c None s b).seat.home ≡ false
    stays true b h = h
    stays false b h = refl

    by : (o : Option Bench) → has_closed o ≡ false → has_closed (sending None s o).seat.home ≡ false
    by None k = h
    by (Some b) k = stays (b.spent || nat_le (length s.requests) (length s.outbox)) b h

checked_open : (why : Option Why) (number : Option ℕ) (b : Bench) (s : Seat) → IsCalm (Returned b number) (checked why b s).reply → has_closed s.home ≡ false → has_closed (checked why b s).now.home ≡ false
checked_open (Some why) number b s calm h = h
checked_open None number b s calm h = calm

own_open : (o : Own) (p : Part) → IsCalm o (acts o p).reply → IsOpen p.held → IsOpen (acts o p).now.held
own_open (Began limits) p calm h = refl
own_open (Submitted r refused) p calm h = by p.held h
  where
    by : (o : Option Held) → IsOpen o → IsOpen (at_held (submitted r refused) p o).now.held
    by None k = h
    by (Some held) k = submitting_open _ _ _ r held.seat k
own_open (SentOut None) p calm h = by p.held h
  where
    by : (o : Option Held) → IsOpen o → IsOpen (own_sending None p o).now.held
    by None k = h
    by (Some held) k = sent_open held.seat k
own_open (SentOut (Some n)) p calm h = absurd calm
own_open (Sliced n units refused) p calm h = by (bench_at p.parcels n)
  where
    by : (o : Option Bench) → IsOpen (own_slicing n units refused p o).now.held
    by None = h
    by (Some b) = h
own_open (Returned b number) p calm h = by p.held calm h
  where
    by : (o : Option Held) → IsCalm (Returned b number) (own_checking b number p o).reply → IsOpen o → IsOpen (own_checking b number p o).now.held
    by None c k = h
    by (Some held) c k = checked_open (judged held.limits b held.seat) number b held.seat c k
own_open (Strayed n reply) p calm h = h
own_open (Collected from refused) p calm h = by p.held h
  where
    by : (o : Option Held) → IsOpen o → IsOpen (at_held (λ s. record { now = s; reply = collected from refused s }) p o).now.held
    by None k = h
    by (Some held) k = k
own_open Freed p calm h = tt

open_is : (p : Part) (os : List Own) → IsAmple p os → IsOpen p.held → IsOpen (session_from p os).part.held
open_is p [] calm h = h
open_is p (o ∷ os) calm h = open_is (acts o p).now os calm.1 (own_open o p calm.0 h)

pub ample_law : AmpleLaw
ample_law limits events k n h calm e =
    let law = headline_law limits events k n h e in
    let alive : has_closed h.seat.home ≡ false = subst IsOpen (held_own limits events k n h e) (open_is none_yet (mine k n limits events) calm tt) in
    let front = law.1.so_far.0 in
    let outbox_is : h.seat.outbox ≡ front = law.1.so_far.1 ∙ ap (λ c. front ++ told c) alive ∙ append-nil front in
    subst (λ xs. IsPrefix xs (alone h.limits (asked (mine k n limits events)))) (sym outbox_is) law.1.so_far.2
