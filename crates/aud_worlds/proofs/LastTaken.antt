-- At every seat the answers so far are exactly what the bench that it took in last has made.
use Rattle.std.specs.Prelude.{◌==◌, nat_le, ◌||◌, if◌then◌else◌}
use Rattle.std.proofs.Common.{◌≡◌, ℕ, zero, suc, ◌<◌, List, [], ◌∷◌, ◌++◌, length, Option, Some, None, Bool, true, false, refl, sym, ap, ◌∙◌, subst, arith, append-nil}
use Rattle.aud_text.specs.declared.limits.Limits.{Limits}
use Rattle.aud_bench.specs.declared.request.Request.{Request}
use Rattle.aud_bench.specs.Alone.{made}
use Rattle.aud_bench.specs.Seen.{Seen as Bench, told, answers_of}
use Rattle.aud_hall.specs.declared.why.Why.{Why}
use Rattle.aud_hall.specs.Numbered.{at}
use Rattle.aud_hall.specs.Slices.{given}
use Rattle.aud_hall.specs.Replies.{Then}
use Rattle.aud_hall.specs.Seats.{Seat, has_closed, claimed, submitting, submitted, taken_in, sends, sending_by, sending, sent, collected}
use Rattle.aud_hall.specs.CheckIns.{judged, checked}
use Rattle.aud_hall.specs.Halls.{Place, nobodys, place_at, put_place, with_seat, at_place, at_seat, claiming, freeing, sends_out, sending_place, sending_seat, checking_place, checking_seat}
use Rattle.aud_hall.specs.Parcels.{Parcel}
use Rattle.aud_hall.specs.Ties.Right.{IsTrue, IsHome, IsMade, IsRight, IsRightSeat}
use Rattle.aud_worlds.specs.World.{World, Event, Claim, Submit, SendOut, Slice, CheckIn, Collect, Free, happens, after_all, beginning, parcel_at, in_hall, slicing, checking}
use Rattle.aud_worlds.specs.Taken.{Last, nothing_done, last_claimed, last_taken, last_in, last_after, last_from, last_is, IsOfLast, LastLaw}
use Rattle.aud_worlds.specs.Ties.Worlds.{IsRightPlace, IsRightWorld}
use Rattle.aud_bench.proofs.Made.{none_done}
use Rattle.aud_bench.proofs.Truths.{eq_true, or_left, or_right, false_le}
use Rattle.aud_hall.proofs.Lists.{begins_front}
use Rattle.aud_hall.proofs.Seats.{front_on, made_is, sent_right}
use Rattle.aud_hall.proofs.CheckIns.{checked_right}
use Rattle.aud_worlds.proofs.Numbered.{each_place, place_put, place_put_other}
use Rattle.aud_worlds.proofs.Sessions.{eq_false}
use Rattle.aud_worlds.proofs.Worlds.{slot_right, happens_right, beginning_right}

-- ## Calls at a seat

claimed_last : (limits : Limits) → IsOfLast limits nothing_done (claimed limits)
claimed_last limits = record { front = ([], refl); within = omega arith; outbox = sym (ap (λ xs. xs ++ []) (none_done limits)) }

submitting_last : (limits : Limits) (last : Last) (over full refused : Bool) (r : Request) (s : Seat) → IsOfLast limits last s → IsOfLast limits last (submitting over full refused r s).now
submitting_last limits last true full refused r s h = h
submitting_last limits last false true refused r s h = h
submitting_last limits last false false true r s h = h
submitting_last limits last false false false r s h = record { front = front_on last.journal s.requests r h.front; within = h.within; outbox = h.outbox }

-- a bench goes out, or closes and stays
module _ (limits : Limits) (last : Last) (refused : Option ℕ) (s : Seat) (right : IsRight limits s) (h : IsOfLast limits last s) where
  module _ (b : Bench) (home : s.home ≡ Some b) (m : IsHome limits s b) (alive : b.spent ≡ false) (some : length s.outbox < length s.requests) where
    abbrev full : Bench
    full = given s.requests refused b

    was_open : has_closed s.home ≡ false
    was_open = ap has_closed home ∙ alive

    outbox_is : s.outbox ≡ made limits last.journal last.units
    outbox_is = h.outbox ∙ ap (λ c. made limits last.journal last.units ++ told c) was_open ∙ append-nil (made limits last.journal last.units)

    closes : (c : Bool) → full.spent ≡ c → IsRight limits (sends c s full).seat → IsOfLast limits last (sends c s full).seat
    closes false e r = record { front = h.front; within = h.within; outbox = h.outbox ∙ ap (λ c. made limits last.journal last.units ++ told c) was_open }
    closes true e r =
        let home_is : IsHome limits (taken_in full s) (record full { taken = length (answers_of full) }) = r.bench in
        record {
          front = h.front;
          within = h.within;
          outbox = home_is.outbox ∙ ap (λ xs. xs ++ told full.spent) (sym (made_is limits refused s right b m alive some) ∙ outbox_is);
        }

  stays_or : (b : Bench) → s.home ≡ Some b → IsHome limits s b → (stays : Bool) → (b.spent || nat_le (length s.requests) (length s.outbox)) ≡ stays → IsRight limits (sending_by stays refused s b).seat → IsOfLast limits last (sending_by stays refused s b).seat
  stays_or b home m true e r = h
  stays_or b home m false e r =
      closes b home m (or_left b.spent (nat_le (length s.requests) (length s.outbox)) e) (false_le _ _ (or_right b.spent (nat_le (length s.requests) (length s.outbox)) e)) (given s.requests refused b).spent refl r

  by_home : (o : Option Bench) → s.home ≡ o → IsMade limits s o → IsRight limits (sending refused s o).seat → IsOfLast limits last (sending refused s o).seat
  by_home None home m r = h
  by_home (Some b) home m r = stays_or b home m (b.spent || nat_le (length s.requests) (length s.outbox)) refl r

  sent_last : IsOfLast limits last (sent refused s).seat
  sent_last = by_home s.home refl right.bench (sent_right limits refused s right).0

-- a bench comes home, or is sent away
checked_last : (limits : Limits) (last : Last) (b : Bench) (s : Seat) → IsRight limits s → IsTrue b → IsOfLast limits last s
    → IsOfLast limits (last_taken (checked (judged limits b s) b s).reply b last) (checked (judged limits b s) b s).now
checked_last limits last b s right t h = by (judged limits b s) (checked_right limits b s right t)
  where
    by : (why : Option Why) → IsRight limits (checked why b s).now → IsOfLast limits (last_taken (checked why b s).reply b last) (checked why b s).now
    by (Some why) r = h
    by None r =
        let home_is : IsHome limits (taken_in b s) (record b { taken = length (answers_of b) }) = r.bench in
        record { front = begins_front b.journal s.requests home_is.front; within = home_is.within; outbox = home_is.outbox }

-- ## Places

abbrev OfSeat : Limits → Last → Option Seat → Type 0
OfSeat limits last None = Unit {0}
OfSeat limits last (Some s) = IsOfLast limits last s

abbrev OfPlace : Last → Option Place → Type 0
OfPlace last None = Unit {0}
OfPlace last (Some place) = OfSeat place.limits last place.seat

module _ (k : ℕ) (last : Last) (w : World) (right : IsRightWorld w) where
  right_at : (j : ℕ) (place : Place) → place_at w.hall j ≡ Some place → IsRightSeat place.limits place.seat
  right_at j place f = each_place IsRightPlace w.hall j place right.hall f

  put_other : (j : ℕ) (y : Place) → (j == k) ≡ false → OfPlace last (place_at w.hall k) → OfPlace last (place_at (put_place w.hall j y) k)
  put_other j y e h = subst (OfPlace last) (sym (place_put_other w.hall j k y (eq_false j k e))) h

  put_here : (after : Last) (x y : Place) → place_at w.hall k ≡ Some x → OfSeat y.limits after y.seat → OfPlace after (place_at (put_place w.hall k y) k)
  put_here after x y f is = subst (OfPlace after) (sym (place_put w.hall k x y f)) is

  -- a place changes, and what holds of it still does
  put_kept : (j : ℕ) (x y : Place) → place_at w.hall j ≡ Some x → (OfSeat x.limits last x.seat → OfSeat y.limits last y.seat) → OfPlace last (place_at w.hall k) → OfPlace last (place_at (put_place w.hall j y) k)
  put_kept j x y f keeps h = by (j == k) refl
    where
      by : (b : Bool) → (j == k) ≡ b → OfPlace last (place_at (put_place w.hall j y) k)
      by false e = put_other j y e h
      by true e =
          let same : j ≡ k = eq_true j k e in
          let there : place_at w.hall k ≡ Some x = sym (ap (place_at w.hall) same) ∙ f in
          subst (λ i. OfPlace last (place_at (put_place w.hall i y) k)) (sym same) (put_here last x y there (keeps (subst (OfPlace last) there h)))

  seat_last : (j : ℕ) (call : Seat → Then Seat) → ((limits : Limits) (s : Seat) → IsOfLast limits last s → IsOfLast limits last (call s).now)
      → OfPlace last (place_at w.hall k) → OfPlace last (place_at (in_hall w (at_place j (at_seat call) w.hall (place_at w.hall j))).now.hall k)
  seat_last j call keeps h = by (place_at w.hall j) refl
    where
      seated : (place : Place) (o : Option Seat) → OfSeat place.limits last o → place.seat ≡ o → OfSeat (at_seat call place o).now.limits last (at_seat call place o).now.seat
      seated place None is e = subst (OfSeat place.limits last) (sym e) tt
      seated place (Some s) is e = keeps place.limits s is

      by : (o : Option Place) → place_at w.hall j ≡ o → OfPlace last (place_at (in_hall w (at_place j (at_seat call) w.hall o)).now.hall k)
      by None f = h
      by (Some place) f = put_kept j place (at_seat call place place.seat).now f (λ is. seated place place.seat is refl) h

  send_last : (j : ℕ) (refused : Option ℕ) → OfPlace last (place_at w.hall k) → OfPlace last (place_at (sends_out j refused w.hall).hall k)
  send_last j refused h = by (place_at w.hall j) refl
    where
      seated : (place : Place) (o : Option Seat) → place.seat ≡ o → place_at w.hall j ≡ Some place → OfPlace last (place_at (sending_seat j refused w.hall place o).hall k)
      seated place None e f = h
      seated place (Some s) e f =
          put_kept j place (record place { seat = Some (sent refused s).seat }) f
          (λ is. sent_last place.limits last refused s (subst (IsRightSeat place.limits) e (right_at j place f)) (subst (OfSeat place.limits last) e is)) h

      by : (o : Option Place) → place_at w.hall j ≡ o → OfPlace last (place_at (sending_place j refused w.hall o).hall k)
      by None f = h
      by (Some place) f = seated place place.seat refl f

  slice_last : (n units : ℕ) (refused : Option ℕ) (o : Option Parcel) → OfPlace last (place_at w.hall k) → OfPlace last (place_at (slicing n units refused w o).now.hall k)
  slice_last n units refused None h = h
  slice_last n units refused (Some p) h = h

  free_last : (j : ℕ) → OfPlace last (place_at w.hall k) → OfPlace last (place_at (in_hall w (at_place j freeing w.hall (place_at w.hall j))).now.hall k)
  free_last j h = by (place_at w.hall j) refl
    where
      seated : (place : Place) (o : Option Seat) → place.seat ≡ o → OfSeat (freeing place o).now.limits last (freeing place o).now.seat
      seated place None e = subst (OfSeat place.limits last) (sym e) tt
      seated place (Some s) e = tt

      by : (o : Option Place) → place_at w.hall j ≡ o → OfPlace last (place_at (in_hall w (at_place j freeing w.hall o)).now.hall k)
      by None f = h
      by (Some place) f = put_kept j place (freeing place place.seat).now f (λ is. seated place place.seat refl) h

  -- ## Claim

  claim_other : (refused : Bool) (j : ℕ) → (j == k) ≡ false → OfPlace last (place_at w.hall k) → OfPlace last (place_at (in_hall w (at_place j (claiming refused) w.hall (place_at w.hall j))).now.hall k)
  claim_other refused j e h = by (place_at w.hall j)
    where
      by : (o : Option Place) → OfPlace last (place_at (in_hall w (at_place j (claiming refused) w.hall o)).now.hall k)
      by None = h
      by (Some place) = put_other j (claiming refused place place.seat).now e h

  claim_here : (refused : Bool) → OfPlace last (place_at w.hall k)
      → OfPlace (last_claimed (in_hall w (at_place k (claiming refused) w.hall (place_at w.hall k))).reply last) (place_at (in_hall w (at_place k (claiming refused) w.hall (place_at w.hall k))).now.hall k)
  claim_here refused h = by (place_at w.hall k) refl
    where
      seated : (refused : Bool) (place : Place) (o : Option Seat) → place.seat ≡ o → place_at w.hall k ≡ Some place
          → OfPlace (last_claimed (claiming refused place o).reply last) (place_at (put_place w.hall k (claiming refused place o).now) k)
      seated refused place (Some s) e f = put_here last place place f (subst (OfPlace last) f h)
      seated true place None e f = put_here last place place f (subst (OfPlace last) f h)
      seated false place None e f = put_here nothing_done place (record place { seat = Some (claimed place.limits) }) f (claimed_last place.limits)

      by : (o : Option Place) → place_at w.hall k ≡ o → OfPlace (last_claimed (in_hall w (at_place k (claiming refused) w.hall o)).reply last) (place_at (in_hall w (at_place k (claiming refused) w.hall o)).now.hall k)
      by None f = h
      by (Some place) f = seated refused place place.seat refl f

  claim_last : (refused : Bool) (j : ℕ) (b : Bool) → (j == k) ≡ b → OfPlace last (place_at w.hall k)
      → OfPlace (if b then last_claimed (happens (Claim j refused) w).reply last else last) (place_at (happens (Claim j refused) w).now.hall k)
  claim_last refused j false e h = claim_other refused j e h
  claim_last refused j true e h =
      subst (λ i. OfPlace (last_claimed (happens (Claim i refused) w).reply last) (place_at (happens (Claim i refused) w).now.hall k)) (sym (eq_true j k e)) (claim_here refused h)

  -- ## CheckIn

  check_other : (n j : ℕ) → (j == k) ≡ false → OfPlace last (place_at w.hall k) → OfPlace last (place_at (checking n j w (parcel_at w.out n)).now.hall k)
  check_other n j e h = by (parcel_at w.out n)
    where
      seated : (b : Bench) (place : Place) (o : Option Seat) → OfPlace last (place_at (checking_seat j w.hall b place o).now k)
      seated b place None = h
      seated b place (Some s) = put_other j (with_seat place (checked (judged place.limits b s) b s)).now e h

      placed : (b : Bench) (o : Option Place) → OfPlace last (place_at (checking_place j w.hall b o).now k)
      placed b None = h
      placed b (Some place) = seated b place place.seat

      by : (o : Option Parcel) → OfPlace last (place_at (checking n j w o).now.hall k)
      by None = h
      by (Some p) = placed p.bench (place_at w.hall j)

  check_here : (n : ℕ) → OfPlace last (place_at w.hall k)
      → OfPlace (last_in (checking n k w (parcel_at w.out n)).reply (parcel_at w.out n) last) (place_at (checking n k w (parcel_at w.out n)).now.hall k)
  check_here n h = by (parcel_at w.out n) refl
    where
      seated : (b : Bench) → IsTrue b → (place : Place) (o : Option Seat) → place.seat ≡ o → place_at w.hall k ≡ Some place
          → OfPlace (last_taken (checking_seat k w.hall b place o).reply b last) (place_at (checking_seat k w.hall b place o).now k)
      seated b t place None e f = h
      seated b t place (Some s) e f =
          put_here (last_taken (checked (judged place.limits b s) b s).reply b last) place (with_seat place (checked (judged place.limits b s) b s)).now f
          (checked_last place.limits last b s (subst (IsRightSeat place.limits) e (right_at k place f)) t (subst (OfSeat place.limits last) e (subst (OfPlace last) f h)))

      placed : (b : Bench) → IsTrue b → (o : Option Place) → place_at w.hall k ≡ o
          → OfPlace (last_taken (checking_place k w.hall b o).reply b last) (place_at (checking_place k w.hall b o).now k)
      placed b t None f = h
      placed b t (Some place) f = seated b t place place.seat refl f

      by : (o : Option Parcel) → parcel_at w.out n ≡ o → OfPlace (last_in (checking n k w o).reply o last) (place_at (checking n k w o).now.hall k)
      by None f = h
      by (Some p) f = placed p.bench (slot_right w.out n p right.out f) (place_at w.hall k) refl

  check_last : (n j : ℕ) (b : Bool) → (j == k) ≡ b → OfPlace last (place_at w.hall k)
      → OfPlace (if b then last_in (happens (CheckIn n j) w).reply (parcel_at w.out n) last else last) (place_at (happens (CheckIn n j) w).now.hall k)
  check_last n j false e h = check_other n j e h
  check_last n j true e h =
      subst (λ i. OfPlace (last_in (happens (CheckIn n i) w).reply (parcel_at w.out n) last) (place_at (happens (CheckIn n i) w).now.hall k)) (sym (eq_true j k e)) (check_here n h)

-- ## Every event

happens_last : (k : ℕ) (last : Last) (w : World) (e : Event) → IsRightWorld w → OfPlace last (place_at w.hall k) → OfPlace (last_after k last w e) (place_at (happens e w).now.hall k)
happens_last k last w (Claim j refused) right h = claim_last k last w right refused j (j == k) refl h
happens_last k last w (Submit j r refused) right h = seat_last k last w right j (submitted r refused) (λ limits s is. submitting_last limits last _ _ _ r s is) h
happens_last k last w (SendOut j refused) right h = send_last k last w right j refused h
happens_last k last w (Slice n units refused) right h = slice_last k last w right n units refused (parcel_at w.out n) h
happens_last k last w (CheckIn n j) right h = check_last k last w right n j (j == k) refl h
happens_last k last w (Collect j from refused) right h = seat_last k last w right j (λ s. record { now = s; reply = collected from refused s }) (λ limits s is. is) h
happens_last k last w (Free j) right h = free_last k last w right j h

all_last : (k : ℕ) (last : Last) (w : World) (es : List Event) → IsRightWorld w → OfPlace last (place_at w.hall k) → OfPlace (last_from k last w es) (place_at (after_all w es).hall k)
all_last k last w [] right h = h
all_last k last w (e ∷ es) right h = all_last k (last_after k last w e) (happens e w).now es (happens_right e w right) (happens_last k last w e right h)

nobody_at : (limits : List Limits) (n : ℕ) → OfPlace nothing_done (at (nobodys limits) n)
nobody_at [] n = tt
nobody_at (l ∷ limits) zero = tt
nobody_at (l ∷ limits) (suc n) = nobody_at limits n

nobody : (limits : List Limits) (k : ℕ) → OfPlace nothing_done (place_at (nobodys limits) k)
nobody limits zero = tt
nobody limits (suc k) = nobody_at limits k

pub last_law : LastLaw
last_law limits events k place s f e =
    let law = all_last k nothing_done (beginning limits) events (beginning_right limits) (nobody limits k) in
    let last = last_is k limits events in
    subst (OfSeat place.limits last) e (subst (OfPlace last) f law)
