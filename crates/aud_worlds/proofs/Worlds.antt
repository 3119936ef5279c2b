-- Every event keeps what holds of a world.
use Rattle.std.specs.Prelude.{◌||◌, if◌then◌else◌}
use Rattle.std.proofs.Common.{◌≡◌, ℕ, ◌+◌, ◌<◌, ◌≤◌, List, [], ◌∷◌, ◌++◌, length, Option, Some, None, Bool, true, false, refl, sym, ap, ◌∙◌, subst, arith, length-append}
use Rattle.aud_text.specs.declared.limits.Limits.{Limits}
use Rattle.aud_bench.specs.Alone.{made}
use Rattle.aud_bench.specs.Seen.{Seen as Bench}
use Rattle.aud_hall.specs.Numbered.{at, joined}
use Rattle.aud_hall.specs.Slices.{lesser, until, is_cut, done, sliced}
use Rattle.aud_hall.specs.Replies.{Reply, Taken, Then}
use Rattle.aud_hall.specs.Seats.{Seat, submitted, sent, collected}
use Rattle.aud_hall.specs.CheckIns.{judged, checked}
use Rattle.aud_hall.specs.Halls.{Place, nobodys, place_at, at_place, at_seat, claiming, freeing, sends_out, sending_place, sending_seat, checking_place, checking_seat}
use Rattle.aud_hall.specs.Parcels.{Parcel}
use Rattle.aud_hall.specs.Ties.Right.{IsTrue, IsRight, IsRightSeat}
use Rattle.aud_worlds.specs.World.{World, Event, Claim, Submit, SendOut, Slice, CheckIn, Collect, Free, happens, after_all, beginning, parcel_at, parcels, in_hall, sending_away, slicing, coming_in, checking, out_after}
use Rattle.aud_worlds.specs.Ties.Worlds.{Each, IsRightPlace, IsRightSlot, IsRightWorld}
use Rattle.aud_bench.proofs.Made.{made_grows, made_short}
use Rattle.aud_hall.proofs.Truths.{true_lt}
use Rattle.aud_hall.proofs.Seats.{IsGone, claimed_right, submitted_right, sent_right}
use Rattle.aud_hall.proofs.CheckIns.{checked_right}
use Rattle.aud_worlds.proofs.Numbered.{each_at, each_put, each_append, each_place, each_put_place}

KeepsPlace : (Place → Option Seat → Then Place) → Type 0
KeepsPlace call = (place : Place) → IsRightPlace place → IsRightPlace (call place place.seat).now

at_place_right : (k : ℕ) (call : Place → Option Seat → Then Place) (w : World) → KeepsPlace call → IsRightWorld w → IsRightWorld (in_hall w (at_place k call w.hall (place_at w.hall k))).now
unfolding KeepsPlace
at_place_right k call w keeps right = by (place_at w.hall k) refl
  where
    by : (o : Option Place) → place_at w.hall k ≡ o → IsRightWorld (in_hall w (at_place k call w.hall o)).now
    by None e = right
    by (Some place) e = record { hall = each_put_place IsRightPlace w.hall k _ right.hall (keeps place (each_place IsRightPlace w.hall k place right.hall e)); out = right.out }

seat_keeps : (call : Seat → Then Seat) → ((limits : Limits) (s : Seat) → IsRight limits s → IsRight limits (call s).now) → KeepsPlace (at_seat call)
unfolding KeepsPlace
seat_keeps call keeps place right = by place.seat right
  where
    by : (o : Option Seat) → IsRightSeat place.limits o → IsRightPlace (at_seat call place o).now
    by None r = right
    by (Some s) r = keeps place.limits s r

claim_keeps : (refused : Bool) → KeepsPlace (claiming refused)
unfolding KeepsPlace
claim_keeps refused place right = by refused place.seat right
  where
    by : (r : Bool) (o : Option Seat) → IsRightSeat place.limits o → IsRightPlace (claiming r place o).now
    by r (Some s) h = right
    by true None h = right
    by false None h = claimed_right place.limits

free_keeps : KeepsPlace freeing
unfolding KeepsPlace
free_keeps place right = by place.seat
  where
    by : (o : Option Seat) → IsRightPlace (freeing place o).now
    by None = right
    by (Some s) = tt

sent_parcels : (k : ℕ) (gone : Option Bench) → IsGone gone → Each IsRightSlot (parcels k gone)
sent_parcels k None h = tt
sent_parcels k (Some b) h = (h, tt)

send_right : (k : ℕ) (refused : Option ℕ) (w : World) → IsRightWorld w → IsRightWorld (sending_away k w (sends_out k refused w.hall)).now
send_right k refused w right = by (place_at w.hall k) refl
  where
    out_right : (gone : Option Bench) → IsGone gone → Each IsRightSlot (w.out ++ parcels k gone)
    out_right gone h = each_append IsRightSlot w.out (parcels k gone) right.out (sent_parcels k gone h)

    seated : (place : Place) (o : Option Seat) → IsRightSeat place.limits o → IsRightWorld (sending_away k w (sending_seat k refused w.hall place o)).now
    seated place None h = record { hall = right.hall; out = out_right None tt }
    seated place (Some s) h =
        let leaves = sent_right place.limits refused s h in
        record { hall = each_put_place IsRightPlace w.hall k _ right.hall leaves.0; out = out_right (sent refused s).gone leaves.1 }

    by : (o : Option Place) → place_at w.hall k ≡ o → IsRightWorld (sending_away k w (sending_place k refused w.hall o)).now
    by None e = record { hall = right.hall; out = out_right None tt }
    by (Some place) e = seated place place.seat (each_place IsRightPlace w.hall k place right.hall e)

-- ## Slice

until_le : (o : Option ℕ) (n : ℕ) → until o n ≤ n
until_le None n = omega arith
until_le (Some m) n = omega arith

cut_less : (o : Option ℕ) (n : ℕ) → is_cut o n ≡ true → until o n < n
cut_less None n h = absurd (cc)
cut_less (Some m) n h = let less = true_lt m n h in omega (arith, less)

or_true : (a b : Bool) → a ≡ false → (a || b) ≡ true → b ≡ true
or_true a b e h = sym (ap (λ x. x || b) e) ∙ h

sliced_true : (units : ℕ) (refused : Option ℕ) (b : Bench) → IsTrue b → IsTrue (sliced units refused b)
sliced_true units refused b t = by b.spent refl
  where
    by : (c : Bool) → b.spent ≡ c → IsTrue (sliced units refused b)
    by true e =
        let none : done units refused b ≡ 0 = ap (λ c. if c then 0 else until refused (lesser units b)) e in
        let same : b.units + done units refused b ≡ b.units = omega (arith, none) in
        record {
          within = omega (arith, same, t.within);
          taken = subst (λ u. b.taken ≤ length (made b.limits b.journal u)) (sym same) t.taken;
          short = λ _. subst (λ u. length (made b.limits b.journal u) < length b.journal) (sym same) (t.short e);
        }
    by false e =
        let some : done units refused b ≡ until refused (lesser units b) = ap (λ c. if c then 0 else until refused (lesser units b)) e in
        let below = until_le refused (lesser units b) in
        let grown = made_grows b.limits b.journal b.units (b.units + done units refused b) (omega arith) in
        let longer : length (made b.limits b.journal b.units) ≤ length (made b.limits b.journal (b.units + done units refused b)) = omega (arith, ap length grown.1, length-append (made b.limits b.journal b.units) grown.0) in
        record {
          within = omega (arith, some, below, t.within);
          taken = omega (arith, longer, t.taken);
          short = λ h.
              let less = cut_less refused (lesser units b) (or_true b.spent (is_cut refused (lesser units b)) e h) in
              made_short b.limits b.journal (b.units + done units refused b) (omega (arith, some, less, t.within));
        }

pub slot_right : (out : List (Option Parcel)) (n : ℕ) (p : Parcel) → Each IsRightSlot out → parcel_at out n ≡ Some p → IsTrue p.bench
slot_right out n p all e = by (at out n) refl e
  where
    by : (o : Option (Option Parcel)) → at out n ≡ o → joined o ≡ Some p → IsTrue p.bench
    by None f e = absurd (cc)
    by (Some x) f e = each_at IsRightSlot out n (Some p) all (f ∙ ap Some e)

slice_right : (n units : ℕ) (refused : Option ℕ) (w : World) → IsRightWorld w → IsRightWorld (slicing n units refused w (parcel_at w.out n)).now
slice_right n units refused w right = by (parcel_at w.out n) refl
  where
    by : (o : Option Parcel) → parcel_at w.out n ≡ o → IsRightWorld (slicing n units refused w o).now
    by None e = right
    by (Some p) e = record { hall = right.hall; out = each_put IsRightSlot w.out n _ right.out (sliced_true units refused p.bench (slot_right w.out n p right.out e)) }

check_right : (n k : ℕ) (w : World) → IsRightWorld w → IsRightWorld (checking n k w (parcel_at w.out n)).now
check_right n k w right = by (parcel_at w.out n) refl
  where
    out_right : (reply : Reply) → Each IsRightSlot (out_after w.out n reply)
    out_right (Taken next) = each_put IsRightSlot w.out n None right.out tt
    out_right _ = right.out

    seated : (b : Bench) → IsTrue b → (place : Place) (o : Option Seat) → IsRightSeat place.limits o → IsRightWorld (coming_in n w (checking_seat k w.hall b place o)).now
    seated b t place None h = right
    seated b t place (Some s) h = record { hall = each_put_place IsRightPlace w.hall k _ right.hall (checked_right place.limits b s h t); out = out_right (checked (judged place.limits b s) b s).reply }

    placed : (b : Bench) → IsTrue b → (o : Option Place) → place_at w.hall k ≡ o → IsRightWorld (coming_in n w (checking_place k w.hall b o)).now
    placed b t None e = right
    placed b t (Some place) e = seated b t place place.seat (each_place IsRightPlace w.hall k place right.hall e)

    by : (o : Option Parcel) → parcel_at w.out n ≡ o → IsRightWorld (checking n k w o).now
    by None e = right
    by (Some p) e = placed p.bench (slot_right w.out n p right.out e) (place_at w.hall k) refl

pub happens_right : (e : Event) (w : World) → IsRightWorld w → IsRightWorld (happens e w).now
happens_right (Claim k refused) w right = at_place_right k (claiming refused) w (claim_keeps refused) right
happens_right (Submit k r refused) w right = at_place_right k (at_seat (submitted r refused)) w (seat_keeps (submitted r refused) (λ limits s. submitted_right limits r refused s)) right
happens_right (SendOut k refused) w right = send_right k refused w right
happens_right (Slice n units refused) w right = slice_right n units refused w right
happens_right (CheckIn n k) w right = check_right n k w right
happens_right (Collect k from refused) w right = at_place_right k (at_seat (λ s. record { now = s; reply = collected from refused s })) w (seat_keeps (λ s. record { now = s; reply = collected from refused s }) (λ limits s h. h)) right
happens_right (Free k) w right = at_place_right k freeing w free_keeps right

pub all_right : (w : World) (es : List Event) → IsRightWorld w → IsRightWorld (after_all w es)
all_right w [] right = right
all_right w (e ∷ es) right = all_right (happens e w).now es (happens_right e w right)

nobodys_right : (ls : List Limits) → Each IsRightPlace (nobodys ls)
nobodys_right [] = tt
nobodys_right (l ∷ ls) = (tt, nobodys_right ls)

pub beginning_right : (limits : List Limits) → IsRightWorld (beginning limits)
beginning_right limits = record { hall = nobodys_right limits; out = tt }
