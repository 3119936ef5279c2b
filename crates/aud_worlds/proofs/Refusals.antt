-- A call that is refused changes nothing.
use Rattle.std.proofs.Common.{◌≡◌, ℕ, Option, Some, None, Bool, true, false, refl, sym, ap, ◌∙◌}
use Rattle.aud_bench.specs.declared.request.Request.{Request}
use Rattle.aud_hall.specs.declared.why.Why.{Why}
use Rattle.aud_hall.specs.Replies.{Then}
use Rattle.aud_hall.specs.Seats.{Seat, submitted, submitting, collected}
use Rattle.aud_hall.specs.CheckIns.{judged, checked}
use Rattle.aud_hall.specs.Halls.{Place, place_at, put_place, with_seat, with_place, at_place, at_seat, claiming, freeing, checking_place, checking_seat}
use Rattle.aud_hall.specs.Parcels.{Parcel}
use Rattle.aud_worlds.specs.World.{World, Claim, Submit, SendOut, Slice, CheckIn, Collect, Free, parcel_at, in_hall, slicing, coming_in, checking}
use Rattle.aud_worlds.specs.Why.Laws.{IsRefusal, RefusalLaw}
use Rattle.aud_worlds.proofs.Numbered.{put_place_same}

abbrev SamePlace : (Place → Option Seat → Then Place) → Type 0
SamePlace call = (place : Place) → IsRefusal (call place place.seat).reply → (call place place.seat).now ≡ place

place_same : (k : ℕ) (call : Place → Option Seat → Then Place) (w : World) → SamePlace call → IsRefusal (at_place k call w.hall (place_at w.hall k)).reply → (in_hall w (at_place k call w.hall (place_at w.hall k))).now ≡ w
place_same k call w same = by (place_at w.hall k) refl
  where
    by : (o : Option Place) → place_at w.hall k ≡ o → IsRefusal (at_place k call w.hall o).reply → (in_hall w (at_place k call w.hall o)).now ≡ w
    by None e r = refl
    by (Some place) e r = ap (λ x. record { hall = put_place w.hall k x; out = w.out }) (same place r) ∙ ap (λ hall. record { hall = hall; out = w.out }) (put_place_same w.hall k place e)

seat_same : (call : Seat → Then Seat) → ((s : Seat) → IsRefusal (call s).reply → (call s).now ≡ s) → SamePlace (at_seat call)
seat_same call same place = by place.seat refl
  where
    by : (o : Option Seat) → place.seat ≡ o → IsRefusal (at_seat call place o).reply → (at_seat call place o).now ≡ place
    by None e r = refl
    by (Some s) e r = ap (λ x. record { limits = place.limits; seat = Some x }) (same s r) ∙ ap (λ o. record { limits = place.limits; seat = o }) (sym e)

claim_same : (refused : Bool) → SamePlace (claiming refused)
claim_same refused place = by refused place.seat
  where
    by : (r : Bool) (o : Option Seat) → IsRefusal (claiming r place o).reply → (claiming r place o).now ≡ place
    by r (Some s) h = refl
    by true None h = refl
    by false None h = absurd h

free_same : SamePlace freeing
free_same place = by place.seat
  where
    by : (o : Option Seat) → IsRefusal (freeing place o).reply → (freeing place o).now ≡ place
    by None h = refl
    by (Some s) h = absurd h

submitting_same : (over full refused : Bool) (r : Request) (s : Seat) → IsRefusal (submitting over full refused r s).reply → (submitting over full refused r s).now ≡ s
submitting_same true full refused r s h = refl
submitting_same false true refused r s h = refl
submitting_same false false true r s h = refl
submitting_same false false false r s h = absurd h

slice_same : (n units : ℕ) (refused : Option ℕ) (w : World) (o : Option Parcel) → IsRefusal (slicing n units refused w o).reply → (slicing n units refused w o).now ≡ w
slice_same n units refused w None h = refl
slice_same n units refused w (Some p) h = absurd h

check_same : (n k : ℕ) (w : World) (o : Option Parcel) → IsRefusal (checking n k w o).reply → (checking n k w o).now ≡ w
check_same n k w None h = refl
check_same n k w (Some p) h = placed (place_at w.hall k) refl h
  where
    judge : (place : Place) (s : Seat) (why : Option Why) → place_at w.hall k ≡ Some place → place.seat ≡ Some s → IsRefusal (checked why p.bench s).reply → (coming_in n w (with_place k w.hall (with_seat place (checked why p.bench s)))).now ≡ w
    judge place s (Some why) e f h = ap (λ o. record { hall = put_place w.hall k (record { limits = place.limits; seat = o }); out = w.out }) (sym f) ∙ ap (λ hall. record { hall = hall; out = w.out }) (put_place_same w.hall k place e)
    judge place s None e f h = absurd h

    seated : (place : Place) (o : Option Seat) → place_at w.hall k ≡ Some place → place.seat ≡ o → IsRefusal (checking_seat k w.hall p.bench place o).reply → (coming_in n w (checking_seat k w.hall p.bench place o)).now ≡ w
    seated place None e f h = refl
    seated place (Some s) e f h = judge place s (judged place.limits p.bench s) e f h

    placed : (o : Option Place) → place_at w.hall k ≡ o → IsRefusal (checking_place k w.hall p.bench o).reply → (coming_in n w (checking_place k w.hall p.bench o)).now ≡ w
    placed None e h = refl
    placed (Some place) e h = seated place place.seat e refl h

pub refusal_law : RefusalLaw
refusal_law (Claim k refused) w h = place_same k (claiming refused) w (claim_same refused) h
refusal_law (Submit k r refused) w h = place_same k (at_seat (submitted r refused)) w (seat_same (submitted r refused) (λ s. submitting_same _ _ _ r s)) h
refusal_law (SendOut k refused) w h = absurd h
refusal_law (Slice n units refused) w h = slice_same n units refused w (parcel_at w.out n) h
refusal_law (CheckIn n k) w h = check_same n k w (parcel_at w.out n) h
refusal_law (Collect k from refused) w h = place_same k (at_seat (λ s. record { now = s; reply = collected from refused s })) w (seat_same (λ s. record { now = s; reply = collected from refused s }) (λ s _. refl)) h
refusal_law (Free k) w h = place_same k freeing w free_same h
