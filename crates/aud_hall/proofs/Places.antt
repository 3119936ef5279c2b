-- Places of a hall, as they are kept and as they are numbered.
use Rattle.std.proofs.Common.{◌≡◌, ℕ, zero, suc, ◌<◌, ◌≤◌, List, [], ◌∷◌, ◌++◌, length, get_or, set, Option, Some, None, refl, sym, ap, ◌∙◌, arith}
use Rattle.std.proofs.lemmas.List.{set-get_or}
use Rattle.aud_text.specs.declared.limits.Limits.{Limits}
use Rattle.aud_bench.specs.Seen.{Seen as Bench}
use Rattle.aud_hall.specs.Numbered.{at, put}
use Rattle.aud_hall.specs.Replies.{Reply, Stranger, Then}
use Rattle.aud_hall.specs.Seats.{Seat, sent}
use Rattle.aud_hall.specs.CheckIns.{judged_vacant}
use Rattle.aud_hall.specs.Halls.{Place, nobodys, HallSending, place_at, put_place, with_place, at_place, sending_seat, sending_place, sends_out, checking_seat, checking_place, checks_in}
use Rattle.aud_hall.specs.Ties.Places.{SentFrom, checked_at}

pub at_here : {A : Type 0} (xs : List A) (i : ℕ) (x : A) → i < length xs → x ≡ get_or xs i x → at xs i ≡ Some x
at_here [] i x here is = absurd (omega (arith, here))
at_here (y ∷ xs) zero x here is = ap (λ v. Some v) (sym is)
at_here (y ∷ xs) (suc i) x here is = at_here xs i x (omega (arith, here)) is

pub at_past : {A : Type 0} (xs : List A) (i : ℕ) → length xs ≤ i → at xs i ≡ None
at_past [] i past = refl
at_past (y ∷ xs) zero past = absurd (omega (arith, past))
at_past (y ∷ xs) (suc i) past = at_past xs i (omega (arith, past))

pub put_is : {A : Type 0} (xs : List A) (i : ℕ) (y : A) → put xs i y ≡ set xs i y
put_is [] i y = refl
put_is (x ∷ xs) zero y = refl
put_is (x ∷ xs) (suc i) y = ap (λ zs. x ∷ zs) (put_is xs i y)

-- writing what is there changes nothing
pub set_same : {A : Type 0} (xs : List A) (i : ℕ) (x : A) → x ≡ get_or xs i x → set xs i x ≡ xs
set_same xs i x is = ap (set xs i) is ∙ set-get_or xs i x

pub no_place : (hall : List Place) (k : ℕ) → length hall < k → place_at hall k ≡ None
no_place hall zero past = absurd (omega (arith, past))
no_place hall (suc k) past = at_past hall k (omega (arith, past))

module _ (k i : ℕ) (hall : List Place) (old : Place) (number : k ≡ suc i) (here : i < length hall) (is : old ≡ get_or hall i old) where
  pub place_is : place_at hall k ≡ Some old
  place_is = ap (place_at hall) number ∙ at_here hall i old here is

  pub place_put : (new : Place) → put_place hall k new ≡ set hall i new
  place_put new = ap (λ n. put_place hall n new) number ∙ put_is hall i new

  -- a call at a place is one of the hall
  pub at_place_is : (call : Place → Option Seat → Then Place) (new : Place) (reply : Reply) → call old old.seat ≡ record { now = new; reply = reply }
      → at_place k call hall (place_at hall k) ≡ record { now = set hall i new; reply = reply }
  at_place_is call new reply made =
      let then : List Place → Then (List Place) = λ places. record { now = places; reply = reply } in
      ap (at_place k call hall) place_is ∙ ap (with_place k hall) made ∙ ap then (place_put new)

  -- and so is a bench that goes out there
  pub sends_out_is : (refused : Option ℕ) (new : Place) (gone : Option Bench) → SentFrom refused old old.seat new gone → sends_out k refused hall ≡ record { hall = set hall i new; gone = gone }
  sends_out_is refused new gone sends = ap (sending_place k refused hall) place_is ∙ by old.seat sends
    where
      by : (o : Option Seat) → SentFrom refused old o new gone → sending_seat k refused hall old o ≡ record { hall = set hall i new; gone = gone }
      by None (same, none) =
          let then : List Place → Option Bench → HallSending = λ places b. record { hall = places; gone = b } in
          ap (λ places. then places None) (sym (ap (set hall i) same ∙ set_same hall i old is)) ∙ ap (then (set hall i new)) (sym none)
      by (Some s) (after, went) =
          let then : List Place → Option Bench → HallSending = λ places b. record { hall = places; gone = b } in
          ap (λ places. then places (sent refused s).gone) (place_put (record old { seat = Some (sent refused s).seat }) ∙ ap (set hall i) (sym after))
          ∙ ap (then (set hall i new)) (sym went)

  -- and one that comes back
  pub checks_in_is : (b : Bench) (new : Place) (reply : Reply) → checked_at b old old.seat ≡ record { now = new; reply = reply } → checks_in k b hall ≡ record { now = set hall i new; reply = reply }
  checks_in_is b new reply checks = ap (checking_place k hall b) place_is ∙ by old.seat checks
    where
      by : (o : Option Seat) → checked_at b old o ≡ record { now = new; reply = reply } → checking_seat k hall b old o ≡ record { now = set hall i new; reply = reply }
      by None c =
          let then : List Place → Reply → Then (List Place) = λ places r. record { now = places; reply = r } in
          ap (λ places. then places (Stranger (judged_vacant old.limits b))) (sym (set_same hall i old is) ∙ ap (λ (t : Then Place). set hall i t.now) c)
          ∙ ap (λ (t : Then Place). then (set hall i new) t.reply) c
      by (Some s) c =
          let then : List Place → Then (List Place) = λ places. record { now = places; reply = reply } in
          ap (with_place k hall) c ∙ ap then (place_put new)

-- one place more
pub nobodys_more : (limits : List Limits) (l : Limits) → nobodys (limits ++ l ∷ []) ≡ nobodys limits ++ record { limits = l; seat = None } ∷ []
nobodys_more [] l = refl
nobodys_more (x ∷ limits) l = ap (λ places. record { limits = x; seat = None } ∷ places) (nobodys_more limits l)
