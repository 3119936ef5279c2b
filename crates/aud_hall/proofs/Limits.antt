-- A call at a seat changes no seat's limits.
use Rattle.std.proofs.Common.{◌≡◌, ℕ, zero, suc, ◌<◌, List, [], ◌∷◌, length, get_or, set, refl, sym, ap, ◌∙◌, arith}
use Rattle.aud_text.specs.declared.limits.Limits.{Limits}
use Rattle.aud_hall.specs.Halls.{Place, nobodys, place_at, limits_of}
use Rattle.aud_hall.specs.Numbered.{at}
use Rattle.aud_hall.specs.Ties.Places.{limits_at, seat_limits}

pub limits_nobodys : (limits : List Limits) → limits ≡ limits_of (nobodys limits)
limits_nobodys [] = refl
limits_nobodys (l ∷ limits) = ap (λ ls. l ∷ ls) (limits_nobodys limits)

pub limits_set : (hall : List Place) (i : ℕ) (old new : Place) → i < length hall → old ≡ get_or hall i old → new.limits ≡ old.limits → limits_of (set hall i new) ≡ limits_of hall
limits_set [] i old new here is same = absurd (omega (arith, here))
limits_set (p ∷ hall) zero old new here is same = ap (λ l. l ∷ limits_of hall) (same ∙ ap (λ (x : Place). x.limits) is)
limits_set (p ∷ hall) (suc i) old new here is same = ap (λ ls. p.limits ∷ ls) (limits_set hall i old new (omega (arith, here)) is same)

limits_here : (hall : List Place) (k : ℕ) → limits_at (at hall k) ≡ at (limits_of hall) k
limits_here [] k = refl
limits_here (p ∷ hall) zero = refl
limits_here (p ∷ hall) (suc k) = limits_here hall k

-- the limits of a seat, by the list
pub limits_there : (hall : List Place) (seat : ℕ) → limits_at (place_at hall seat) ≡ seat_limits (limits_of hall) seat
limits_there hall zero = refl
limits_there hall (suc k) = limits_here hall k

-- a place is written back whose limits are as they were; the limits of the seats are still these
module _ (limits : List Limits) (hall shown : List Place) (i : ℕ) (old new : Place) (is : hall ≡ shown) (these : limits ≡ limits_of hall) (here : i < length hall) (at_is : old ≡ get_or hall i old) (same : new.limits ≡ old.limits) where
  pub limits_stay : limits ≡ limits_of (set hall i new)
  limits_stay = these ∙ sym (limits_set hall i old new here at_is same)

  pub limits_kept : limits_of (set hall i new) ≡ limits_of shown
  limits_kept = limits_set hall i old new here at_is same ∙ ap limits_of is
