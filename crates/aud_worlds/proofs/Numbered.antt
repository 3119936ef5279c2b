-- Numbered lists, and places of a hall by their numbers.
use Rattle.std.proofs.Common.{◌≡◌, ℕ, zero, suc, List, [], ◌∷◌, ◌++◌, length, Some, refl, sym, ap, subst}
use Rattle.aud_hall.specs.Numbered.{at, put}
use Rattle.aud_hall.specs.Halls.{Place, place_at, put_place}
use Rattle.aud_worlds.specs.Ties.Worlds.{Each}

pub each_at : {A : Type 0} (P : A → Type 0) (xs : List A) (n : ℕ) (x : A) → Each P xs → at xs n ≡ Some x → P x
each_at P [] n x all e = absurd (cc)
each_at P (y ∷ xs) zero x all e = let same : y ≡ x = cc in subst P same all.0
each_at P (y ∷ xs) (suc n) x all e = each_at P xs n x all.1 e

pub each_put : {A : Type 0} (P : A → Type 0) (xs : List A) (n : ℕ) (y : A) → Each P xs → P y → Each P (put xs n y)
each_put P [] n y all p = tt
each_put P (x ∷ xs) zero y all p = (p, all.1)
each_put P (x ∷ xs) (suc n) y all p = (all.0, each_put P xs n y all.1 p)

pub each_append : {A : Type 0} (P : A → Type 0) (xs ys : List A) → Each P xs → Each P ys → Each P (xs ++ ys)
each_append P [] ys all more = more
each_append P (x ∷ xs) ys all more = (all.0, each_append P xs ys all.1 more)

pub each_place : (P : Place → Type 0) (hall : List Place) (k : ℕ) (x : Place) → Each P hall → place_at hall k ≡ Some x → P x
each_place P hall zero x all e = absurd (cc)
each_place P hall (suc k) x all e = each_at P hall k x all e

pub each_put_place : (P : Place → Type 0) (hall : List Place) (k : ℕ) (y : Place) → Each P hall → P y → Each P (put_place hall k y)
each_put_place P hall zero y all p = all
each_put_place P hall (suc k) y all p = each_put P hall k y all p

pub at_put : {A : Type 0} (xs : List A) (n : ℕ) (x y : A) → at xs n ≡ Some x → at (put xs n y) n ≡ Some y
at_put [] n x y e = absurd (cc)
at_put (z ∷ xs) zero x y e = refl
at_put (z ∷ xs) (suc n) x y e = at_put xs n x y e

pub place_put : (hall : List Place) (k : ℕ) (x y : Place) → place_at hall k ≡ Some x → place_at (put_place hall k y) k ≡ Some y
place_put hall zero x y e = absurd (cc)
place_put hall (suc k) x y e = at_put hall k x y e

pub at_put_other : {A : Type 0} (xs : List A) (n m : ℕ) (y : A) → (n ≡ m → ⊥) → at (put xs n y) m ≡ at xs m
at_put_other [] n m y h = refl
at_put_other (x ∷ xs) zero zero y h = absurd (h refl)
at_put_other (x ∷ xs) zero (suc m) y h = refl
at_put_other (x ∷ xs) (suc n) zero y h = refl
at_put_other (x ∷ xs) (suc n) (suc m) y h = at_put_other xs n m y (λ e. h (ap suc e))

pub place_put_other : (hall : List Place) (j k : ℕ) (y : Place) → (j ≡ k → ⊥) → place_at (put_place hall j y) k ≡ place_at hall k
place_put_other hall zero k y h = refl
place_put_other hall (suc j) zero y h = refl
place_put_other hall (suc j) (suc k) y h = at_put_other hall j k y (λ e. h (ap suc e))

pub length_put : {A : Type 0} (xs : List A) (n : ℕ) (y : A) → length (put xs n y) ≡ length xs
length_put [] n y = refl
length_put (x ∷ xs) zero y = refl
length_put (x ∷ xs) (suc n) y = ap suc (length_put xs n y)

pub put_same : {A : Type 0} (xs : List A) (n : ℕ) (x : A) → at xs n ≡ Some x → put xs n x ≡ xs
put_same [] n x e = refl
put_same (y ∷ xs) zero x e = let same : y ≡ x = cc in ap (λ z. z ∷ xs) (sym same)
put_same (y ∷ xs) (suc n) x e = ap (λ zs. y ∷ zs) (put_same xs n x e)

pub put_place_same : (hall : List Place) (k : ℕ) (x : Place) → place_at hall k ≡ Some x → put_place hall k x ≡ hall
put_place_same hall zero x e = refl
put_place_same hall (suc k) x e = put_same hall k x e
