-- The first of a list that passes a test, by where it stands.
use Rattle.std.proofs.Common.{◌≡◌, ◌⊎◌, inl, inr, ◌+◌, ◌<◌, ◌≤◌, ℕ, suc, Bool, true, false, not, cond, List, [], ◌∷◌, length, slice_get, position, Option, Some, None, if◌then◌else◌, refl, sym, ◌∙◌, ap, subst, arith}
use Rattle.std.specs.Prelude.{remove, nat_lt}
use Rattle.std.specs.List.{position_or_len}
use Rattle.std.proofs.lemmas.Bool.Decides.{nat_tests}
use Rattle.aud_names.specs.Objects.{first_with, without_first}

is_less : (a b : ℕ) → nat_lt a b ≡ true → a < b
is_less a b p = grind (arith, nat_tests)

is_not_less : (a b : ℕ) → nat_lt a b ≡ false → b ≤ a
is_not_less a b p = grind (arith, nat_tests)

module _ {A : Type 0} (test : A → Bool) where
  -- it stands at a place, or nowhere
  abbrev Stands : List A → ℕ → Type 0
  Stands xs n = ((n < length xs) × (without_first test xs ≡ remove xs n) × (first_with test xs ≡ slice_get xs n)) ⊎ ((length xs ≤ n) × (without_first test xs ≡ xs) × (first_with test xs ≡ None))

  one_further : (b : Bool) (a : A) (xs : List A) (n : ℕ) → Stands xs n
      → ((cond (not b) (1 + n) 0 < length (a ∷ xs)) × ((if b then xs else a ∷ without_first test xs) ≡ remove (a ∷ xs) (cond (not b) (1 + n) 0)) × ((if b then Some a else first_with test xs) ≡ slice_get (a ∷ xs) (cond (not b) (1 + n) 0)))
      ⊎ ((length (a ∷ xs) ≤ cond (not b) (1 + n) 0) × ((if b then xs else a ∷ without_first test xs) ≡ a ∷ xs) × ((if b then Some a else first_with test xs) ≡ None))
  one_further true a xs n h = inl (omega arith, refl, refl)
  one_further false a xs n (inl h) =
      let next : suc n ≡ 1 + n = omega arith in
      inl (omega (arith, h.0), ap (λ l. a ∷ l) h.1 ∙ ap (remove (a ∷ xs)) next, h.2 ∙ ap (λ k. slice_get (a ∷ xs) k) next)
  one_further false a xs n (inr h) = inr (omega (arith, h.0), ap (λ l. a ∷ l) h.1, h.2)

  stands : (xs : List A) → Stands xs (position_or_len test xs)
  stands [] = inr (omega arith, refl, refl)
  stands (a ∷ xs) = one_further (test a) a xs (position_or_len test xs) (stands xs)

  abbrev pub Answers : List A → Option ℕ → Type 0
  Answers xs None = (without_first test xs ≡ xs) × (first_with test xs ≡ None)
  Answers xs (Some i) = (i < length xs) × (without_first test xs ≡ remove xs i) × (first_with test xs ≡ slice_get xs i)

  position_by : (xs : List A) (n : ℕ) (b : Bool) → nat_lt n (length xs) ≡ b → Stands xs n → Answers xs (cond b (Some n) None)
  position_by xs n true p (inl h) = (h.0, h.1, h.2)
  position_by xs n true p (inr h) = absurd (omega (arith, is_less n (length xs) p, h.0))
  position_by xs n false p (inl h) = absurd (omega (arith, is_not_less n (length xs) p, h.0))
  position_by xs n false p (inr h) = (h.1, h.2)

  position_answers : (xs : List A) → Answers xs (position test xs)
  position_answers xs = position_by xs (position_or_len test xs) (nat_lt (position_or_len test xs) (length xs)) refl (stands xs)

  -- what is found there
  pub found_answers : (xs : List A) (found : Option ℕ) → found ≡ position test xs → Answers xs found
  found_answers xs found p = subst (Answers xs) (sym p) (position_answers xs)
