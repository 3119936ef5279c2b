-- The task whose body comes, by where it stands among those that wait.
use Rattle.std.proofs.Common.{◌≡◌, ◌⊎◌, inl, inr, ◌+◌, ◌<◌, ◌≤◌, ℕ, suc, Bool, true, false, not, cond, List, [], ◌∷◌, length, slice_get, position, Option, Some, None, if◌then◌else◌, refl, sym, ◌∙◌, ap, subst, arith}
use Rattle.std.specs.Prelude.{remove, nat_lt}
use Rattle.std.specs.List.{position_or_len}
use Rattle.std.specs.Str.{bytes_eq}
use Rattle.std.proofs.lemmas.Bool.Decides.{nat_tests}
use Rattle.aud_names.specs.declared.awaited.Awaited.{Awaited}
use Rattle.aud_names.specs.Names.{awaited_task, still_awaited}

abbrev pub has_name : List ℕ → Awaited → Bool
has_name name a = bytes_eq name a.name

-- it stands at a place, or nowhere
abbrev Stands : List ℕ → List Awaited → ℕ → Type 0
Stands name xs n = ((n < length xs) × (still_awaited name xs ≡ remove xs n) × (awaited_task name xs ≡ slice_get xs n)) ⊎ ((length xs ≤ n) × (still_awaited name xs ≡ xs) × (awaited_task name xs ≡ None))

one_further : (b : Bool) (name : List ℕ) (a : Awaited) (xs : List Awaited) (n : ℕ) → Stands name xs n
    → ((cond (not b) (1 + n) 0 < length (a ∷ xs)) × ((if b then xs else a ∷ still_awaited name xs) ≡ remove (a ∷ xs) (cond (not b) (1 + n) 0)) × ((if b then Some a else awaited_task name xs) ≡ slice_get (a ∷ xs) (cond (not b) (1 + n) 0)))
    ⊎ ((length (a ∷ xs) ≤ cond (not b) (1 + n) 0) × ((if b then xs else a ∷ still_awaited name xs) ≡ a ∷ xs) × ((if b then Some a else awaited_task name xs) ≡ None))
one_further true name a xs n h = inl (omega arith, refl, refl)
one_further false name a xs n (inl h) =
    let next : suc n ≡ 1 + n = omega arith in
    inl (omega (arith, h.0), ap (λ l. a ∷ l) h.1 ∙ ap (remove (a ∷ xs)) next, h.2 ∙ ap (λ k. slice_get (a ∷ xs) k) next)
one_further false name a xs n (inr h) = inr (omega (arith, h.0), ap (λ l. a ∷ l) h.1, h.2)

stands : (name : List ℕ) (xs : List Awaited) → Stands name xs (position_or_len (has_name name) xs)
stands name [] = inr (omega arith, refl, refl)
stands name (a ∷ xs) = one_further (bytes_eq name a.name) name a xs (position_or_len (has_name name) xs) (stands name xs)

is_less : (a b : ℕ) → nat_lt a b ≡ true → a < b
is_less a b p = grind (arith, nat_tests)

is_not_less : (a b : ℕ) → nat_lt a b ≡ false → b ≤ a
is_not_less a b p = grind (arith, nat_tests)

abbrev pub Answers : List ℕ → List Awaited → Option ℕ → Type 0
Answers name xs None = (still_awaited name xs ≡ xs) × (awaited_task name xs ≡ None)
Answers name xs (Some i) = (i < length xs) × (still_awaited name xs ≡ remove xs i) × (awaited_task name xs ≡ slice_get xs i)

pub position_answers : (name : List ℕ) (xs : List Awaited) → Answers name xs (position (has_name name) xs)
position_answers name xs = by (nat_lt n (length xs)) refl (stands name xs)
  where
    n : ℕ
    n = position_or_len (has_name name) xs

    by : (b : Bool) → nat_lt n (length xs) ≡ b → Stands name xs n → Answers name xs (cond b (Some n) None)
    by true p (inl h) = (h.0, h.1, h.2)
    by true p (inr h) = absurd (omega (arith, is_less n (length xs) p, h.0))
    by false p (inl h) = absurd (omega (arith, is_not_less n (length xs) p, h.0))
    by false p (inr h) = (h.1, h.2)

-- what is found there
pub found_answers : (name : List ℕ) (xs : List Awaited) (found : Option ℕ) → found ≡ position (has_name name) xs → Answers name xs found
found_answers name xs found p = subst (Answers name xs) (sym p) (position_answers name xs)
