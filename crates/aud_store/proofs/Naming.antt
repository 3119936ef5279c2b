-- Numbers among others.
use Rattle.std.proofs.Common.{◌≡◌, ◌≢◌, ℕ, zero, suc, ◌<◌, ◌≤◌, List, [], ◌∷◌, Bool, true, false, ◌||◌, length, get_or, nat_eq, Result, Ok, Err, is_ok, IsPermutation, IsSorted, MatchResult, nat_cmp, sym, ap, ◌∙◌, refl, inl, inr, arith}
use Rattle.std.specs.List.{list_any}
use Rattle.std.specs.List.Sorted.{IsBinarySearchResult}
use Rattle.std.proofs.lemmas.Bool.{cases_lt, eq-eqb, ne_eqb}
use Rattle.std.proofs.lemmas.List.Sorted.{searched, list_any-IsPermutation, IsNonDecreasingBy-from_sort}
use Rattle.aud_meaning.specs.Parts.{contains}

contains_any : (n : ℕ) (ms : List ℕ) → contains n ms ≡ list_any (nat_eq n) ms
contains_any n [] = refl
contains_any n (m ∷ ms) = ap (λ b. nat_eq n m || b) (contains_any n ms)

-- in whatever order
pub contains_moved : (n : ℕ) (ms ks : List ℕ) → IsPermutation ms ks → contains n ms ≡ contains n ks
contains_moved n ms ks moved = contains_any n ms ∙ list_any-IsPermutation (nat_eq n) ms ks moved ∙ sym (contains_any n ks)

found_there : (n : ℕ) (ms : List ℕ) (i : ℕ) → i < length ms → get_or ms i 0 ≡ n → contains n ms ≡ true
found_there n [] i within is = absurd (omega (arith, within))
found_there n (m ∷ ms) zero within is = rw (eq-eqb n m (sym is)) refl
found_there n (m ∷ ms) (suc i) within is = rw (found_there n ms i (omega (arith, within)) is) (by (nat_eq n m))
  where
    by : (b : Bool) → (b || true) ≡ true
    by true = refl
    by false = refl

found_nowhere : (n : ℕ) (ms : List ℕ) → ((i : ℕ) → i < length ms → get_or ms i 0 ≢ n) → contains n ms ≡ false
found_nowhere n [] none = refl
found_nowhere n (m ∷ ms) none =
    rw (ne_eqb n m (λ same. none 0 (omega arith) (sym same)))
    (found_nowhere n ms (λ i within. none (suc i) (omega (arith, within))))

abbrev Told : ℕ → List ℕ → Result ℕ ℕ → Type 0
Told n ms r = MatchResult r (λ i. (i < length ms) × (get_or ms i 0 ≡ n)) (λ i. (i ≤ length ms) × ((k : ℕ) → k < i → get_or ms k 0 < n) × ((k : ℕ) → i ≤ k → k < length ms → n < get_or ms k 0))

told_among : (n : ℕ) (ms : List ℕ) (r : Result ℕ ℕ) → Told n ms r → is_ok r ≡ contains n ms
told_among n ms (Ok i) told = sym (found_there n ms i told.0 told.1)
told_among n ms (Err i) told = sym (found_nowhere n ms (λ k within same. elim (cases_lt k i) [
  | inl before ↦ omega (arith, same, told.1 k before)
  | inr behind ↦ omega (arith, same, told.2 k behind within)
]))

-- what a binary search tells
pub searched_among : (n : ℕ) (ms : List ℕ) (r : Result ℕ ℕ) → IsSorted nat_cmp ms → IsBinarySearchResult (λ m. nat_cmp m n) ms r → is_ok r ≡ contains n ms
searched_among n ms r sorted found =
    let rises = IsNonDecreasingBy-from_sort (λ m. m) ms sorted in
    told_among n ms r (searched ms n r found (λ i j le within. rises i j 0 le within))
