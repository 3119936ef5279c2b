-- The numbers of tasks that are declared.
use Rattle.std.proofs.Common.{◌≡◌, ℕ, suc, ◌+◌, ◌-◌, ◌<◌, List, [], ◌∷◌, ◌++◌, sym, ap, ◌∙◌, arith}
use Rattle.std.specs.Prelude.{ℤ, pos}
use Rattle.std.proofs.lemmas.List.{append_assoc}
use Rattle.aud_sequential.specs.Parked.{numbers_from}

-- one more of them
pub numbers_more : (xs : List ℤ) (first i count : ℕ) → i < count → (xs ++ pos (first + i) ∷ []) ++ numbers_from (first + (i + 1)) (count - (i + 1)) ≡ xs ++ numbers_from (first + i) (count - i)
numbers_more xs first i count within =
    let left : count - i ≡ suc (count - (i + 1)) = omega (arith, within) in
    let next : first + (i + 1) ≡ suc (first + i) = omega arith in
    append_assoc xs (pos (first + i) ∷ []) (numbers_from (first + (i + 1)) (count - (i + 1)))
    ∙ ap (λ n. xs ++ pos (first + i) ∷ numbers_from n (count - (i + 1))) next
    ∙ sym (ap (λ n. xs ++ numbers_from (first + i) n) left)

-- all of them
pub numbers_all : (xs : List ℤ) (first i count : ℕ) → i ≡ count → xs ++ numbers_from (first + i) (count - i) ≡ xs ++ []
numbers_all xs first i count all =
    let none : count - i ≡ 0 = omega (arith, all) in
    ap (λ n. xs ++ numbers_from (first + i) n) none
