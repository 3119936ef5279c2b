-- How the values of literals are read byte by byte.
use Rattle.std.proofs.Common.{◌≡◌, ℕ, zero, suc, ◌+◌, ◌-◌, ◌<◌, ◌≤◌, ℤ, pos, List, [], ◌∷◌, drop, length, Bool, true, false, refl, sym, ◌∙◌, arith, subst, slice_index_or, leb-true, le-leb}
use Rattle.std.specs.Prelude.{nat_le, ◌==◌, ◌*◌, if◌then◌else◌, Option, Some, None}
use Rattle.aud_grammar.specs.Values.{with_digit, digits_value, number_value, is_left_out, inner}

more : (before byte : ℕ) (b : Bool) → before ≤ (if b then before else before * 10 + (byte - 48))
more before byte true = omega arith
more before byte false = omega arith

grows : (before : ℕ) (bytes : List ℕ) → before ≤ digits_value before bytes
grows before [] = omega arith
grows before (b ∷ bs) = let h : before ≤ with_digit before b = more before b (b == 95) in let i : with_digit before b ≤ digits_value (with_digit before b) bs = grows (with_digit before b) bs in omega (arith, h, i)

-- one byte more
pub value_step : (bytes : List ℕ) (i before : ℕ) → i < length bytes → digits_value before (drop i bytes) ≡ digits_value (with_digit before (slice_index_or bytes i 0)) (drop (suc i) bytes)
value_step [] i before h = absurd (omega arith)
value_step (b ∷ bs) zero before h = refl
value_step (b ∷ bs) (suc i) before h = value_step bs i before (omega arith)

no_value : (b : Bool) (x : Option ℤ) → b ≡ false → (if b then x else None) ≡ None
no_value true x h = cc
no_value false x h = refl

a_value : (b : Bool) (x : Option ℤ) → b ≡ true → (if b then x else None) ≡ x
a_value true x h = refl
a_value false x h = cc

not_le : (m n : ℕ) (b : Bool) → nat_le m n ≡ b → n < m → b ≡ false
not_le m n true e h = let i : m ≤ n = leb-true m n e in absurd (omega (arith, h, i))
not_le m n false e h = refl

pub too_large : (text : List ℕ) → 2147483647 < digits_value 0 text → number_value text ≡ None
too_large text h = no_value (nat_le (digits_value 0 text) 2147483647) _ (not_le (digits_value 0 text) 2147483647 _ refl h)

-- a front of the digits is too large already
pub front_too_large : (text : List ℕ) (i before : ℕ) → i < length text → digits_value 0 text ≡ digits_value before (drop i text) → 4294967295 < with_digit before (slice_index_or text i 0) → number_value text ≡ None
front_too_large text i before h e n =
    let g : with_digit before (slice_index_or text i 0) ≤ digits_value (with_digit before (slice_index_or text i 0)) (drop (suc i) text) = grows (with_digit before (slice_index_or text i 0)) (drop (suc i) text) in
    let k : digits_value 0 text ≡ digits_value (with_digit before (slice_index_or text i 0)) (drop (suc i) text) = e ∙ value_step text i before h in
    too_large text (omega (arith, g, k, n))

pub fits : (text : List ℕ) (n : ℕ) → digits_value 0 text ≡ n → n ≤ 2147483647 → number_value text ≡ Some (pos n)
fits text n e h = subst (λ z. number_value text ≡ Some (pos z)) e (a_value (nat_le (digits_value 0 text) 2147483647) (Some (pos (digits_value 0 text))) (le-leb _ _ (subst (λ z. z ≤ 2147483647) (sym e) h)))

skip : (b : Bool) (x y : List ℕ) → b ≡ true → (if b then x else y) ≡ x
skip true x y h = refl
skip false x y h = cc

keep : (b : Bool) (x y : List ℕ) → b ≡ false → (if b then x else y) ≡ y
keep true x y h = cc
keep false x y h = refl

pub inner_skip : (bytes : List ℕ) (i : ℕ) (behind : Bool) → i < length bytes → is_left_out (slice_index_or bytes i 0) behind ≡ true → inner behind (drop i bytes) ≡ inner true (drop (suc i) bytes)
inner_skip [] i behind h e = absurd (omega arith)
inner_skip (b ∷ bs) zero behind h e = skip (is_left_out b behind) (inner true bs) (b ∷ inner false bs) e
inner_skip (b ∷ bs) (suc i) behind h e = inner_skip bs i behind (omega arith) e

pub inner_keep : (bytes : List ℕ) (i : ℕ) (behind : Bool) → i < length bytes → is_left_out (slice_index_or bytes i 0) behind ≡ false → inner behind (drop i bytes) ≡ slice_index_or bytes i 0 ∷ inner false (drop (suc i) bytes)
inner_keep [] i behind h e = absurd (omega arith)
inner_keep (b ∷ bs) zero behind h e = keep (is_left_out b behind) (inner true bs) (b ∷ inner false bs) e
inner_keep (b ∷ bs) (suc i) behind h e = inner_keep bs i behind (omega arith) e
