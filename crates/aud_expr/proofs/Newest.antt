-- The newest of targets in memory is the last one.
use Rattle.std.proofs.Common.{◌≡◌, ℕ, suc, ◌-◌, ◌<◌, List, [], ◌∷◌, ◌++◌, length, reverse, Some, slice_index_or, sym, ap, ◌∙◌, arith}
use Rattle.std.proofs.lemmas.List.{reverse-append}
use Rattle.aud_meaning.specs.Configuration.{Target}
use Rattle.aud_code.specs.Eval.{newest}

newest_before : (a : Target) (xs : List Target) (t : Target) → newest (reverse xs) ≡ Some t → newest (reverse (a ∷ xs)) ≡ Some t
newest_before a xs t h = ap newest (reverse-append (a ∷ []) xs) ∙ by (reverse xs) h
  where
    by : (ys : List Target) → newest ys ≡ Some t → newest (ys ++ a ∷ []) ≡ Some t
    by [] h = cc
    by (y ∷ ys) h = h

pub newest_last : (xs : List Target) (n : ℕ) (t : Target) → n ≡ length xs → 0 < n → t ≡ slice_index_or xs (n - 1) t → newest (reverse xs) ≡ Some t
newest_last [] n t is some at = absurd (omega (arith, is, some))
newest_last (a ∷ []) n t is some at =
    let k : n - 1 ≡ 0 = omega (arith, is) in
    ap Some (rw k at (sym at))
newest_last (a ∷ b ∷ xs) n t is some at =
    let k : n - 1 ≡ suc (n - 1 - 1) = omega (arith, is) in
    newest_before a (b ∷ xs) t (newest_last (b ∷ xs) (n - 1) t (omega (arith, is)) (omega (arith, is)) (rw k at at))
