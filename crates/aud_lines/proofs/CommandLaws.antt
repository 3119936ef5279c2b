-- Tests on the bytes of a line, and numbers that stand there.
use Rattle.std.proofs.Common.{◌≡◌, ℕ, List, [], ◌∷◌, true, false, cond, nat_lt, ◌||◌, refl, ap, sym, ◌∙◌}
use Rattle.std.specs.List.{list_any}
use Rattle.aud_lines.specs.Requests.{has_high_byte, Command, numbers_behind, some_numbers}

pub any_high : (xs : List ℕ) → list_any (λ x. nat_lt 127 x) xs ≡ has_high_byte xs
any_high [] = refl
any_high (x ∷ xs) =
    elim (nat_lt 127 x) as (λ b. (b || list_any (λ x. nat_lt 127 x) xs) ≡ cond b true (has_high_byte xs)) [ true ↦ refl | false ↦ any_high xs ]

-- where a word stands, there are numbers or none
pub some_words : (low high : ℕ) (words others : List (List ℕ)) (word : List ℕ) (use_of : List ℕ → Command) → words ≡ word ∷ others → some_numbers low high words use_of ≡ numbers_behind low high [] words use_of
some_words low high words others word use_of e = ap (λ ws. some_numbers low high ws use_of) e ∙ sym (ap (λ ws. numbers_behind low high [] ws use_of) e)
