-- Those of a list in memory that pass, by their numbers.
use Rattle.std.proofs.Common.{◌≡◌, ◌+◌, ◌<◌, ℕ, zero, suc, List, [], ◌∷◌, ◌++◌, length, drop, map, get_or, Bool, true, false, if◌then◌else◌, add-one, append_assoc, refl, ap, sym, ◌∙◌, arith}
use Rattle.std.proofs.lemmas.Bool.{or_right}
use Rattle.std.proofs.lemmas.List.{at_drop_more}
use Rattle.std.specs.List.{list_any}
use Rattle.std.specs.Prelude.{◌||◌}
use Rattle.aud_meaning.specs.Configuration.{Own}
use Rattle.aud_meaning.specs.Parts.{any, numbers, owns}
use Rattle.aud_state.specs.declared.task.Task.{Task}
use Rattle.aud_state.specs.View.{plain_task}

pub numbers_map : {A B : Type 0} (view : A → B) (p : B → Bool) (k : ℕ) (xs : List A) → numbers p k (map view xs) ≡ numbers (λ x. p (view x)) k xs
numbers_map view p k [] = refl
numbers_map view p k (x ∷ xs) = ap (λ ns. if p (view x) then k ∷ ns else ns) (numbers_map view p (suc k) xs)

pub found_more : {A : Type 0} (p : A → Bool) (found : List ℕ) (xs : List A) (n : ℕ) (x : A) (b : Bool) → n < length xs → b ≡ p (get_or xs n x) → (if b then found ++ n ∷ [] else found) ++ numbers p (n + 1) (drop (n + 1) xs) ≡ found ++ numbers p n (drop n xs)
found_more {A} p found xs n x b within is =
    by b
    ∙ ap (λ d. found ++ (if d then n ∷ numbers p (suc n) rest else numbers p (suc n) rest)) is
    ∙ sym (at_drop_more (λ ys. found ++ numbers p n ys) xs n x within)
  where
    rest : List A
    rest = drop (n + 1) xs

    by : (d : Bool) → (if d then found ++ n ∷ [] else found) ++ numbers p (n + 1) rest ≡ found ++ (if d then n ∷ numbers p (suc n) rest else numbers p (suc n) rest)
    by true = append_assoc found (n ∷ []) (numbers p (n + 1) rest) ∙ ap (λ k. found ++ (n ∷ numbers p k rest)) (add-one n)
    by false = ap (λ k. found ++ numbers p k rest) (add-one n)

pub any_same : {A : Type 0} (p : A → Bool) (xs : List A) → list_any p xs ≡ any p xs
any_same p [] = refl
any_same p (x ∷ xs) = ap (λ b. p x || b) (any_same p xs)

pub any_map : {A B : Type 0} (view : A → B) (p : B → Bool) (xs : List A) → any p (map view xs) ≡ any (λ x. p (view x)) xs
any_map view p [] = refl
any_map view p (x ∷ xs) = ap (λ b. p (view x) || b) (any_map view p xs)

pub any_own : (p : Own → Bool) (ts : List Task) → any p (owns (map plain_task ts)) ≡ any (λ (t : Task). p (plain_task t).own) ts
any_own p [] = refl
any_own p (t ∷ ts) = ap (λ b. p (plain_task t).own || b) (any_own p ts)

pub numbers_same : {A : Type 0} (p q : A → Bool) (k : ℕ) (xs : List A) → ((x : A) → p x ≡ q x) → numbers p k xs ≡ numbers q k xs
numbers_same p q k [] same = refl
numbers_same p q k (x ∷ xs) same =
    ap (λ b. if b then k ∷ numbers p (suc k) xs else numbers p (suc k) xs) (same x)
    ∙ ap (λ ns. if q x then k ∷ ns else ns) (numbers_same p q (suc k) xs same)

pub any_one : {A : Type 0} (p q : A → Bool) (xs : List A) → ((x : A) → p x ≡ q x) → any p xs ≡ any q xs
any_one p q [] same = refl
any_one p q (x ∷ xs) same = ap (λ b. b || any p xs) (same x) ∙ ap (λ b. q x || b) (any_one p q xs same)

-- of those passed so far, and those behind them
pub any_more : {A : Type 0} (p : A → Bool) (xs : List A) (n : ℕ) (x : A) → n < length xs → x ≡ get_or xs n x → p x ≡ false → any p (drop (n + 1) xs) ≡ any p (drop n xs)
any_more p xs n x within is no_more =
    ap (λ b. b || any p (drop (n + 1) xs)) (sym no_more ∙ ap p is)
    ∙ sym (at_drop_more (any p) xs n x within)

pub any_here : {A : Type 0} (p : A → Bool) (xs : List A) (n : ℕ) (x : A) → n < length xs → x ≡ get_or xs n x → p x ≡ true → any p (drop n xs) ≡ true
any_here p xs n x within is passes =
    at_drop_more (any p) xs n x within
    ∙ ap (λ z. p z || any p (drop (n + 1) xs)) (sym is)
    ∙ ap (λ b. b || any p (drop (n + 1) xs)) passes

pub any_there : {A : Type 0} (p : A → Bool) (xs : List A) (n : ℕ) (x : A) → n < length xs → x ≡ get_or xs n x → p x ≡ true → any p xs ≡ true
any_there p [] n x within is passes = absurd (omega (arith, within))
any_there p (y ∷ ys) zero x within is passes = ap (λ z. p z || any p ys) (sym is) ∙ ap (λ b. b || any p ys) passes
any_there p (y ∷ ys) (suc n) x within is passes = or_right (p y) (any p ys) (any_there p ys n x (omega (arith, within)) is passes)
