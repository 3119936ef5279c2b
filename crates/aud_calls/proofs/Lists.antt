-- Numbers that come after others in a list, and lists of which one place is changed.
use Rattle.std.proofs.Common.{◌≡◌, ◌+◌, ◌<◌, ◌≤◌, ℕ, zero, suc, List, [], ◌∷◌, ◌++◌, length, drop, map, get_or, set, Bool, true, false, refl, ap, sym, ◌∙◌, arith}
use Rattle.std.proofs.lemmas.Cmp.{nat_eq_equiv}
use Rattle.std.proofs.lemmas.List.{at_drop_all, at_drop_more}
use Rattle.std.specs.List.{list_any}
use Rattle.std.specs.Prelude.{◌||◌, nat_eq}
use Rattle.aud_meaning.specs.Parts.{any, changed, contains}

-- a list that contains a number, in the words of a slice
pub contains_same : (n : ℕ) (ms : List ℕ) → list_any (λ m. nat_eq m n) ms ≡ contains n ms
contains_same n [] = refl
contains_same n (m ∷ ms) = ap (λ b. b || list_any (λ k. nat_eq k n) ms) (nat_eq_equiv.symm m n) ∙ ap (λ b. nat_eq n m || b) (contains_same n ms)

pub or_joined : (a b c : Bool) → ((a || b) || c) ≡ (a || (b || c))
or_joined true b c = refl
or_joined false b c = refl

pub append_names : (f : ℕ) (xs ys : List ℕ) → contains f (xs ++ ys) ≡ (contains f xs || contains f ys)
append_names f [] ys = refl
append_names f (x ∷ xs) ys = ap (λ b. nat_eq f x || b) (append_names f xs ys) ∙ sym (or_joined (nat_eq f x) (contains f xs) (contains f ys))

pub around_more : (f : ℕ) (old display new given : List ℕ) → new ≡ old ++ display → display ≡ given → contains f new ≡ (contains f old || contains f given)
around_more f old display new given is same = ap (contains f) is ∙ append_names f old display ∙ ap (λ l. contains f old || contains f l) same

-- of one more in a list
pub one_more : {A : Type 0} (p : A → Bool) (xs : List A) (i : ℕ) (x : A) (old new : Bool) → i < length xs → x ≡ get_or xs i x → new ≡ (old || p x) → (new || any p (drop (i + 1) xs)) ≡ (old || any p (drop i xs))
one_more p xs i x old new within is told =
    ap (λ b. b || any p (drop (i + 1) xs)) told
    ∙ or_joined old (p x) (any p (drop (i + 1) xs))
    ∙ ap (λ b. old || (b || any p (drop (i + 1) xs))) (ap p is)
    ∙ ap (λ b. old || b) (sym (at_drop_more (any p) xs i x within))

pub all_more : {A : Type 0} (p : A → Bool) (xs : List A) (i : ℕ) (old : Bool) → length xs ≡ i → (old || any p (drop i xs)) ≡ old
all_more p xs i old is = ap (λ b. old || b) (at_drop_all (any p) xs i (omega (arith, is))) ∙ by old
  where
    by : (b : Bool) → (b || false) ≡ b
    by true = refl
    by false = refl

-- One place is changed.

pub changed_at : {A B : Type 0} (view : A → B) (g : B → B) (xs : List A) (n : ℕ) (x y : A) → n < length xs → view y ≡ g (view (get_or xs n x)) → map view (set xs n y) ≡ changed n g (map view xs)
changed_at view g [] n x y within new = absurd (omega (arith, within))
changed_at view g (z ∷ zs) zero x y within new = ap (λ l. l ∷ map view zs) new
changed_at view g (z ∷ zs) (suc n) x y within new = ap (λ ls. view z ∷ ls) (changed_at view g zs n x y (omega (arith, within)) new)

-- one that looks the same
pub seen_same : {A B : Type 0} (view : A → B) (xs : List A) (n : ℕ) (x y : A) → n < length xs → view y ≡ view (get_or xs n x) → map view (set xs n y) ≡ map view xs
seen_same view [] n x y within new = absurd (omega (arith, within))
seen_same view (z ∷ zs) zero x y within new = ap (λ l. l ∷ map view zs) new
seen_same view (z ∷ zs) (suc n) x y within new = ap (λ ls. view z ∷ ls) (seen_same view zs n x y (omega (arith, within)) new)

pub unchanged : {A B : Type 0} (view : A → B) (g : B → B) (xs : List A) (n : ℕ) → length xs ≤ n → map view xs ≡ changed n g (map view xs)
unchanged view g [] n past = refl
unchanged view g (z ∷ zs) zero past = absurd (omega (arith, past))
unchanged view g (z ∷ zs) (suc n) past = ap (λ ls. view z ∷ ls) (unchanged view g zs n (omega (arith, past)))
