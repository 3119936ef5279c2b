-- Lists whose items are numbered from 0, and prefixes of lists.
use Rattle.std.specs.Prelude.{◌≡◌, ℕ, zero, suc, List, [], ◌∷◌, ◌++◌, Option, Some, None}

abbrev pub at : {A : Type 0} → List A → ℕ → Option A
at [] n = None
at (x ∷ xs) zero = Some x
at (x ∷ xs) (suc n) = at xs n

-- the list with this item in the place of its n-th; where it has none, as it is
abbrev pub put : {A : Type 0} → List A → ℕ → A → List A
put [] n y = []
put (x ∷ xs) zero y = y ∷ xs
put (x ∷ xs) (suc n) y = x ∷ put xs n y

abbrev pub joined : {A : Type 0} → Option (Option A) → Option A
joined None = None
joined (Some x) = x

-- a number counted from one item further in front
abbrev pub one_on : Option ℕ → Option ℕ
one_on None = None
one_on (Some n) = Some (suc n)

-- one list is a prefix of another
abbrev pub IsPrefix : {A : Type 0} → List A → List A → Type 0
IsPrefix {A} front whole = (rest : List A) × (whole ≡ front ++ rest)
