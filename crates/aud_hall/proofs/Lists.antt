-- Fronts of lists.
use Rattle.std.proofs.Common.{◌≡◌, ◌≤◌, List, [], ◌∷◌, ◌++◌, length, take, drop, take-append-drop, refl, sym, ap, ◌∙◌, arith}
use Rattle.aud_hall.specs.Numbered.{IsPrefix}
use Rattle.aud_hall.specs.Ties.Right.{Begins}

pub drop_front : {A : Type 0} (xs ys : List A) → drop (length xs) (xs ++ ys) ≡ ys
drop_front [] ys = refl
drop_front (x ∷ xs) ys = drop_front xs ys

take_front : {A : Type 0} (xs ys : List A) → take (length xs) (xs ++ ys) ≡ xs
take_front [] ys = refl
take_front (x ∷ xs) ys = ap (λ zs. x ∷ zs) (take_front xs ys)

pub front_rest : {A : Type 0} (xs whole : List A) → IsPrefix xs whole → xs ++ drop (length xs) whole ≡ whole
front_rest xs whole f = ap (λ ys. xs ++ drop (length xs) ys) f.1 ∙ ap (λ ys. xs ++ ys) (drop_front xs f.0) ∙ sym f.1

-- of two prefixes of one list the longer one goes on from the shorter one
pub two_fronts : {A : Type 0} (xs ys whole : List A) → IsPrefix xs whole → IsPrefix ys whole → length xs ≤ length ys → ys ≡ xs ++ drop (length xs) ys
two_fronts [] ys whole f g h = refl
two_fronts (x ∷ xs) [] whole f g h = absurd (omega arith)
two_fronts (x ∷ xs) (y ∷ ys) [] f g h = let never : [] ≡ x ∷ (xs ++ f.0) = f.1 in absurd (cc)
two_fronts (x ∷ xs) (y ∷ ys) (z ∷ whole) f g h =
    let here : z ∷ whole ≡ x ∷ (xs ++ f.0) = f.1 in
    let there : z ∷ whole ≡ y ∷ (ys ++ g.0) = g.1 in
    let one : whole ≡ xs ++ f.0 = cc in
    let two : whole ≡ ys ++ g.0 = cc in
    let rest = two_fronts xs ys whole (f.0, one) (g.0, two) (omega (arith, h)) in
    let head : y ≡ x = cc in
    ap (λ v. v ∷ ys) head ∙ ap (λ vs. x ∷ vs) rest

pub begins_front : {A : Type 0} (xs ys : List A) → Begins xs ys → IsPrefix xs ys
begins_front xs ys h = (drop (length xs) ys, sym (take-append-drop (length xs) ys) ∙ ap (λ zs. zs ++ drop (length xs) ys) h)

pub front_begins : {A : Type 0} (xs ys : List A) → IsPrefix xs ys → Begins xs ys
front_begins xs ys f = ap (take (length xs)) f.1 ∙ take_front xs f.0
