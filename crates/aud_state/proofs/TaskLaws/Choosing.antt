-- The alternative that takes a call, as it is looked for.
use Rattle.std.proofs.Common.{◌≡◌, ℕ, List, [], ◌∷◌, Bool, true, false, cond, if◌then◌else◌, ◌&&◌, filter, find, Option, Some, None, refl, ap, sym, ◌∙◌}
use Rattle.std.specs.Prelude.{nat_eq}
use Rattle.std.specs.Option.{option_or, unwrap_or}
use Rattle.aud_meaning.specs.declared.state.OpenAccept.{OpenAccept}
use Rattle.aud_meaning.specs.Parts.{alternative_of}
use Rattle.aud_state.specs.Chosen.{chosen}

module _ (entry : ℕ) where
  abbrev is_for : OpenAccept → Bool
  is_for a = nat_eq a.entry entry

  first_by : (b : Bool) (x : OpenAccept) (o : Option OpenAccept) (ys : List OpenAccept) → o ≡ chosen None ys → cond b (Some x) o ≡ chosen None (cond b (x ∷ ys) ys)
  first_by true x o ys is = refl
  first_by false x o ys is = is

  -- without a number the first
  pub chosen_first : (xs : List OpenAccept) → find is_for xs ≡ chosen None (filter is_for xs)
  chosen_first [] = refl
  chosen_first (x ∷ xs) = first_by (is_for x) x (find is_for xs) (filter is_for xs) (chosen_first xs)

  module _ (number : ℕ) where
    abbrev has : OpenAccept → Bool
    has a = nat_eq a.alternative number

    found_by : (b d : Bool) (x : OpenAccept) (o : Option OpenAccept) (ys : List OpenAccept) → find has ys ≡ o → d ≡ has x → find has (cond b (x ∷ ys) ys) ≡ cond (b && d) (Some x) o
    found_by true d x o ys is same = ap (λ e. cond e (Some x) (find has ys)) (sym same) ∙ ap (cond d (Some x)) is
    found_by false d x o ys is same = is

    found_among : (xs : List OpenAccept) → find has (filter is_for xs) ≡ find (λ a. is_for a && has a) xs
    found_among [] = refl
    found_among (x ∷ xs) = found_by (is_for x) (has x) x (find (λ a. is_for a && has a) xs) (filter is_for xs) (found_among xs) refl

    one_by : (b : Bool) (x y first : OpenAccept) (o : Option OpenAccept) → y ≡ unwrap_or o first → (if b then x else y) ≡ unwrap_or (cond b (Some x) o) first
    one_by true x y first o is = refl
    one_by false x y first o is = is

    of_number : (ys : List OpenAccept) (first : OpenAccept) → alternative_of (Some number) first ys ≡ unwrap_or (find has ys) first
    of_number [] first = refl
    of_number (y ∷ ys) first = one_by (has y) y (alternative_of (Some number) first ys) first (find has ys) (of_number ys first)

    or_first : (o : Option OpenAccept) (first : OpenAccept) → option_or o (Some first) ≡ Some (unwrap_or o first)
    or_first None first = refl
    or_first (Some x) first = refl

    chosen_among : (ys : List OpenAccept) → option_or (find has ys) (chosen None ys) ≡ chosen (Some number) ys
    chosen_among [] = refl
    chosen_among (y ∷ ys) = or_first (find has (y ∷ ys)) y ∙ ap Some (sym (of_number (y ∷ ys) y))

    -- with one that, or else the first
    pub chosen_numbered : (xs : List OpenAccept) → option_or (find (λ a. is_for a && has a) xs) (find is_for xs) ≡ chosen (Some number) (filter is_for xs)
    chosen_numbered xs =
        ap (λ o. option_or o (find is_for xs)) (sym (found_among xs))
        ∙ ap (option_or (find has (filter is_for xs))) (chosen_first xs)
        ∙ chosen_among (filter is_for xs)
