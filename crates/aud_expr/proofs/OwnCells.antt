-- The cells of an object that is declared are seen as one more frame, behind all others.
use Rattle.std.proofs.Common.{◌≡◌, ℕ, zero, suc, ℤ, List, [], ◌∷◌, ◌++◌, length, Option, Some, None, true, slice_index_or, refl, ap}
use Rattle.std.specs.Prelude.{slice_index}
use Rattle.aud_meaning.specs.Evaluation.{Sight}
use Rattle.aud_code.specs.Eval.{seen_in}
use Rattle.aud_code.specs.Sound.{is_some}
use Rattle.aud_expr.specs.Operands.{own_cells}

last_there : {A : Type 0} (xs : List A) (x d : A) → slice_index_or (xs ++ x ∷ []) (length xs) d ≡ x
last_there [] x d = refl
last_there (y ∷ ys) x d = last_there ys x d

none_there : {A : Type 0} (xs : List A) (d : A) → slice_index_or xs (length xs) d ≡ d
none_there [] d = refl
none_there (y ∷ ys) d = none_there ys d

others_there : {A : Type 0} (xs : List A) (x d : A) (n : ℕ) → (n ≡ length xs → ⊥) → slice_index_or (xs ++ x ∷ []) n d ≡ slice_index_or xs n d
others_there [] x d zero h = absurd (h refl)
others_there [] x d (suc zero) h = refl
others_there [] x d (suc (suc n)) h = refl
others_there (y ∷ ys) x d zero h = refl
others_there (y ∷ ys) x d (suc n) h = others_there ys x d n (λ e. h (ap suc e))

pub facts_same : (cells : Option (List ℤ)) (s : Sight) → (seen_in cells s).facts ≡ s.facts
facts_same None s = refl
facts_same (Some cells) s = refl

-- frames by their numbers
pub own_frame : (cells : Option (List ℤ)) (s : Sight) → slice_index_or (seen_in cells s).frames (length s.frames) [] ≡ own_cells cells
own_frame None s = none_there s.frames []
own_frame (Some cells) s = last_there s.frames cells []

pub other_frame : (cells : Option (List ℤ)) (s : Sight) (n : ℕ) → (n ≡ length s.frames → ⊥) → slice_index_or (seen_in cells s).frames n [] ≡ slice_index_or s.frames n []
other_frame None s n h = refl
other_frame (Some cells) s n h = others_there s.frames cells [] n h

-- and by their levels
pub own_level : (cells : Option (List ℤ)) (s : Sight) → is_some cells ≡ true → slice_index (seen_in cells s).display (length s.display) ≡ length s.frames
own_level None s begun = cc
own_level (Some cells) s begun = last_there s.display (length s.frames) 0

pub other_level : (cells : Option (List ℤ)) (s : Sight) (n : ℕ) → (is_some cells ≡ true → n ≡ length s.display → ⊥) → slice_index (seen_in cells s).display n ≡ slice_index s.display n
other_level None s n h = refl
other_level (Some cells) s n h = others_there s.display (length s.frames) 0 n (h refl)
