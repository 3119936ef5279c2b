-- Whether a text goes on behind its last line feed.
use Rattle.std.proofs.Common.{◌≡◌, ℕ, List, [], ◌∷◌, ◌++◌, true, false, cond, ◌==◌, refl}
use Rattle.aud_lines.specs.Text.{is_open}

pub open_last : (front : List ℕ) (last : ℕ) → is_open (front ++ last ∷ []) ≡ cond (last == 10) false true
open_last [] last = refl
open_last (x ∷ []) last = refl
open_last (x ∷ y ∷ front) last = open_last (y ∷ front) last
