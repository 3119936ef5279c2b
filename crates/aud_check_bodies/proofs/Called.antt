-- Calls with no argument, or with more than one.
use Rattle.std.proofs.Common.{◌≡◌, List, [], ◌∷◌, length, refl}
use Rattle.aud_text.specs.declared.place.Pos.{Pos}
use Rattle.aud_syntax.specs.declared.tree.Expression.{Expression}
use Rattle.aud_syntax.specs.Ties.View.{plain_expressions}
use Rattle.aud_names.specs.Rules.{wrong_number_of_arguments}
use Rattle.aud_typing.specs.Expressions.{Typed}
use Rattle.aud_check_bodies.specs.Calls.{one_text}

pub other_texts : (xs : List Expression) (at : Pos) (last : Typed) → (length xs ≡ 1 → ⊥) → one_text (plain_expressions xs) at last ≡ wrong_number_of_arguments at
other_texts [] at last e = refl
other_texts (x ∷ []) at last e = absurd (e refl)
other_texts (x ∷ y ∷ ys) at last e = refl
