use Rattle.std.proofs.Common.{◌≡◌, ℕ, drop}
use Rattle.std.specs.Prelude.{◌||◌}
use Rattle.aud_meaning.specs.Parts.{any, contains}
use Rattle.aud_over.specs.Over.{object_names}
use Rattle.aud_state.specs.declared.object.Object.{Object}
use Rattle.aud_state.specs.View.{plain_object}
use Rattle.aud_state.proofs.forget.put_around.Given as goal

abbrev pub invariant-loop-object : goal.invariant-loop-object
invariant-loop-object l =
    (frame : ℕ) → (contains frame l.kept.items || any (λ (z : Object). object_names frame (plain_object z)) (drop l.object-index l.objects)) ≡ (contains frame l.initial.kept.items || any (λ (z : Object). object_names frame (plain_object z)) l.objects)
