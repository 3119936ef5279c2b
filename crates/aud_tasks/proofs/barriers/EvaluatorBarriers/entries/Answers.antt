use Rattle.std.proofs.Common.{◌≡◌, ◌<◌, ◌≤◌, ℕ, zero, suc, List, [], ◌∷◌, length, map, get_or, slice_index_or, refl, ap, ◌∙◌, arith}
use Rattle.aud_typed.specs.declared.program.ProtectedObject.{ProtectedObject}
use Rattle.aud_typed.specs.Ties.View.{plain_object}
use Rattle.aud_tasks.proofs.barriers.EvaluatorBarriers.entries.Goals as goal

found_at : (os : List ProtectedObject) (n : ℕ) (o : ProtectedObject) → n < length os → o ≡ get_or os n o → o.entries.items ≡ (slice_index_or (map plain_object os) n (record { name = []; level = 0; components = []; entries = [] })).entries
found_at [] n o within at = absurd (omega (arith, within))
found_at (x ∷ os) zero o within at = ap (λ (y : ProtectedObject). y.entries.items) at
found_at (x ∷ os) (suc n) o within at = found_at os n o (omega (arith, within)) at

past : (os : List ProtectedObject) (n : ℕ) → length os ≤ n → [] ≡ (slice_index_or (map plain_object os) n (record { name = []; level = 0; components = []; entries = [] })).entries
past [] n within = refl
past (x ∷ os) zero within = absurd (omega (arith, within))
past (x ∷ os) (suc n) within = past os n (omega (arith, within))

pub returns-in-Some : goal.returns-in-Some
returns-in-Some c =
    let at = rw c.deref.ensures.value at c.in-Some.ensures.lookup in
    c.deref-in-Some.ensures.value ∙ found_at c.args.self.now.program.now.objects.items c.args.declaration c.in-Some.found.now at.3.0 at.1

pub returns-in-None : goal.returns-in-None
returns-in-None c =
    let none = rw c.deref.ensures.value at c.in-None.ensures.lookup in
    past c.args.self.now.program.now.objects.items c.args.declaration (omega (arith, none))
