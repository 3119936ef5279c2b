use Rattle.std.proofs.Common.{◌≡◌, ◌<◌, ◌≤◌, ℕ, zero, suc, List, [], ◌∷◌, length, map, get_or, slice_index_or, refl, ap, ◌∙◌, arith}
use Rattle.aud_typed.specs.declared.program.Entry.{Entry}
use Rattle.aud_typed.specs.Tree.{plan_of_entry}
use Rattle.aud_typed.specs.Ties.View.{plain_entry}
use Rattle.aud_tasks.proofs.barriers.EvaluatorBarriers.body.Goals as goal

found_at : (es : List Entry) (n : ℕ) (e : Entry) → n < length es → e ≡ get_or es n e → (plain_entry e).unit ≡ (slice_index_or (map plan_of_entry (map plain_entry es)) n (record { name = []; formals = 0; unit = 0 })).unit
found_at [] n e within at = absurd (omega (arith, within))
found_at (x ∷ es) zero e within at = ap (λ (y : Entry). (plain_entry y).unit) at
found_at (x ∷ es) (suc n) e within at = found_at es n e (omega (arith, within)) at

past : (es : List Entry) (n : ℕ) → length es ≤ n → 0 ≡ (slice_index_or (map plan_of_entry (map plain_entry es)) n (record { name = []; formals = 0; unit = 0 })).unit
past [] n within = refl
past (x ∷ es) zero within = absurd (omega (arith, within))
past (x ∷ es) (suc n) within = past es n (omega (arith, within))

pub returns-in-Some : goal.returns-in-Some
returns-in-Some c =
    let at = rw c.deref.ensures.value at c.in-Some.ensures.lookup in
    c.unit_of.ensures ∙ found_at c.args.self.now.program.now.entries.items c.args.entry c.in-Some.found.now at.3.0 at.1

pub returns-in-None : goal.returns-in-None
returns-in-None c =
    let none = rw c.deref.ensures.value at c.in-None.ensures.lookup in
    past c.args.self.now.program.now.entries.items c.args.entry (omega (arith, none))
