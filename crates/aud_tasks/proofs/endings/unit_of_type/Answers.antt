use Rattle.std.proofs.Common.{◌≡◌, ◌<◌, ℕ, zero, suc, List, [], ◌∷◌, length, map, get_or, slice_index_or, ap, arith}
use Rattle.aud_typed.specs.declared.program.TaskType.{TaskType}
use Rattle.aud_typed.specs.Ties.View.{plain_task_type}
use Rattle.aud_tasks.proofs.endings.unit_of_type.Goals as goal

found_at : (ts : List TaskType) (n : ℕ) (t : TaskType) → n < length ts → t ≡ get_or ts n t → t.unit ≡ (slice_index_or (map plain_task_type ts) n (record { unit = 0; entries = [] })).unit
found_at [] n t within at = absurd (omega (arith, within))
found_at (x ∷ ts) zero t within at = ap (λ (y : TaskType). y.unit) at
found_at (x ∷ ts) (suc n) t within at = found_at ts n t (omega (arith, within)) at

pub returns-in-Some : goal.returns-in-Some
returns-in-Some c =
    let at = rw c.deref.ensures.value at c.in-Some.ensures.lookup in
    found_at c.args.compiled.program.now.tasks.items c.args.task_type c.in-Some.task_type.now at.3.0 at.1
