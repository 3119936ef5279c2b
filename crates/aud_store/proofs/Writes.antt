-- Cells are written.
use Rattle.std.proofs.Common.{◌≡◌, ℕ, List, length, Result, Ok, Err, OnErr, ap, ◌∙◌}
use Rattle.std.specs.Prelude.{ℤ, slice_set}
use Rattle.smallvec.specs.SmallVec.{SmallVec, with_items}
use Rattle.smallvec.proofs.SmallVecLemmas.{items-with_items}
use Rattle.std.proofs.lemmas.List.{length-set}

pub on_err : {T E P : Type 0} (r : Result T E) → P → OnErr r P
on_err (Ok x) p = tt
on_err (Err e) p = p

-- a cell is written in what was lent
pub written_inline : (v : SmallVec ℤ) (lent new : List ℤ) (i : ℕ) (z : ℤ) → lent ≡ v.items → new ≡ slice_set lent i z → (with_items v new).items ≡ slice_set v.items i z
written_inline v lent new i z is written =
    items-with_items v new (ap length written ∙ length-set lent i z ∙ ap length is)
    ∙ written ∙ ap (λ l. slice_set l i z) is
