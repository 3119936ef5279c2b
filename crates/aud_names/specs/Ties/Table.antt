-- Tables of names in memory.
use Rattle.std.specs.Prelude.{ℕ, List, map}
use Rattle.std.specs.Borrow.{Bor}

abbrev pub plain_table : {T : Type 0} → List (Bor (List ℕ) × T) → List (List ℕ × T)
plain_table rows = map (λ row. (row.0.now, row.1)) rows
