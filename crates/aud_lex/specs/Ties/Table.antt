-- Tables of spellings in memory.
use Rattle.std.specs.Prelude.{ℕ, List, map}
use Rattle.std.specs.Borrow.{Bor}
use Rattle.aud_lex.specs.declared.token.Kind.{Kind}
use Rattle.aud_lex.specs.Kinds.{Spelled, spelled}

abbrev pub plain_table : List (Bor (List ℕ) × Kind) → List Spelled
plain_table rows = map (λ row. spelled row.0.now row.1) rows
