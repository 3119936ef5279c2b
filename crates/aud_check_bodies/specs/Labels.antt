-- The labels of loops and blocks, and which loop an exit leaves (RM 5.5, 5.6, 5.7).
use Rattle.std.specs.Prelude.{ℕ, ◌+◌, Bool, false, List, [], ◌∷◌, Option, Some, None, if◌then◌else◌}
use Rattle.std.specs.Str.{bytes_eq}
use Rattle.aud_syntax.specs.declared.tree.Ident.{Ident}

-- of a loop or a block: which of them it is, and its label, none where it has none
pub record Label : Type 0 where
  pub is_loop : Bool
  pub name : Option Ident

-- of the loops and blocks around a statement, innermost first
abbrev pub Labels : Type 0
Labels = List Label

abbrev pub has_label : Ident → Option Ident → Bool
has_label name None = false
has_label name (Some label) = bytes_eq name.name label.name

-- whether this is what an exit names: one without a name leaves any loop (RM 5.7(4))
abbrev pub is_named : Option Ident → Label → Bool
is_named None l = l.is_loop
is_named (Some name) l = has_label name l.name

-- how many loops further out than one that is this number of loops further out the loop is that an exit leaves
abbrev pub loop_from : ℕ → Option Ident → Labels → Option ℕ
loop_from n name [] = None
loop_from n name (l ∷ ls) = if is_named name l then (if l.is_loop then Some n else None) else loop_from (if l.is_loop then n + 1 else n) name ls

-- how many loops further out than the innermost one the loop is that an exit leaves, none where there is no such loop; a block hides what
-- has its label further out (RM 5.7(4), profile)
abbrev pub exit_loop : Option Ident → Labels → Option ℕ
exit_loop name labels = loop_from 0 name labels
