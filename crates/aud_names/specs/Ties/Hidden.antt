-- The set of the names that a declaration hides.
use denote.Ref.{Bor}
use Rattle.std.specs.Prelude.{◌≡◌, ℕ, Bool, List}
use Rattle.std.specs.Str.{bytes_eq}
use Rattle.std.specs.List.{list_any}
use Rattle.aud_syntax.specs.declared.tree.Ident.{Ident}
use Rattle.aud_names.specs.Names.{is_hidden}

-- whether a name is among these
abbrev pub is_among : List ℕ → List (Bor (List ℕ)) → Bool
is_among name names = list_any (λ other. bytes_eq name other.now) names

-- a name is in the set where one of the identifiers has it
abbrev pub IsSetOf : List Ident → List (Bor (List ℕ)) → Type 0
IsSetOf identifiers names = (name : Bor (List ℕ)) → is_among name.now names ≡ is_hidden name.now identifiers
