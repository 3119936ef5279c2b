-- The plain data of a place in memory, and of the names of a declaration.
use denote.Ref.{Bor}
use Rattle.std.specs.Prelude.{List, [], ◌∷◌, ◌++◌, map, Option, Some, None}
use Rattle.aud_syntax.specs.declared.tree.Ident.{Ident}
use Rattle.aud_syntax.specs.declared.tree.Identifiers.{Identifiers}
use Rattle.aud_names.specs.declared.names.Region as memory
use Rattle.aud_names.specs.Names.{Region, Place, place_in, outermost}

abbrev pub plain_region : memory.Region → Region
plain_region r = record { symbols = r.symbols.entries; level = r.level; cells = r.cells; names = r.names; awaited = r.awaited.items; objects = r.objects.items; entries = r.entries.items; parts = r.parts.items; own = r.own; accept = r.accept }

-- in memory the outermost region is not among them
abbrev pub plain_regions : List (Bor memory.Region) → List Region
plain_regions rs = map (λ r. plain_region r.now) rs ++ outermost

-- the place behind the declarations of a region
abbrev pub plain_place : memory.Region → List (Bor memory.Region) → Place
plain_place r outer = place_in (plain_region r) (plain_regions outer)

abbrev pub names_in : Identifiers → List Ident
names_in x = x.first ∷ x.others.items

-- the names of the declaration that lasts, if there is one
abbrev pub hidden_names : Option (List Ident) → List Ident
hidden_names None = []
hidden_names (Some names) = names
