-- Formal parameters of procedures, entries and accepts (RM 6.1, 9.5.2).
use Rattle.std.specs.Prelude.{Bool, true, false, List, [], ◌∷◌, ◌++◌, map, Option}
use Rattle.aud_syntax.specs.declared.tree.Ident.{Ident}
use Rattle.aud_syntax.specs.declared.tree.Mode.{Mode}
use Rattle.aud_syntax.specs.declared.tree.Mode.TheVariants.{Unstated, In, Out, InOut}
use Rattle.aud_syntax.specs.Plain.{Formal, formal}
use Rattle.aud_typed.specs.declared.program.Subtype.{Subtype}
use Rattle.aud_fault.specs.declared.fault.Fault.{Fault}
use Rattle.aud_names.specs.declared.names.Meaning.{Meaning}
use Rattle.aud_names.specs.declared.names.NamedParameter.{NamedParameter}
use Rattle.aud_names.specs.declared.names.Parameter.{Parameter}
use Rattle.aud_names.specs.declared.array.Kind.{Kind}
use Rattle.aud_names.specs.Names.{Region, Place, place_in, body_frame}
use Rattle.aud_check_bodies.specs.Declarations.{subtype_faults, subtype_meant, marked, scalar, declared_names, twice_faults}

-- a formal of mode in is a constant (RM 3.3, 6.1)
abbrev pub is_in : Mode → Bool
is_in Unstated = true
is_in (In at) = true
is_in (Out at) = false
is_in (InOut at) = false

-- the faults of formals, the region after them, and what calls and accepts see of them
pub record Formals : Type 0 where
  pub faults : List Fault
  pub region : Region
  pub profile : List NamedParameter

-- one for each of the names
abbrev pub parameters_of : List Ident → Parameter → List NamedParameter
parameters_of names p = map (λ i. record { name = i.name; parameter = p }) names

abbrev pub formal_kind : Mode → Option Subtype → Kind
formal_kind mode s = scalar s (is_in mode)

abbrev pub formals_meant : List Ident → Mode → Ident → Option Meaning → Region → Formals
formals_meant names mode mark m r = record {
  faults = subtype_faults m mark.at ++ twice_faults names (formal_kind mode (subtype_meant m)) r;
  region = declared_names names (formal_kind mode (subtype_meant m)) r;
  profile = parameters_of names (record { mode = mode; subtype = subtype_meant m });
}

abbrev pub checked_formal : Formal → Region → List Region → Formals
checked_formal (formal first others mode mark) r outer = formals_meant (first ∷ others) mode mark (marked mark (first ∷ others) (place_in r outer)) r

abbrev pub joined_formals : Formals → Formals → Formals
joined_formals f g = record { faults = f.faults ++ g.faults; region = g.region; profile = f.profile ++ g.profile }

-- formals are declared one after the other in a region, which lies within these
abbrev pub checked_formals : List Formal → Region → List Region → Formals
checked_formals [] r outer = record { faults = []; region = r; profile = [] }
checked_formals (f ∷ fs) r outer = joined_formals (checked_formal f r outer) (checked_formals fs (checked_formal f r outer).region outer)

-- those of a body or a declaration at a place, in a region of their own (RM 8.1)
abbrev pub body_formals : List Formal → Place → Formals
body_formals fs place = checked_formals fs (body_frame place) place.regions
