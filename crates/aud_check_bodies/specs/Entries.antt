-- Entries of tasks (RM 9.1, 9.5.2).
use Rattle.std.specs.Prelude.{ℕ, List, [], ◌∷◌, ◌++◌, map, Option, Some, None, if◌then◌else◌}
use Rattle.aud_syntax.specs.Plain.{EntryDeclaration, TaskDefinition}
use Rattle.aud_fault.specs.declared.fault.Fault.{Fault}
use Rattle.aud_names.specs.declared.entries.EntryName.{EntryName}
use Rattle.aud_names.specs.declared.names.NamedParameter.{NamedParameter}
use Rattle.aud_names.specs.Names.{Region, place_in, body_frame, is_declared, with_entry}
use Rattle.aud_names.specs.Rules.{declared_once}
use Rattle.aud_check_bodies.specs.Tables.{Tables, next_entry, entry_kept}
use Rattle.aud_check_bodies.specs.Formals.{Formals, checked_formals}

-- what the entries of a task have declared so far: the region in which they are with the declarations of its body (RM 8.1), what is found
-- behind the task's name, and the tables
pub record Entries : Type 0 where
  pub own : Region
  pub names : List EntryName
  pub tables : Tables

abbrev pub no_entries : Region → Tables → Entries
no_entries own t = record { own = own; names = []; tables = t }

-- the formals of an entry are seen by no more than themselves (RM 8.1), and its scope begins behind them (RM 8.2(2))
abbrev pub entry_formals : EntryDeclaration → Region → List Region → Formals
entry_formals e own outer = checked_formals e.formals (body_frame (place_in own outer)) (own ∷ outer)

-- an entry of a type of tasks
abbrev pub entry_added : ℕ → List ℕ → List NamedParameter → Entries → Entries
entry_added task_type name profile x = record {
  own = with_entry name (next_entry x.tables) x.own;
  names = x.names ++ (record { task_type = task_type; name = name; number = next_entry x.tables }) ∷ [];
  tables = entry_kept name profile x.tables;
}

-- a name that the region has already stays what it was
abbrev pub one_entry : ℕ → EntryDeclaration → List Region → Entries → Entries
one_entry task_type e outer x = if is_declared e.name.name x.own.symbols then x else entry_added task_type e.name.name (entry_formals e x.own outer).profile x

-- entries are declared one after the other
abbrev pub declared_entries : ℕ → List EntryDeclaration → List Region → Entries → Entries
declared_entries task_type [] outer x = x
declared_entries task_type (e ∷ es) outer x = declared_entries task_type es outer (one_entry task_type e outer x)

-- each of them once
abbrev pub entry_faults : EntryDeclaration → Region → List Region → List Fault
entry_faults e own outer = declared_once e.name.name e.name.at own.symbols ++ (entry_formals e own outer).faults

abbrev pub entries_faults : ℕ → List EntryDeclaration → List Region → Entries → List Fault
entries_faults task_type [] outer x = []
entries_faults task_type (e ∷ es) outer x = entry_faults e x.own outer ++ entries_faults task_type es outer (one_entry task_type e outer x)

-- those of a definition, if there is one (RM 9.1(4))
abbrev pub entries_of : Option TaskDefinition → List EntryDeclaration
entries_of None = []
entries_of (Some d) = d.entries

-- their numbers
abbrev pub entry_numbers : List EntryName → List ℕ
entry_numbers names = map (λ e. e.number) names

-- what is found behind a task's name is found in the region that declares it
abbrev pub naming : List EntryName → Region → Region
naming names r = record r { entries = r.entries ++ names }
