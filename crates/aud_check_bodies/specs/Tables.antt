-- What stands in a typed program's tables, as a check of the text makes them, and what such a check gives.
use Rattle.std.specs.Prelude.{ℕ, false, List, [], ◌∷◌, ◌++◌, length, slice_index_or, slice_set}
use Rattle.aud_text.specs.declared.place.Pos.{Pos}
use Rattle.aud_typed.specs.Tree as tree
use Rattle.aud_fault.specs.declared.fault.Fault.{Fault}
use Rattle.aud_names.specs.declared.names.NamedParameter.{NamedParameter}

-- the variables and constants of each region that has been entered, by the regions' numbers, and the names of the exceptions, by theirs;
-- of each procedure, task, operation and protected entry that has been declared its formals (RM 6.1), and its body, by the number of its
-- unit; the task types and the protected objects, by theirs; and of each entry what it is and its formals, by theirs (RM 9.5.2)
pub record Tables : Type 0 where
  pub regions : List (List tree.Named)
  pub exceptions : List (List ℕ)
  pub profiles : List (List NamedParameter)
  pub units : List tree.UnitBody
  pub tasks : List tree.TaskPlan
  pub objects : List tree.ObjectPlan
  pub entries : List tree.EntryBody
  pub entry_profiles : List (List NamedParameter)

abbrev pub no_tables : Tables
no_tables = record { regions = []; exceptions = []; profiles = []; units = []; tasks = []; objects = []; entries = []; entry_profiles = [] }

-- what checking a construct gives: its faults, the tables after it, and what is made of it
pub record Outcome (A : Type 0) : Type 0 where
  pub faults : List Fault
  pub tables : Tables
  pub made : A

abbrev pub fine : {A : Type 0} → A → Tables → Outcome A
fine x t = record { faults = []; tables = t; made = x }

abbrev pub after : {A : Type 0} → List Fault → Outcome A → Outcome A
after faults o = record { faults = faults ++ o.faults; tables = o.tables; made = o.made }

-- one after the other
abbrev pub and_then : {A B : Type 0} → Outcome A → (A → Tables → Outcome B) → Outcome B
and_then o next = after o.faults (next o.made o.tables)

-- Regions: one that is entered has the next number. What its declarations enter comes behind it, so its place is kept until its names
-- are all there.

abbrev pub next_region : Tables → ℕ
next_region t = length t.regions

abbrev pub with_region : List tree.Named → Tables → Tables
with_region names t = record t { regions = t.regions ++ names ∷ [] }

abbrev pub region_kept : Tables → Tables
region_kept t = with_region [] t

abbrev pub region_named : ℕ → List tree.Named → Tables → Tables
region_named number names t = record t { regions = slice_set t.regions number names }

-- Units: a procedure that is declared has the next number, and its place is kept until its body is checked.

abbrev pub next_unit : Tables → ℕ
next_unit t = length t.units

-- what stands there until then
abbrev pub nowhere : Pos
nowhere = record { line = 0; col = 0 }

abbrev pub no_body : tree.UnitBody
no_body = record { level = 0; region = 0; is_function = false; at = nowhere; body = tree.body tree.nothing nowhere (tree.null nowhere) tree.no_handlers nowhere }

abbrev pub unit_kept : List NamedParameter → Tables → Tables
unit_kept profile t = record t { profiles = t.profiles ++ profile ∷ []; units = t.units ++ no_body ∷ [] }

abbrev pub with_unit : ℕ → tree.UnitBody → Tables → Tables
with_unit number u t = record t { units = slice_set t.units number u }

-- Task types: one that is declared, or that of a single task, has the next number, and its body the next unit.

abbrev pub next_task : Tables → ℕ
next_task t = length t.tasks

-- with these entries, by their numbers
abbrev pub task_kept : List ℕ → Tables → Tables
task_kept entries t = record t { profiles = t.profiles ++ [] ∷ []; units = t.units ++ no_body ∷ []; tasks = t.tasks ++ (record { unit = next_unit t; entries = entries }) ∷ [] }

-- Entries: one that is declared has the next number.

abbrev pub next_entry : Tables → ℕ
next_entry t = length t.entries

abbrev pub entry_kept : List ℕ → List NamedParameter → Tables → Tables
entry_kept name profile t = record t { entries = t.entries ++ tree.task_entry name (length profile) ∷ []; entry_profiles = t.entry_profiles ++ profile ∷ [] }

-- A protected one has the next unit besides, which nothing calls by its number, and its barrier is there once its body is checked.

abbrev pub protected_entry : List ℕ → (formals unit : ℕ) → tree.EntryBody
protected_entry name formals unit = record (tree.task_entry name formals) { unit = unit }

abbrev pub protected_entry_kept : List ℕ → List NamedParameter → Tables → Tables
protected_entry_kept name profile t = record t {
  profiles = t.profiles ++ [] ∷ [];
  units = t.units ++ no_body ∷ [];
  entries = t.entries ++ protected_entry name (length profile) (next_unit t) ∷ [];
  entry_profiles = t.entry_profiles ++ profile ∷ [];
}

abbrev pub entry_at : ℕ → Tables → tree.EntryBody
entry_at number t = slice_index_or t.entries number (tree.task_entry [] 0)

abbrev pub with_barrier : ℕ → tree.BooleanExpression → Tables → Tables
with_barrier number barrier t = record t { entries = slice_set t.entries number (record (entry_at number t) { barrier = barrier }) }

-- Protected objects: one that is declared has the next number. So many frames are open around its own.

abbrev pub next_object : Tables → ℕ
next_object t = length t.objects

abbrev pub object_kept : List ℕ → (level : ℕ) → List tree.Named → List ℕ → Tables → Tables
object_kept name level components entries t =
    record t { objects = t.objects ++ (record { name = name; level = level; components = components; entries = entries }) ∷ [] }

-- the formals of a unit
abbrev pub profile_of : ℕ → Tables → List NamedParameter
profile_of number t = slice_index_or t.profiles number []

-- and of an entry
abbrev pub entry_profile_of : ℕ → Tables → List NamedParameter
entry_profile_of number t = slice_index_or t.entry_profiles number []
