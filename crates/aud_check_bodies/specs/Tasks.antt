-- Declarations of tasks and task types, and what their bodies need (RM 3.11.1, 9.1, 9.2).
use Rattle.std.specs.Prelude.{ℕ, nat_eq, Bool, true, false, not, List, [], ◌∷◌, ◌++◌, Option, Some, None, pos, if◌then◌else◌}
use Rattle.std.specs.List.{list_any}
use Rattle.aud_text.specs.declared.place.Pos.{Pos}
use Rattle.aud_syntax.specs.declared.tree.Ident.{Ident}
use Rattle.aud_syntax.specs.Plain.{TaskDefinition}
use Rattle.aud_typed.specs.Tree as tree
use Rattle.aud_fault.specs.declared.fault.Fault.{Fault}
use Rattle.aud_names.specs.declared.awaited.Awaited.{Awaited}
use Rattle.aud_names.specs.declared.names.Meaning.TheVariants.{TaskType}
use Rattle.aud_names.specs.declared.array.Kind.TheVariants.{Task}
use Rattle.aud_names.specs.Names.{Region, Place, innermost, in_region, body_frame, is_declared, awaited_task, body_come, task_place}
use Rattle.aud_names.specs.Rules.{declared_once, right_name_at_end, no_matching_body}
use Rattle.aud_check_bodies.specs.Tables.{Tables, Outcome, fine, after, and_then, next_unit, with_unit, next_task, task_kept}
use Rattle.aud_check_bodies.specs.Entries.{Entries, no_entries, declared_entries, entries_faults, entries_of, entry_numbers, naming}
use Rattle.aud_check_bodies.specs.Declarations.{Declared, with_symbol, task_elaborations, nothing_declared}
use Rattle.aud_check_bodies.specs.Objects.{without_object_bodies}

-- Declarations (RM 9.1).

-- the name after the end of a declaration
abbrev pub name_behind : Option TaskDefinition → Option Ident
name_behind None = None
name_behind (Some d) = d.end_name

-- a single task has a cell for its number
abbrev pub with_task_symbol : Bool → List ℕ → ℕ → Region → Region
with_task_symbol true name number r = record r { symbols = r.symbols ++ (name, TaskType number) ∷ [] }
with_task_symbol false name number r = with_symbol name (Task number) r

-- its body, which has this unit, is still to come
abbrev pub awaiting : Ident → ℕ → ℕ → Region → Region
awaiting i number unit r = record r { awaited = r.awaited ++ (record { name = i.name; task_type = number; unit = unit; at = i.at }) ∷ [] }

-- the region after the name of a task, or of a task type; a name that it has already stays what it was
abbrev pub with_task : Bool → Ident → ℕ → ℕ → Region → Region
with_task is_type i number unit r = if is_declared i.name r.symbols then r else awaiting i number unit (with_task_symbol is_type i.name number r)

-- a type creates no task
abbrev pub created_by : Bool → Ident → Pos → ℕ → List tree.Statement
created_by true i at number = []
created_by false i at number = task_elaborations (i ∷ []) at number (pos 0) false 1

-- the place behind the name, which is visible in what follows it (RM 8.3(18))
abbrev pub place_named : Bool → Ident → Place → Tables → Place
place_named is_type i place t = in_region (with_task is_type i (next_task t) (next_unit t) (innermost place)) place

-- the entries of a task whose name stands before a place
abbrev pub task_entries : Option TaskDefinition → Place → Tables → Entries
task_entries d here t = declared_entries (next_task t) (entries_of d) here.regions (no_entries (body_frame here) t)

abbrev pub task_entries_faults : Option TaskDefinition → Place → Tables → List Fault
task_entries_faults d here t = entries_faults (next_task t) (entries_of d) here.regions (no_entries (body_frame here) t)

-- the task type has a place in the table behind those of its entries
abbrev pub task_of_entries : Entries → Pos → Bool → Ident → Place → Tables → Outcome Declared
task_of_entries es at is_type i here t = fine (record {
  place = in_region (naming es.names (innermost here)) here;
  elaborations = created_by is_type i at (next_task t);
}) (task_kept (entry_numbers es.names) es.tables)

abbrev pub checked_task : Pos → Bool → Ident → Option TaskDefinition → Place → Tables → Outcome Declared
checked_task at is_type i d place t =
    after (declared_once i.name i.at (innermost place).symbols ++ (task_entries_faults d (place_named is_type i place t) t ++ right_name_at_end i.name (name_behind d)))
    (task_of_entries (task_entries d (place_named is_type i place t) t) at is_type i (place_named is_type i place t) t)

-- Bodies (RM 9.1, 3.11.1).

-- what waits for a body still, at the end of a declarative part, has none
abbrev pub without_bodies : List Awaited → List Fault
without_bodies [] = []
without_bodies (a ∷ others) = no_matching_body a.at ++ without_bodies others

abbrev pub with_bodies : Outcome Declared → Outcome Declared
with_bodies o = record { faults = o.faults ++ (without_bodies (innermost o.made.place).awaited ++ without_object_bodies (innermost o.made.place).objects); tables = o.tables; made = o.made }

-- a body is that of a task that waits for it
abbrev pub matched_faults : Option Awaited → Pos → List Fault
matched_faults None at = no_matching_body at
matched_faults (Some a) at = []

-- another one is checked as a task of its own, which has no entries
abbrev pub body_unit : Option Awaited → Tables → ℕ
body_unit None t = next_unit t
body_unit (Some a) t = a.unit

abbrev pub body_task : Option Awaited → Tables → ℕ
body_task None t = next_task t
body_task (Some a) t = a.task_type

abbrev pub body_tables : Option Awaited → Tables → Tables
body_tables None t = task_kept [] t
body_tables (Some a) t = t

-- the task whose body has this name, and the place behind it
abbrev pub task_awaited : Ident → Place → Option Awaited
task_awaited i place = awaited_task i.name (innermost place).awaited

abbrev pub place_behind : Ident → Place → Place
place_behind i place = in_region (body_come i.name (innermost place)) place

-- a task's body, which is checked in its own place; the place behind it
abbrev pub task_body_of : Ident → Option Awaited → (Place → Tables → Outcome tree.UnitBody) → Place → Tables → Outcome Declared
task_body_of i found checked here t =
    after (matched_faults found i.at)
    (and_then (checked (task_place i.name (body_task found t) here) (body_tables found t)) (λ u t1. fine (nothing_declared here) (with_unit (body_unit found t) u t1)))

-- Activation (RM 9.2).

-- an array without elements is no task
abbrev pub creates : tree.Statement → Bool
creates (tree.declare_tasks at ts) = not (nat_eq ts.length 0)
creates _ = false

abbrev pub create_tasks : List tree.Statement → Bool
create_tasks elaborations = list_any creates elaborations

-- what a declarative part has created is activated at `begin` (RM 9.2(3)), and a task's own activation ends before that (RM 9.2(5))
abbrev pub with_activation : Bool → Pos → List tree.Statement → List tree.Statement
with_activation true begin elaborations = elaborations ++ (tree.activated begin ∷ tree.activation (create_tasks elaborations) begin)
with_activation false begin elaborations = elaborations ++ tree.activation (create_tasks elaborations) begin
