-- What names stand for, where they are visible, and what a construct knows of its place (RM 8.1, 8.2, 8.3).
use Rattle.std.specs.Prelude.{ℕ, ◌+◌, Bool, true, false, not, ◌&&◌, ◌||◌, nat_lt, nat_eq, List, [], ◌∷◌, ◌++◌, Option, Some, None, is_some, codes, if◌then◌else◌}
use Rattle.std.specs.Str.{bytes_eq}
use Rattle.std.specs.List.{list_any}
use Rattle.std.specs.Map.{lookup}
use Rattle.aud_syntax.specs.declared.tree.Ident.{Ident}
use Rattle.aud_text.specs.declared.raise.Raise.TheVariants.{Constraint, Program, Storage, Tasking}
use Rattle.aud_typed.specs.declared.program.Exception.TheVariants.{Predefined}
use Rattle.aud_names.specs.declared.awaited.Awaited.{Awaited}
use Rattle.aud_names.specs.declared.awaited.AwaitedObject.{AwaitedObject}
use Rattle.aud_names.specs.declared.entries.EntryName.{EntryName}
use Rattle.aud_names.specs.declared.names.Meaning.{Meaning}
use Rattle.aud_names.specs.declared.names.Meaning.TheVariants.{ScalarType, Literal, Exception, Builtin, Procedure, Task, Entry}
use Rattle.aud_names.specs.declared.names.Task as named_task
use Rattle.aud_names.specs.declared.names.Entry as named_entry
use Rattle.aud_names.specs.declared.names.Owner.{Owner}
use Rattle.aud_names.specs.declared.names.Owner.TheVariants as owner
use Rattle.aud_names.specs.declared.names.Owner.TheVariants.{Single}
use Rattle.aud_names.specs.declared.names.Access.{Access}
use Rattle.aud_names.specs.declared.names.Access.TheVariants.{Outside, Inside, InFunction}
use Rattle.aud_names.specs.declared.parts.ObjectPart.{ObjectPart}
use Rattle.aud_names.specs.declared.names.Builtin.TheVariants.{Put, PutLine, NewLine}
use Rattle.aud_typed.specs.declared.program.Variable.{Variable}
use Rattle.aud_typed.specs.declared.program.Subtype.TheVariants.{Integer, Natural, Positive, Boolean}

-- a name that a region declares, and what it stands for
abbrev pub Symbol : Type 0
Symbol = List ℕ × Meaning

-- a region of declarations (RM 8.1): its names in the order of their declarations, how many frames are further out than its own, the
-- cells and names of variables, constants, tasks and objects in that, the tasks and the objects whose bodies are still to come, the entries
-- of the tasks that it declares, what its objects declare, where it is directly in a task's body the cell with that task's own number, and
-- whether it is that of an accept's formals
pub record Region : Type 0 where
  pub symbols : List Symbol
  pub level : ℕ
  pub cells : ℕ
  pub names : ℕ
  pub awaited : List Awaited
  pub objects : List AwaitedObject
  pub entries : List EntryName
  pub parts : List ObjectPart
  pub own : Option Variable
  pub accept : Bool

-- a region with no names yet, at a level, which is in no task's body
abbrev pub empty_region : ℕ → Region
empty_region level = record { symbols = []; level = level; cells = 0; names = 0; awaited = []; objects = []; entries = []; parts = []; own = None; accept = false }

-- what a region declares a name to be: the first symbol of that name decides
abbrev pub named_in : List ℕ → List Symbol → Option Meaning
named_in name symbols = lookup (bytes_eq name) symbols

abbrev pub or_outside : {A : Type 0} → Option A → Option A → Option A
or_outside (Some x) other = Some x
or_outside None other = other

-- an inner declaration hides those of its name further out (RM 8.3(15))
abbrev pub declared : List ℕ → List Region → Option Meaning
declared name [] = None
declared name (r ∷ rs) = or_outside (named_in name r.symbols) (declared name rs)

-- what a construct knows of its place: the regions around it, innermost first, and the names of the declaration that lasts
pub record Place : Type 0 where
  pub regions : List Region
  pub hidden : List Ident

abbrev pub innermost_of : List Region → Region
innermost_of [] = empty_region 0
innermost_of (r ∷ rs) = r

abbrev pub innermost : Place → Region
innermost place = innermost_of place.regions

abbrev pub others_of : List Region → List Region
others_of [] = []
others_of (r ∷ rs) = rs

-- the place with another innermost region
abbrev pub in_region : Region → Place → Place
in_region r place = record place { regions = r ∷ others_of place.regions }

-- a place behind the declarations of a region, and of those around it
abbrev pub place_in : Region → List Region → Place
place_in r rs = record { regions = r ∷ rs; hidden = [] }

-- the region of a body of its own, whose frame lies within the innermost one (RM 8.1)
abbrev pub body_frame : Place → Region
body_frame place = empty_region ((innermost place).level + 1)

-- the place in one more region of the same body
abbrev pub next_frame : Place → Region
next_frame place = record (body_frame place) { own = (innermost place).own }

-- the region of an accept's formals, in the same body
abbrev pub accept_frame : Place → Region
accept_frame place = record (next_frame place) { accept = true }

abbrev pub in_frame : Place → Place
in_frame place = place_in (next_frame place) place.regions

-- the place within a declaration of these names
abbrev pub hiding : List Ident → Place → Place
hiding identifiers place = record place { hidden = identifiers }

-- a declaration is hidden from all visibility until it ends (RM 8.3(16, 17))
abbrev pub is_hidden : List ℕ → List Ident → Bool
is_hidden name hidden = list_any (λ i. bytes_eq name i.name) hidden

-- what a name stands for, where it is visible (RM 4.1, 8.3)
abbrev pub visible : List ℕ → Place → Option Meaning
visible name place = if is_hidden name place.hidden then None else declared name place.regions

-- the regions from the one on, outwards, that declares what a name stands for
abbrev pub declaring : List ℕ → List Region → List Region
declaring name [] = []
declaring name (r ∷ rs) = if is_some (named_in name r.symbols) then r ∷ rs else declaring name rs

-- whether what they declare is within an accept, or within a task's body
abbrev pub are_in_accept : List Region → Bool
are_in_accept rs = list_any (λ r. r.accept) rs

abbrev pub are_in_task : List Region → Bool
are_in_task rs = list_any (λ r. is_some r.own) rs

-- whether a declaration has taken a name, also one that has not ended: nothing further out is meant by it
abbrev pub is_taken : List ℕ → Place → Bool
is_taken name place = is_hidden name place.hidden || is_some (declared name place.regions)

-- whether a region has declared a name (RM 8.3(26): no two homographs in one region)
abbrev pub is_declared : List ℕ → List Symbol → Bool
is_declared name symbols = is_some (named_in name symbols)

-- the predefined names (RM 8.6(2), A.1, A.10.1)
abbrev pub predefined : List Symbol
predefined =
    (codes "INTEGER", ScalarType Integer) ∷ (codes "NATURAL", ScalarType Natural) ∷ (codes "POSITIVE", ScalarType Positive) ∷ (codes "BOOLEAN", ScalarType Boolean)
    ∷ (codes "FALSE", Literal false) ∷ (codes "TRUE", Literal true)
    ∷ (codes "CONSTRAINT_ERROR", Exception (Predefined Constraint)) ∷ (codes "PROGRAM_ERROR", Exception (Predefined Program)) ∷ (codes "STORAGE_ERROR", Exception (Predefined Storage)) ∷ (codes "TASKING_ERROR", Exception (Predefined Tasking))
    ∷ (codes "PUT", Builtin Put) ∷ (codes "PUT_LINE", Builtin PutLine) ∷ (codes "NEW_LINE", Builtin NewLine) ∷ []

-- whether a name stands for a type or an exception that is declared in Standard (RM A.1)
abbrev pub is_standard : Option Meaning → Bool
is_standard (Some (ScalarType s)) = true
is_standard (Some (Exception e)) = true
is_standard _ = false

-- the outermost region
abbrev pub outermost : List Region
outermost = record (empty_region 0) { symbols = predefined } ∷ []

-- the library's region, in which the main procedure is declared, whose unit is the first (RM 10.1.1)
abbrev pub library : List ℕ → Region
library name = record (empty_region 0) { symbols = (name, Procedure 0) ∷ [] }

-- the place of a main procedure's declarations: its body's region, that of the library, and the predefined one (RM 10.1.1)
abbrev pub main_place : List ℕ → Place
main_place name = place_in (empty_region 0) (library name ∷ outermost)

-- Tasks (RM 9.1).

-- the task of a name that waits for its body
abbrev pub awaited_task : List ℕ → List Awaited → Option Awaited
awaited_task name [] = None
awaited_task name (a ∷ others) = if bytes_eq name a.name then Some a else awaited_task name others

-- what waits still once that body has come
abbrev pub still_awaited : List ℕ → List Awaited → List Awaited
still_awaited name [] = []
still_awaited name (a ∷ others) = if bytes_eq name a.name then others else a ∷ still_awaited name others

abbrev pub body_come : List ℕ → Region → Region
body_come name r = record r { awaited = still_awaited name r.awaited }

-- the first cell of the frame of a task's body at a level has the number of the task that runs it
abbrev pub own_cell : ℕ → Variable
own_cell level = record { level = level; index = 0 }

-- that task, whose type has a number
abbrev pub own_task : ℕ → ℕ → named_task.Task
own_task level task_type = record { variable = own_cell level; task_type = task_type }

-- the region of a task's body at a level: the cell with its own number has no name
abbrev pub own_region : ℕ → ℕ → Region
own_region level task_type = record { symbols = ([], Task (own_task level task_type)) ∷ []; level = level; cells = 1; names = 1; awaited = []; objects = []; entries = []; parts = []; own = Some (own_cell level); accept = false }

-- an entry in the region of its task's body (RM 8.1, 9.5.2); a name that this has already stays what it was
abbrev pub with_entry : List ℕ → ℕ → Region → Region
with_entry name number r = if is_declared name r.symbols then r else record r { symbols = r.symbols ++ (name, Entry (record { number = number; owner = Single (own_cell r.level) })) ∷ [] }

-- of these entries those of one type
abbrev pub with_entries : ℕ → List EntryName → Region → Region
with_entries task_type [] r = r
with_entries task_type (e ∷ es) r = with_entries task_type es (if nat_eq task_type e.task_type then with_entry e.name e.number r else r)

-- a task's entries and what its body declares are one region (RM 8.1)
abbrev pub task_region : ℕ → ℕ → List EntryName → Region
task_region level task_type entries = with_entries task_type entries (own_region level task_type)

-- around a task's body its name, or that of its type, means the task that runs it (RM 8.6(17))
abbrev pub running : List ℕ → ℕ → ℕ → Region
running name level task_type = record (empty_region level) { symbols = (name, Task (own_task level task_type)) ∷ [] }

-- the place of the declarations in the body of a task that is declared at a place
abbrev pub task_place : List ℕ → ℕ → Place → Place
task_place name task_type place =
    let level = (innermost place).level + 1 in
    place_in (task_region level task_type (innermost place).entries) (running name level task_type ∷ place.regions)

-- whether a cell is in the frame of a region
abbrev pub has_cell : Variable → Region → Bool
has_cell v r = nat_lt v.index r.cells && nat_eq r.level v.level

-- whether the body around a place that the task of a name runs, whose number is in a cell, declares another name: that cell is in the
-- body's frame, though the task's name is declared further out
abbrev pub is_in_own_body : List ℕ → Variable → List ℕ → List Region → Bool
is_in_own_body task v name [] = false
is_in_own_body task v name (r ∷ rs) = if has_cell v r then not (is_declared task r.symbols) && is_declared name r.symbols else is_in_own_body task v name rs

-- what the body of an object declares a name to be, whose frame has this cell
abbrev pub named_inside : List ℕ → Variable → List Region → Option Meaning
named_inside name v [] = None
named_inside name v (r ∷ rs) = if has_cell v r then named_in name r.symbols else named_inside name v rs

-- Entries (RM 9.5.2).

-- the number of an entry of a type of tasks: the first one of that name
abbrev pub entry_in : List ℕ → ℕ → List EntryName → Option ℕ
entry_in name task_type [] = None
entry_in name task_type (e ∷ es) = if nat_eq task_type e.task_type && bytes_eq name e.name then Some e.number else entry_in name task_type es

-- which is declared where the type is: where a task is visible its type's region is around
abbrev pub entry_named : List ℕ → ℕ → List Region → Option ℕ
entry_named name task_type [] = None
entry_named name task_type (r ∷ rs) = or_outside (entry_in name task_type r.entries) (entry_named name task_type rs)

abbrev pub same_cell : Variable → Variable → Bool
same_cell v w = nat_eq v.level w.level && nat_eq v.index w.index

abbrev pub is_cell_of : Owner → Option Variable → Bool
is_cell_of (Single v) (Some own) = same_cell v own
is_cell_of _ _ = false

-- whether an entry is one of the task in whose body a place directly is (RM 9.5.2(14), 9.9(4)): no other task that is visible there has its
-- number in that cell
abbrev pub is_own : named_entry.Entry → Place → Bool
is_own e place = is_cell_of e.owner (innermost place).own

-- an object is named in its own body
abbrev pub is_inside : Access → Bool
is_inside Outside = false
is_inside Inside = true
is_inside InFunction = true

-- and in the body of one of its functions, where it may not be changed (RM 9.5.1(2))
abbrev pub is_in_function : Access → Bool
is_in_function Outside = false
is_in_function Inside = false
is_in_function InFunction = true

abbrev pub is_around : Owner → Bool
is_around (owner.Object x) = is_inside x.access
is_around _ = false

-- whether the calls of an entry may be counted at a place (RM 9.9(4)): of a protected one everywhere in the object's body
abbrev pub is_countable : named_entry.Entry → Place → Bool
is_countable e place = is_around e.owner || is_own e place
