-- Declarations of variables, constants, arrays and exceptions, of tasks as variables, and of procedures' names (RM 3.1, 3.3.1, 3.6, 6.1,
-- 9.1, 11.1).
use Rattle.std.specs.Prelude.{ℕ, ◌+◌, ℤ, Bool, true, false, List, [], ◌∷◌, ◌++◌, length, map, Option, Some, None, pos, if◌then◌else◌}
use Rattle.aud_text.specs.declared.place.Pos.{Pos}
use Rattle.aud_syntax.specs.declared.tree.Ident.{Ident}
use Rattle.aud_syntax.specs.declared.tree.Bound.{Bound}
use Rattle.aud_syntax.specs.Plain.{Expression, MaybeExpression, no_expression, an_expression}
use Rattle.aud_typed.specs.declared.program.Subtype.{Subtype}
use Rattle.aud_typed.specs.declared.program.Subtype.TheVariants.{Integer, Natural, Positive, Boolean}
use Rattle.aud_typed.specs.declared.program.Exception.TheVariants as exception_of
use Rattle.aud_typed.specs.Tree as tree
use Rattle.aud_fault.specs.declared.fault.Fault.{Fault}
use Rattle.aud_names.specs.declared.names.Meaning.{Meaning}
use Rattle.aud_names.specs.declared.names.Meaning.TheVariants.{ScalarType, Exception, Procedure, TaskType}
use Rattle.aud_names.specs.declared.names.Meaning.TheVariants as meaning
use Rattle.aud_names.specs.declared.array.Kind.{Kind}
use Rattle.aud_names.specs.declared.array.Kind.TheVariants.{Scalar, Task}
use Rattle.aud_names.specs.Names.{Region, Place, visible, is_declared, innermost, in_region, hiding}
use Rattle.aud_names.specs.Arrays.{bound_value, bound_faults, or_zero, row_between, task_row_between, new_meaning, cells_of}
use Rattle.aud_names.specs.Rules.{base_asked, name_not_declared, declared_once, right_type}
use Rattle.aud_names.specs.Resolution.{value_faults}
use Rattle.aud_check_bodies.specs.Tables.{Tables, Outcome}
use Rattle.aud_typing.specs.Expressions.{Typed, number, boolean, checked_expression, expression_at, base_of}

-- the place after declarations, and their elaborations (RM 3.11)
pub record Declared : Type 0 where
  pub place : Place
  pub elaborations : List tree.Statement

-- what a declaration of objects gives, which leaves the tables as they are
pub record Objects : Type 0 where
  pub faults : List Fault
  pub made : Declared

abbrev pub leaving : Tables → Objects → Outcome Declared
leaving t o = record { faults = o.faults; tables = t; made = o.made }

-- a subtype mark must be that of a subtype (RM 3.2.2); task types stand in declarations of variables alone (profile)
abbrev pub subtype_faults : Option Meaning → Pos → List Fault
subtype_faults None at = name_not_declared at
subtype_faults (Some (ScalarType s)) at = []
subtype_faults (Some m) at = value_faults m at

abbrev pub subtype_meant : Option Meaning → Option Subtype
subtype_meant (Some (ScalarType s)) = Some s
subtype_meant _ = None

-- a value must be of the type of the subtype that its place asks (RM 3.3.1(4), 5.2, 6.4.1(3))
abbrev pub given_faults : Expression → Option Subtype → Place → List Fault
given_faults e s place = (checked_expression e place).faults ++ right_type (base_asked s) (expression_at e) (base_of (checked_expression e place).typed)

abbrev pub initial_faults : MaybeExpression → Option Subtype → Place → List Fault
initial_faults no_expression s place = []
initial_faults (an_expression e) s place = given_faults e s place

-- a variable without an initial value starts with 0 or False, or 1 where it is Positive (RM 3.3.1(21): any value; profile choice)
abbrev pub default_value : Subtype → tree.ValueExpression
default_value Integer = tree.whole Integer (tree.number (pos 0))
default_value Natural = tree.whole Natural (tree.number (pos 0))
default_value Positive = tree.whole Positive (tree.number (pos 1))
default_value Boolean = tree.boolean (tree.truth false)

-- a value for a place that asks for a subtype: a number must be in its range (RM 4.6(51)); what stands for faulty values has no meaning
abbrev pub value_for : Subtype → Typed → tree.ValueExpression
value_for s (number e) = tree.whole s e
value_for s (boolean e) = tree.boolean e
value_for s _ = default_value s

-- an Integer; what stands for another value has no meaning
abbrev pub integer_of : Typed → tree.IntegerExpression
integer_of (number e) = e
integer_of _ = tree.number (pos 0)

abbrev pub known : Option Subtype → Subtype
known None = Integer
known (Some s) = s

abbrev pub given_value : Expression → Option Subtype → Place → tree.ValueExpression
given_value e s place = value_for (known s) (checked_expression e place).typed

abbrev pub initial_value : MaybeExpression → Option Subtype → Place → tree.ValueExpression
initial_value no_expression s place = default_value (known s)
initial_value (an_expression e) s place = given_value e s place

-- one symbol more, with cells of its own
abbrev pub with_symbol : List ℕ → Kind → Region → Region
with_symbol name kind r = record r { symbols = r.symbols ++ (name, new_meaning kind r.level r.cells) ∷ []; cells = r.cells + cells_of kind; names = r.names + 1 }

-- a variable or constant
abbrev pub scalar : Option Subtype → Bool → Kind
scalar s is_constant = Scalar (record { subtype = s; constant = is_constant })

abbrev pub with_object : List ℕ → Option Subtype → Bool → Region → Region
with_object name s is_constant r = with_symbol name (scalar s is_constant) r

-- the region after one name more; a name that it has already stays what it was
abbrev pub with_name : Ident → Kind → Region → Region
with_name i kind r = if is_declared i.name r.symbols then r else with_symbol i.name kind r

-- names are declared one after the other
abbrev pub declared_names : List Ident → Kind → Region → Region
declared_names [] kind r = r
declared_names (i ∷ is) kind r = declared_names is kind (with_name i kind r)

-- each of them once
abbrev pub twice_faults : List Ident → Kind → Region → List Fault
twice_faults [] kind r = []
twice_faults (i ∷ is) kind r = declared_once i.name i.at r.symbols ++ twice_faults is kind (with_name i kind r)

-- the subtype that a mark names within a declaration of these names, which are hidden from all visibility (RM 8.3(16))
abbrev pub marked : Ident → List Ident → Place → Option Meaning
marked mark identifiers place = visible mark.name (hiding identifiers place)

-- Variables and constants (RM 3.3.1).

-- the names of a declaration, of which the last one is the last name of its frame, each with a value of its own (RM 3.3.1(7))
abbrev pub elaboration : Pos → Region → tree.ValueExpression → tree.Statement
elaboration at r e = tree.declare at r.names e

abbrev pub checked_object : List Ident → Pos → Ident → MaybeExpression → Bool → Place → Objects
checked_object identifiers at subtype initial is_constant place =
    let inner = hiding identifiers place in
    let s = subtype_meant (marked subtype identifiers place) in
    let after = declared_names identifiers (scalar s is_constant) (innermost place) in
    record {
      faults = subtype_faults (marked subtype identifiers place) subtype.at ++ (initial_faults initial s inner ++ twice_faults identifiers (scalar s is_constant) (innermost place));
      made = record {
        place = in_region after place;
        elaborations = elaboration at after (initial_value initial s inner) ∷ [];
      };
    }

-- Arrays (RM 3.6).

abbrev pub arrays_kind : Bound → Bound → Option Subtype → Kind
arrays_kind low high s = row_between (or_zero (bound_value low)) (or_zero (bound_value high)) s

-- each of them is elaborated by itself
abbrev pub array_elaborations : List Ident → Pos → Option Subtype → Kind → List tree.Statement
array_elaborations identifiers at s kind = map (λ i. tree.declare_array at (known s) (cells_of kind)) identifiers

abbrev pub checked_array : List Ident → Pos → Bound → Bound → Ident → Place → Objects
checked_array identifiers at low high subtype place =
    let s = subtype_meant (marked subtype identifiers place) in
    let kind = arrays_kind low high s in
    record {
      faults = bound_faults low ++ (bound_faults high ++ (subtype_faults (marked subtype identifiers place) subtype.at ++ twice_faults identifiers kind (innermost place)));
      made = record {
        place = in_region (declared_names identifiers kind (innermost place)) place;
        elaborations = array_elaborations identifiers at s kind;
      };
    }

-- Tasks as variables, and arrays of them (RM 9.1, 3.6).

-- the type of tasks that a mark names
abbrev pub task_type_meant : Option Meaning → Option ℕ
task_type_meant (Some (TaskType n)) = Some n
task_type_meant _ = None

-- which stands in a declaration of variables without an initial value
abbrev pub tasks_meant : Option Meaning → MaybeExpression → Bool → Option ℕ
tasks_meant m no_expression false = task_type_meant m
tasks_meant m no_expression true = None
tasks_meant m (an_expression e) is_constant = None

-- the tasks of each name are created by themselves
abbrev pub task_elaborations : List Ident → Pos → ℕ → ℤ → Bool → ℕ → List tree.Statement
task_elaborations identifiers at task_type low is_array count =
    map (λ i. tree.declare_tasks at (record { task_type = task_type; name = i.name; low = low; is_array = is_array; length = count })) identifiers

abbrev pub checked_tasks : List Ident → Pos → ℕ → Place → Objects
checked_tasks identifiers at task_type place = record {
  faults = twice_faults identifiers (Task task_type) (innermost place);
  made = record {
    place = in_region (declared_names identifiers (Task task_type) (innermost place)) place;
    elaborations = task_elaborations identifiers at task_type (pos 0) false 1;
  };
}

abbrev pub tasks_kind : Bound → Bound → ℕ → Kind
tasks_kind low high task_type = task_row_between (or_zero (bound_value low)) (or_zero (bound_value high)) task_type

abbrev pub checked_task_rows : List Ident → Pos → Bound → Bound → ℕ → Place → Objects
checked_task_rows identifiers at low high task_type place =
    let kind = tasks_kind low high task_type in
    record {
      faults = bound_faults low ++ (bound_faults high ++ twice_faults identifiers kind (innermost place));
      made = record {
        place = in_region (declared_names identifiers kind (innermost place)) place;
        elaborations = task_elaborations identifiers at task_type (or_zero (bound_value low)) true (cells_of kind);
      };
    }

-- What a declaration of objects or arrays declares is told by its mark.

abbrev pub objects_as : Option ℕ → List Ident → Pos → Ident → MaybeExpression → Bool → Place → Objects
objects_as None identifiers at mark initial is_constant place = checked_object identifiers at mark initial is_constant place
objects_as (Some task_type) identifiers at mark initial is_constant place = checked_tasks identifiers at task_type place

abbrev pub checked_objects : List Ident → Pos → Ident → MaybeExpression → Bool → Place → Objects
checked_objects identifiers at mark initial is_constant place =
    objects_as (tasks_meant (marked mark identifiers place) initial is_constant) identifiers at mark initial is_constant place

abbrev pub arrays_as : Option ℕ → List Ident → Pos → Bound → Bound → Ident → Place → Objects
arrays_as None identifiers at low high mark place = checked_array identifiers at low high mark place
arrays_as (Some task_type) identifiers at low high mark place = checked_task_rows identifiers at low high task_type place

abbrev pub checked_arrays : List Ident → Pos → Bound → Bound → Ident → Place → Objects
checked_arrays identifiers at low high mark place = arrays_as (task_type_meant (marked mark identifiers place)) identifiers at low high mark place

-- Exceptions (RM 11.1).

-- a region, and the names of all exceptions that are declared so far, by their numbers
pub record Exceptions : Type 0 where
  pub region : Region
  pub names : List (List ℕ)

abbrev pub exception_symbol : List ℕ → Exceptions → Exceptions
exception_symbol name x = record {
  region = record x.region { symbols = x.region.symbols ++ (name, Exception (exception_of.Declared (length x.names))) ∷ [] };
  names = x.names ++ name ∷ [];
}

abbrev pub with_exception : Ident → Exceptions → Exceptions
with_exception i x = if is_declared i.name x.region.symbols then x else exception_symbol i.name x

abbrev pub declared_exceptions : List Ident → Exceptions → Exceptions
declared_exceptions [] x = x
declared_exceptions (i ∷ is) x = declared_exceptions is (with_exception i x)

abbrev pub exceptions_twice : List Ident → Exceptions → List Fault
exceptions_twice [] x = []
exceptions_twice (i ∷ is) x = declared_once i.name i.at x.region.symbols ++ exceptions_twice is (with_exception i x)

abbrev pub exceptions_in : Place → List (List ℕ) → Exceptions
exceptions_in place xs = record { region = innermost place; names = xs }

abbrev pub declares_only : Region → Place → Declared
declares_only r place = record { place = in_region r place; elaborations = [] }

abbrev pub checked_exceptions : List Ident → Place → Tables → Outcome Declared
checked_exceptions identifiers place t =
    let after = declared_exceptions identifiers (exceptions_in place t.exceptions) in
    record {
      faults = exceptions_twice identifiers (exceptions_in place t.exceptions);
      tables = record t { exceptions = after.names };
      made = declares_only after.region place;
    }

-- Procedures (RM 6.1).

-- the region after the name of a procedure whose unit has this number; a name that it has already stays what it was
abbrev pub with_procedure : Ident → ℕ → Region → Region
with_procedure i unit r = if is_declared i.name r.symbols then r else record r { symbols = r.symbols ++ (i.name, Procedure unit) ∷ [] }

-- Declarative parts (RM 3.11).

abbrev pub nothing_declared : Place → Declared
nothing_declared place = record { place = place; elaborations = [] }

-- the declarations are elaborated in their order (RM 3.11(7))
abbrev pub joined_declared : Declared → Declared → Declared
joined_declared d e = record { place = e.place; elaborations = d.elaborations ++ e.elaborations }
