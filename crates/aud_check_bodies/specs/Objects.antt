-- Declarations of protected objects, and what they declare (RM 9.4).
use Rattle.std.specs.Prelude.{ℕ, Bool, true, false, List, [], ◌∷◌, ◌++◌, map, Option, Some, None, if◌then◌else◌}
use Rattle.aud_text.specs.declared.place.Pos.{Pos}
use Rattle.aud_syntax.specs.declared.tree.Ident.{Ident}
use Rattle.aud_syntax.specs.Plain.{MaybeExpression, Formal, Operation, entry_operation, procedure_operation, function_operation, PrivateItem, private_operation, components}
use Rattle.aud_typed.specs.declared.program.Subtype.{Subtype}
use Rattle.aud_typed.specs.Tree as tree
use Rattle.aud_fault.specs.declared.fault.Fault.{Fault}
use Rattle.aud_names.specs.declared.awaited.AwaitedObject.{AwaitedObject}
use Rattle.aud_names.specs.declared.awaited.AwaitedPart.{AwaitedPart}
use Rattle.aud_names.specs.declared.names.Access.TheVariants.{Outside}
use Rattle.aud_names.specs.declared.names.Instance.{Instance}
use Rattle.aud_names.specs.declared.names.Meaning.{Meaning}
use Rattle.aud_names.specs.declared.names.NamedParameter.{NamedParameter}
use Rattle.aud_names.specs.declared.names.Subprogram.TheVariants.{Procedure, Function}
use Rattle.aud_names.specs.declared.array.Kind.TheVariants.{Protected}
use Rattle.aud_names.specs.declared.parts.ObjectPart.{ObjectPart}
use Rattle.aud_names.specs.declared.parts.PartKind.{PartKind}
use Rattle.aud_names.specs.declared.parts.PartKind.TheVariants as part
use Rattle.aud_names.specs.Names.{Region, Place, place_in, innermost, in_region, body_frame, hiding, is_declared, visible}
use Rattle.aud_names.specs.Objects.{own_instance, body_instance, with_part, object_frame, around_object, awaited_object, object_come}
use Rattle.aud_names.specs.Rules.{declared_once, right_name_at_end, no_matching_body}
use Rattle.aud_check_bodies.specs.Tables.{Tables, Outcome, fine, after, and_then, next_unit, unit_kept, next_entry, protected_entry_kept, next_object, object_kept}
use Rattle.aud_check_bodies.specs.Declarations.{Declared, nothing_declared, subtype_faults, subtype_meant, marked, initial_faults, initial_value, with_symbol}
use Rattle.aud_check_bodies.specs.Formals.{Formals, checked_formals}
use Rattle.aud_check_bodies.specs.Regions.{shown_names}

-- what an object has declared so far: its own region (RM 8.1); a region around that, in which its name means the object, and that is found
-- behind its name; the initial values of its components; the numbers of its entries; and the tables
pub record ObjectDeclared : Type 0 where
  pub own : Region
  pub around : Region
  pub values : List tree.ValueExpression
  pub entries : List ℕ
  pub tables : Tables

-- within the declaration the object is named from outside its body
abbrev pub declared_instance : ℕ → ObjectDeclared → Instance
declared_instance object x = own_instance x.own.level object Outside

-- the regions around the object's own, within these
abbrev pub further_out : ObjectDeclared → List Region → List Region
further_out x outer = x.around ∷ outer

abbrev pub object_part : ℕ → Bool → Ident → PartKind → ObjectPart
object_part object is_private i kind = record { object = object; name = i.name; at = i.at; part = record { is_private = is_private; kind = kind } }

abbrev pub with_object_parts : List ObjectPart → Region → Region
with_object_parts ps r = record r { parts = r.parts ++ ps }

-- Operations (RM 9.4(5)).

-- their formals are seen by no more than themselves, and the scope of an operation begins behind them and its result (RM 8.2(2))
abbrev pub operation_formals : List Formal → Region → List Region → Formals
operation_formals fs own rest = checked_formals fs (body_frame (place_in own rest)) (own ∷ rest)

-- the subtype of a function's value, which is named behind its formals
abbrev pub result_meant : Ident → Region → List Region → Option Meaning
result_meant mark formals outer = visible mark.name (place_in formals outer)

-- the formals of a function in this region, and the subtype of its value
abbrev pub signature_faults : List Formal → Ident → Region → List Region → List Fault
signature_faults fs mark r outer =
    let f = checked_formals fs r outer in
    f.faults ++ subtype_faults (result_meant mark f.region outer) mark.at

abbrev pub signature : List Formal → Ident → Region → List Region → List NamedParameter × Option Subtype
signature fs mark r outer =
    let f = checked_formals fs r outer in
    (f.profile, subtype_meant (result_meant mark f.region outer))

abbrev pub function_signature : List Formal → Ident → Region → List Region → List NamedParameter × Option Subtype
function_signature fs mark own rest = signature fs mark (body_frame (place_in own rest)) (own ∷ rest)

abbrev pub with_operation : ℕ → Bool → Ident → PartKind → ObjectDeclared → ObjectDeclared
with_operation object is_private i kind x = record x {
  own = with_part i.name kind (declared_instance object x) x.own;
  around = with_object_parts (object_part object is_private i kind ∷ []) x.around;
}

abbrev pub with_entry : ℕ → Bool → Ident → List NamedParameter → ObjectDeclared → ObjectDeclared
with_entry object is_private i profile x = record (with_operation object is_private i (part.Entry (next_entry x.tables) (next_unit x.tables)) x) {
  entries = x.entries ++ next_entry x.tables ∷ [];
  tables = protected_entry_kept i.name profile x.tables;
}

abbrev pub with_procedure : ℕ → Bool → Ident → List NamedParameter → ObjectDeclared → ObjectDeclared
with_procedure object is_private i profile x =
    record (with_operation object is_private i (part.Operation (next_unit x.tables) Procedure) x) { tables = unit_kept profile x.tables }

abbrev pub with_function : ℕ → Bool → Ident → List NamedParameter × Option Subtype → ObjectDeclared → ObjectDeclared
with_function object is_private i s x =
    record (with_operation object is_private i (part.Operation (next_unit x.tables) (Function s.1)) x) { tables = unit_kept s.0 x.tables }

abbrev pub one_operation : ℕ → Bool → Operation → List Region → ObjectDeclared → ObjectDeclared
one_operation object is_private (entry_operation e) outer x = with_entry object is_private e.name (operation_formals e.formals x.own (further_out x outer)).profile x
one_operation object is_private (procedure_operation i fs) outer x = with_procedure object is_private i (operation_formals fs x.own (further_out x outer)).profile x
one_operation object is_private (function_operation i fs mark) outer x =
    with_function object is_private i (function_signature fs mark x.own (further_out x outer)) x

-- each name is declared once
abbrev pub head_faults : Ident → List Formal → Region → List Region → List Fault
head_faults i fs own rest = declared_once i.name i.at own.symbols ++ (operation_formals fs own rest).faults

abbrev pub function_faults : Ident → List Formal → Ident → Region → List Region → List Fault
function_faults i fs mark own rest = declared_once i.name i.at own.symbols ++ signature_faults fs mark (body_frame (place_in own rest)) (own ∷ rest)

abbrev pub operation_faults : Operation → List Region → ObjectDeclared → List Fault
operation_faults (entry_operation e) outer x = head_faults e.name e.formals x.own (further_out x outer)
operation_faults (procedure_operation i fs) outer x = head_faults i fs x.own (further_out x outer)
operation_faults (function_operation i fs mark) outer x = function_faults i fs mark x.own (further_out x outer)

abbrev pub declared_operations : ℕ → List Operation → List Region → ObjectDeclared → ObjectDeclared
declared_operations object [] outer x = x
declared_operations object (o ∷ os) outer x = declared_operations object os outer (one_operation object false o outer x)

abbrev pub operations_faults : ℕ → List Operation → List Region → ObjectDeclared → List Fault
operations_faults object [] outer x = []
operations_faults object (o ∷ os) outer x = operation_faults o outer x ++ operations_faults object os outer (one_operation object false o outer x)

-- Components (RM 9.4(6)).

-- names are declared one after the other
abbrev pub with_all_parts : List Ident → PartKind → Instance → Region → Region
with_all_parts [] kind o r = r
with_all_parts (i ∷ is) kind o r = with_all_parts is kind o (with_part i.name kind o r)

-- each of them once
abbrev pub parts_twice : List Ident → PartKind → Instance → Region → List Fault
parts_twice [] kind o r = []
parts_twice (i ∷ is) kind o r = declared_once i.name i.at r.symbols ++ parts_twice is kind o (with_part i.name kind o r)

-- what a mark names within their declaration
abbrev pub component_meant : List Ident → Ident → Region → List Region → Option Meaning
component_meant names mark own rest = marked mark names (place_in own rest)

abbrev pub component_values_faults : List Ident → Ident → MaybeExpression → Region → List Region → List Fault
component_values_faults names mark initial own rest =
    subtype_faults (component_meant names mark own rest) mark.at
    ++ initial_faults initial (subtype_meant (component_meant names mark own rest)) (hiding names (place_in own rest))

-- each has a value of its own (RM 3.3.1(7))
abbrev pub component_values : List Ident → Ident → MaybeExpression → Region → List Region → List tree.ValueExpression
component_values names mark initial own rest =
    map (λ i. initial_value initial (subtype_meant (component_meant names mark own rest)) (hiding names (place_in own rest))) names

abbrev pub component_parts : ℕ → List Ident → PartKind → List ObjectPart
component_parts object names kind = map (λ i. object_part object true i kind) names

abbrev pub with_components : ℕ → List Ident → PartKind → List tree.ValueExpression → ObjectDeclared → ObjectDeclared
with_components object names kind values x = record x {
  own = with_all_parts names kind (declared_instance object x) x.own;
  around = with_object_parts (component_parts object names kind) x.around;
  values = x.values ++ values;
}

abbrev pub component_kind : List Ident → Ident → ObjectDeclared → List Region → PartKind
component_kind names mark x outer = part.Component (subtype_meant (component_meant names mark x.own (further_out x outer)))

abbrev pub declared_components : ℕ → List Ident → Ident → MaybeExpression → List Region → ObjectDeclared → ObjectDeclared
declared_components object names mark initial outer x =
    with_components object names (component_kind names mark x outer) (component_values names mark initial x.own (further_out x outer)) x

abbrev pub components_faults : ℕ → List Ident → Ident → MaybeExpression → List Region → ObjectDeclared → List Fault
components_faults object names mark initial outer x =
    component_values_faults names mark initial x.own (further_out x outer) ++ parts_twice names (component_kind names mark x outer) (declared_instance object x) x.own

abbrev pub one_item : ℕ → PrivateItem → List Region → ObjectDeclared → ObjectDeclared
one_item object (private_operation o) outer x = one_operation object true o outer x
one_item object (components first others mark initial) outer x = declared_components object (first ∷ others) mark initial outer x

abbrev pub item_faults : ℕ → PrivateItem → List Region → ObjectDeclared → List Fault
item_faults object (private_operation o) outer x = operation_faults o outer x
item_faults object (components first others mark initial) outer x = components_faults object (first ∷ others) mark initial outer x

abbrev pub declared_items : ℕ → List PrivateItem → List Region → ObjectDeclared → ObjectDeclared
declared_items object [] outer x = x
declared_items object (i ∷ is) outer x = declared_items object is outer (one_item object i outer x)

abbrev pub items_faults : ℕ → List PrivateItem → List Region → ObjectDeclared → List Fault
items_faults object [] outer x = []
items_faults object (i ∷ is) outer x = item_faults object i outer x ++ items_faults object is outer (one_item object i outer x)

-- what stands behind `private`, if that is written
abbrev pub hidden_items : Option (List PrivateItem) → List PrivateItem
hidden_items None = []
hidden_items (Some is) = is

-- Objects.

-- its body is still to come
abbrev pub awaiting_object : Ident → ℕ → Region → Region
awaiting_object i number r = record r { objects = r.objects ++ (record { name = i.name; object = number; at = i.at }) ∷ [] }

-- the region after the name of an object, which has a cell for the object's number; a name that it has already stays what it was
abbrev pub with_object : Ident → ℕ → Region → Region
with_object i number r = if is_declared i.name r.symbols then r else awaiting_object i number (with_symbol i.name (Protected number) r)

-- nothing of it is declared yet; its name is visible (RM 8.3(18))
abbrev pub no_parts : List ℕ → Place → Tables → ObjectDeclared
no_parts name place t = record {
  own = object_frame place;
  around = around_object name (body_instance (next_object t) Outside place) place;
  values = [];
  entries = [];
  tables = t;
}

-- all that it declares
abbrev pub parts_declared : List ℕ → List Operation → Option (List PrivateItem) → Place → Tables → ObjectDeclared
parts_declared name operations hidden place t =
    declared_items (next_object t) (hidden_items hidden) place.regions (declared_operations (next_object t) operations place.regions (no_parts name place t))

abbrev pub parts_faults : List ℕ → List Operation → Option (List PrivateItem) → Place → Tables → List Fault
parts_faults name operations hidden place t =
    operations_faults (next_object t) operations place.regions (no_parts name place t)
    ++ items_faults (next_object t) (hidden_items hidden) place.regions (declared_operations (next_object t) operations place.regions (no_parts name place t))

-- what is found behind its name is found in the region that declares it, and the object has a place in the table behind those of its entries
abbrev pub object_of_parts : ObjectDeclared → Pos → Ident → ℕ → Place → Outcome Declared
object_of_parts x at i number place = fine (record {
  place = in_region (with_object_parts x.around.parts (with_object i number (innermost place))) place;
  elaborations = tree.declare_object at number x.values ∷ [];
}) (object_kept i.name x.own.level (shown_names x.own.symbols) x.entries x.tables)

abbrev pub checked_protected : Pos → Ident → List Operation → Option (List PrivateItem) → Option Ident → Place → Tables → Outcome Declared
checked_protected at i operations hidden last place t =
    after (declared_once i.name i.at (innermost place).symbols ++ (parts_faults i.name operations hidden place t ++ right_name_at_end i.name last))
    (object_of_parts (parts_declared i.name operations hidden place t) at i (next_object t) place)

-- Bodies (RM 3.11.1).

-- what waits for a body still has none
abbrev pub without_object_bodies : List AwaitedObject → List Fault
without_object_bodies [] = []
without_object_bodies (o ∷ others) = no_matching_body o.at ++ without_object_bodies others

abbrev pub without_part_bodies : List AwaitedPart → List Fault
without_part_bodies [] = []
without_part_bodies (a ∷ others) = no_matching_body a.at ++ without_part_bodies others

-- the object whose body has this name, and the place behind it
abbrev pub object_awaited : Ident → Place → Option AwaitedObject
object_awaited i place = awaited_object i.name (innermost place).objects

abbrev pub object_behind : Ident → Place → Place
object_behind i place = in_region (object_come i.name (innermost place)) place

-- another body is checked as that of an object of its own, which declares nothing
abbrev pub object_matched : Option AwaitedObject → Pos → List Fault
object_matched None at = no_matching_body at
object_matched (Some o) at = []

abbrev pub body_object : Option AwaitedObject → Tables → ℕ
body_object None t = next_object t
body_object (Some o) t = o.object

abbrev pub object_tables : Option AwaitedObject → Ident → Tables → Tables
object_tables None i t = object_kept i.name 0 [] [] t
object_tables (Some o) i t = t

-- the bodies of its operations leave those that have none
abbrev pub object_body_of : Ident → Option AwaitedObject → Option Ident → (ℕ → Tables → Outcome (List AwaitedPart)) → Place → Tables → Outcome Declared
object_body_of i found last checked here t =
    after (object_matched found i.at)
    (and_then (checked (body_object found t) (object_tables found i t)) (λ still t1. after (without_part_bodies still ++ right_name_at_end i.name last) (fine (nothing_declared here) t1)))
