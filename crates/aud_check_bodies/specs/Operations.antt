-- The bodies of a protected object's operations and entries (RM 9.4(8), 9.5.2).
use Rattle.std.specs.Prelude.{ℕ, Bool, true, false, ◌&&◌, List, [], ◌++◌, Option, Some, None, is_some, if◌then◌else◌}
use Rattle.aud_text.specs.declared.place.Pos.{Pos}
use Rattle.aud_syntax.specs.declared.tree.Ident.{Ident}
use Rattle.aud_syntax.specs.Plain.{Expression, Formal}
use Rattle.aud_typed.specs.declared.program.Subtype.{Subtype}
use Rattle.aud_typed.specs.Tree as tree
use Rattle.aud_fault.specs.declared.fault.Fault.{Fault}
use Rattle.aud_names.specs.declared.awaited.AwaitedPart.{AwaitedPart}
use Rattle.aud_names.specs.declared.names.Access.TheVariants.{Inside, InFunction}
use Rattle.aud_names.specs.declared.names.NamedParameter.{NamedParameter}
use Rattle.aud_names.specs.declared.names.Subprogram.TheVariants.{Procedure, Function}
use Rattle.aud_names.specs.declared.parts.ObjectPart.{ObjectPart}
use Rattle.aud_names.specs.declared.parts.Part.{Part}
use Rattle.aud_names.specs.declared.parts.PartKind.{PartKind}
use Rattle.aud_names.specs.declared.parts.PartKind.TheVariants as part
use Rattle.aud_names.specs.Names.{Region, Place, place_in, innermost}
use Rattle.aud_names.specs.Objects.{part_in, object_place, barrier_place, first_with, without_first, is_unit}
use Rattle.aud_names.specs.Rules.{no_matching_body, agree, conform, formals_conform}
use Rattle.aud_typing.specs.Conditions.{condition_faults, condition}
use Rattle.aud_check_bodies.specs.declared.within.Leaves.{Leaves}
use Rattle.aud_check_bodies.specs.declared.within.Leaves.TheVariants as leaves
use Rattle.aud_check_bodies.specs.Tables.{Tables, Outcome, fine, after, and_then, next_unit, unit_kept, with_unit, profile_of, entry_profile_of, with_barrier}
use Rattle.aud_check_bodies.specs.Declarations.{subtype_faults, subtype_meant}
use Rattle.aud_check_bodies.specs.Formals.{body_formals}
use Rattle.aud_check_bodies.specs.Objects.{result_meant}

-- of what a body is: of an entry with this barrier, of a procedure, or of a function whose value has the subtype of this mark
pub data Head : Type 0 where
  of_entry : Expression → Head
  of_procedure : Head
  of_function : Ident → Head

abbrev pub is_function_head : Head → Bool
is_function_head (of_function mark) = true
is_function_head _ = false

-- where the bodies of an object stand: in a function the object may not be changed
pub record BodyPlaces : Type 0 where
  pub object : ℕ
  pub parts : List ObjectPart
  pub inside : Place
  pub in_function : Place

-- of an object of this name and number, which is declared at a place
abbrev pub body_places : List ℕ → ℕ → Place → BodyPlaces
body_places name object place = record {
  object = object;
  parts = (innermost place).parts;
  inside = object_place name object Inside place;
  in_function = object_place name object InFunction place;
}

abbrev pub operation_place : Head → BodyPlaces → Place
operation_place (of_function mark) o = o.in_function
operation_place _ o = o.inside

-- the subtype of a function's value, which is named behind these formals, in a region within these
abbrev pub head_result : Head → Region → List Region → Option Subtype
head_result (of_function mark) formals outer = subtype_meant (result_meant mark formals outer)
head_result _ formals outer = None

abbrev pub result_faults : Head → Region → List Region → List Fault
result_faults (of_function mark) formals outer = subtype_faults (result_meant mark formals outer) mark.at
result_faults _ formals outer = []

-- what a return leaves
abbrev pub head_leaves : Head → Option Subtype → Leaves
head_leaves (of_function mark) s = leaves.Function s
head_leaves _ s = leaves.Procedure

-- what is known of a body before its declarations: its formals, and the subtype of its value
pub record Shape : Type 0 where
  pub region : Region
  pub profile : List NamedParameter
  pub returned : Option Subtype

abbrev pub shape_of : Head → List Formal → Place → Shape
shape_of head fs here =
    let f = body_formals fs here in
    record { region = f.region; profile = f.profile; returned = head_result head f.region here.regions }

abbrev pub shape_faults : Head → List Formal → Place → List Fault
shape_faults head fs here =
    let f = body_formals fs here in
    f.faults ++ result_faults head f.region here.regions

-- Which operation or entry it is (RM 3.11.1).

-- the declaration is of the body's kind
abbrev pub same_kind : Head → PartKind → Bool
same_kind (of_entry barrier) (part.Entry number unit) = true
same_kind of_procedure (part.Operation unit Procedure) = true
same_kind (of_function mark) (part.Operation unit (Function s)) = true
same_kind _ _ = false

-- the unit of an operation or entry
abbrev pub part_unit : PartKind → ℕ
part_unit (part.Entry number unit) = unit
part_unit (part.Operation unit subprogram) = unit
part_unit (part.Component s) = 0

abbrev pub if_awaited : Head → List AwaitedPart → Option Part → Option PartKind
if_awaited head awaited None = None
if_awaited head awaited (Some p) = if same_kind head p.kind && is_some (first_with (is_unit (part_unit p.kind)) awaited) then Some p.kind else None

abbrev pub part_awaited : Head → Ident → BodyPlaces → List AwaitedPart → Option PartKind
part_awaited head i o awaited = if_awaited head awaited (part_in i.name o.object o.parts)

abbrev pub still_awaited : Option PartKind → List AwaitedPart → List AwaitedPart
still_awaited None awaited = awaited
still_awaited (Some kind) awaited = without_first (is_unit (part_unit kind)) awaited

-- what calls see of it
abbrev pub part_profile : PartKind → Tables → List NamedParameter
part_profile (part.Entry number unit) t = entry_profile_of number t
part_profile (part.Operation unit subprogram) t = profile_of unit t
part_profile (part.Component s) t = []

abbrev pub same_result : PartKind → Option Subtype → Bool
same_result (part.Operation unit (Function s)) returned = agree s returned
same_result _ returned = true

abbrev pub operation_matched : Option PartKind → Pos → List NamedParameter → Option Subtype → Tables → List Fault
operation_matched None at given returned t = no_matching_body at
operation_matched (Some kind) at given returned t = formals_conform (conform (part_profile kind t) given && same_result kind returned) at

-- another body is checked as that of an operation of its own
abbrev pub operation_unit : Option PartKind → Tables → ℕ
operation_unit None t = next_unit t
operation_unit (Some kind) t = part_unit kind

abbrev pub operation_kept : Option PartKind → Tables → Tables
operation_kept None t = unit_kept [] t
operation_kept (Some kind) t = t

-- Barriers are of type Boolean (RM 9.5.2(7)); these are the formals of the entry.

abbrev pub barrier_faults : Head → Region → Place → List Fault
barrier_faults (of_entry barrier) formals here = condition_faults barrier (barrier_place formals here)
barrier_faults _ formals here = []

abbrev pub barrier_of : Head → Region → Place → Option tree.BooleanExpression
barrier_of (of_entry barrier) formals here = Some (condition barrier (barrier_place formals here))
barrier_of _ formals here = None

abbrev pub barrier_kept : Option PartKind → Option tree.BooleanExpression → Tables → Tables
barrier_kept (Some (part.Entry number unit)) (Some b) t = with_barrier number b t
barrier_kept _ _ t = t

-- A body, which is checked in its own place; the operations that wait for theirs still.

abbrev pub operation_tables : Head → Option PartKind → Region → Place → Tables → Tables
operation_tables head found formals here t = barrier_kept found (barrier_of head formals here) (operation_kept found t)

abbrev pub operation_faults : Head → Option PartKind → Ident → List Formal → Place → Tables → List Fault
operation_faults head found i fs here t =
    let s = shape_of head fs here in
    shape_faults head fs here ++ (operation_matched found i.at s.profile s.returned t ++ barrier_faults head s.region here)

abbrev pub operation_of : Head → Ident → List Formal → (Place → Tables → Outcome tree.UnitBody) → BodyPlaces → List AwaitedPart → Tables → Outcome (List AwaitedPart)
operation_of head i fs checked o awaited t =
    let here = operation_place head o in
    let region = (shape_of head fs here).region in
    let found = part_awaited head i o awaited in
    after (operation_faults head found i fs here t)
    (and_then (checked (place_in region here.regions) (operation_tables head found region here t)) (λ u t1.
    fine (still_awaited found awaited) (with_unit (operation_unit found t) u t1)))
