-- In a typed program tasks are declared by declarative parts alone.
use Rattle.std.proofs.Common.{ℕ, zero, suc, ◌+◌, List, [], ◌∷◌, ◌++◌, map, Bool, true, false, Option, Some, None, refl, ℤ}
use Rattle.std.specs.Prelude.{pos, slice_set, if◌then◌else◌}
use Rattle.aud_text.specs.declared.place.Pos.{Pos}
use Rattle.aud_syntax.specs.declared.tree.Ident.{Ident}
use Rattle.aud_syntax.specs.declared.tree.Bound.{Bound}
use Rattle.aud_syntax.specs.Plain as plain
use Rattle.aud_syntax.specs.Plain.{EntryDeclaration, Accept, accept, Doing, without_do, with_do, Alternative, accept_alternative, delay_alternative, terminate_alternative, Alternatives, no_alternatives, more_alternatives, Otherwise, or_delay, or_else, MaybeExpression, no_expression, an_expression, Declaration, object, constant, array, exception, procedure, task, task_body, protected, protected_body, OperationBody, entry_body, procedure_body, function_body, OperationBodies, no_bodies, more_bodies, no_declarations, more_declarations, Statement, null, assign, call, if_then, loop, exit, block, return, raise, accepting, delaying, select_accept, select_call, abort, requeue, Arms, no_arms, more_arms, Iteration, forever, while, for, Statements, in_order, MoreStatements, no_statements, more_statements, Declarations, Body, body, Handlers, no_handlers, more_handlers}
use Rattle.aud_typed.specs.declared.program.ArrayAt.{ArrayAt}
use Rattle.aud_typed.specs.declared.program.Exception.{Exception}
use Rattle.aud_typed.specs.declared.program.Subtype.{Subtype}
use Rattle.aud_typed.specs.declared.program.Variable.{Variable}
use Rattle.aud_typed.specs.Tree as tree
use Rattle.aud_scoped.specs.Declares.{StatementDeclares, PartDeclares, HandlersDeclare, BodyDeclares, DoingDeclares, OfferedDeclare, BodiesDeclare, DeclaresInParts}
use Rattle.aud_names.specs.declared.names.Builtin.{Builtin}
use Rattle.aud_names.specs.declared.names.Builtin.TheVariants.{Put, PutLine, NewLine}
use Rattle.aud_names.specs.declared.names.Entry as named_entry
use Rattle.aud_names.specs.declared.names.Meaning.{Meaning}
use Rattle.aud_names.specs.declared.names.Meaning.TheVariants as meaning
use Rattle.aud_names.specs.declared.array.Kind.{Kind}
use Rattle.aud_names.specs.declared.awaited.Awaited.{Awaited}
use Rattle.aud_names.specs.declared.awaited.AwaitedObject.{AwaitedObject}
use Rattle.aud_names.specs.declared.awaited.AwaitedPart.{AwaitedPart}
use Rattle.aud_names.specs.declared.names.Operation.{Operation}
use Rattle.aud_names.specs.declared.parts.PartKind.{PartKind}
use Rattle.aud_names.specs.declared.parts.PartKind.TheVariants as part
use Rattle.aud_names.specs.Objects.{awaited_parts}
use Rattle.aud_names.specs.Names.{Region, Place, main_place, visible, in_frame, innermost, place_in, task_place, body_frame, is_declared, is_inside}
use Rattle.aud_names.specs.Arrays.{bound_value, or_zero, cells_of}
use Rattle.aud_names.specs.Resolution.{resolved, name_ident, last_args}
use Rattle.aud_typing.specs.Expressions.{Typed, string, Entity, no_entity, entity, element_of, task_of, checked_arguments, checked_expression}
use Rattle.aud_check_bodies.specs.Accepts.{TypedAccept, accept_formals, accepted}
use Rattle.aud_check_bodies.specs.Arguments.{all_passed, reference_of}
use Rattle.aud_check_bodies.specs.Assignments.{target_of, assigned_to, assigned_at, meaning_assigned, assigned}
use Rattle.aud_check_bodies.specs.Calls.{EntryCalled, Whose, own_object, another, callee_meant, put_out, procedure_called, by_access, operation_called, called, called_as, typed_call, index_checked, entry_called, entry_call_to, entry_call_of, selected_call}
use Rattle.aud_check_bodies.specs.Requeues.{target_callee, requeued_to, requeued, typed_requeue}
use Rattle.aud_check_bodies.specs.Values.{FunctionCalled, function_called, returned_into, value_assigned, typed_assign}
use Rattle.aud_check_bodies.specs.declared.within.Leaves.{Leaves}
use Rattle.aud_check_bodies.specs.Objects.{ObjectDeclared, one_operation, declared_operations, declared_components, declared_items, hidden_items, no_parts, object_awaited, object_behind, body_object, object_tables}
use Rattle.aud_check_bodies.specs.Operations.{Head, of_entry, of_procedure, of_function, BodyPlaces, body_places, operation_place, shape_of, part_awaited, operation_unit, operation_kept, operation_tables, barrier_kept, barrier_of}
use Rattle.aud_check_bodies.specs.declared.call.Callee.{Callee}
use Rattle.aud_check_bodies.specs.declared.call.Callee.TheVariants as callee
use Rattle.aud_check_bodies.specs.declared.call.Callee.TheVariants.{Procedure, Entry}
use Rattle.aud_check_bodies.specs.Declarations.{Declared, objects_as, arrays_as, array_elaborations, task_elaborations, tasks_meant, task_type_meant, subtype_meant, arrays_kind, tasks_kind, marked}
use Rattle.aud_check_bodies.specs.Formals.{body_formals}
use Rattle.aud_check_bodies.specs.Entries.{Entries, no_entries, one_entry, entry_added, entry_formals, declared_entries, entries_of}
use Rattle.aud_check_bodies.specs.Handlers.{raised_by, typed_raise, exception_meant}
use Rattle.aud_check_bodies.specs.Programs as c
use Rattle.aud_check_bodies.specs.Programs.{main_tables}
use Rattle.aud_check_bodies.specs.Regions.{shown_names}
use Rattle.aud_check_bodies.specs.Selects.{TypedAlternative, accepts, delays, terminates, alternatives_of, form_of}
use Rattle.aud_check_bodies.specs.Statements.{checked_bodies, checked_operation, checked_operation_of, operation_around, in_accept, checked_accept, checked_doing, checked_alternative, checked_alternatives, checked_otherwise, Around, TypedStatements, sequence_of, TypedArm, arms_then, TypedHandler, handlers_of, TypedBody, body_with, typed_return, looped, begin_at, loop_place, loop_tables, labelled, handling, nothing_around, task_around, procedure_place, checked_statement, checked_arms, checked_statements, checked_others, checked_body, checked_handlers, checked_declarations, checked_declaration, entered, begin_of}
use Rattle.aud_check_bodies.specs.Tables.{Tables, Outcome, no_body, next_region, next_task, next_object, next_unit, region_kept, region_named, with_region, unit_kept, profile_of}
use Rattle.aud_check_bodies.specs.Tasks.{created_by, place_named, task_entries, body_tables, body_task, body_unit, task_awaited, place_behind, create_tasks, with_bodies, with_activation}

abbrev EachDeclares : Bool → List tree.Statement → Type 0
EachDeclares declares [] = Unit {0}
EachDeclares declares (x ∷ xs) = StatementDeclares declares x × EachDeclares declares xs

both : (declares : Bool) (xs ys : List tree.Statement) → EachDeclares declares xs → EachDeclares declares ys → EachDeclares declares (xs ++ ys)
both declares [] ys h k = k
both declares (x ∷ xs) ys h k = (h.0, both declares xs ys h.1 k)

in_sequence : (declares : Bool) (x : tree.Statement) (xs : List tree.Statement) → StatementDeclares declares x → EachDeclares declares xs → StatementDeclares declares (tree.before x xs)
in_sequence declares x [] h k = h
in_sequence declares x (y ∷ ys) h k = (h, in_sequence declares y ys k.0 k.1)

in_part : (declares : Bool) (xs : List tree.Statement) → EachDeclares declares xs → PartDeclares declares (tree.part_of xs)
in_part declares [] h = tt
in_part declares (x ∷ xs) h = in_sequence declares x xs h.0 h.1

-- Statements that are no declarations.

in_assigned_to : (v : Variable) (t : Option Subtype) (at : Pos) (x : Typed) → StatementDeclares false (assigned_to v t at x)
in_assigned_to v None at x = tt
in_assigned_to v (Some t) at x = tt

in_assigned_at : (a : ArrayAt) (index : tree.IntegerExpression) (t : Option Subtype) (at : Pos) (x : Typed) → StatementDeclares false (assigned_at a index t at x)
in_assigned_at a index None at x = tt
in_assigned_at a index (Some t) at x = tt

in_meaning : (m : Meaning) (at : Pos) (x : Typed) → StatementDeclares false (meaning_assigned m at x)
in_meaning (meaning.Object o) at x = in_assigned_to o.variable o.subtype at x
in_meaning m at x = tt

in_assigned : (e : Entity) (at : Pos) (x : Typed) → StatementDeclares false (assigned e at x)
in_assigned no_entity at x = tt
in_assigned (entity m) at x = in_meaning m at x
in_assigned (element_of a index t) at x = in_assigned_at a index t at x
in_assigned (task_of a index) at x = tt

in_put : (b : Builtin) (at : Pos) (x : Typed) → StatementDeclares false (put_out b at x)
in_put Put at (string t) = tt
in_put PutLine at (string t) = tt
in_put NewLine at x = tt
in_put b at x = tt

in_called : (m : Option Meaning) (at : Pos) (x : Typed) → StatementDeclares false (called m at x)
in_called (Some (meaning.Builtin b)) at x = in_put b at x
in_called m at x = tt

in_procedure : (unit : ℕ) (at : Pos) (arguments : Option (List tree.Argument)) → StatementDeclares false (procedure_called unit at arguments)
in_procedure unit at None = tt
in_procedure unit at (Some arguments) = tt

in_operation : (into : Option tree.Reference) (o : Operation) (at : Pos) (arguments : Option (List tree.Argument)) → StatementDeclares false (operation_called o into at arguments)
in_operation into o at None = tt
in_operation into o at (Some arguments) = by (is_inside o.instance.access)
  where
    by : (inside : Bool) → StatementDeclares false (by_access inside o.instance at (record { unit = o.unit; arguments = arguments; into = into }))
    by true = tt
    by false = tt

in_returned : (r : Option tree.Reference) (o : Operation) (at : Pos) (arguments : Option (List tree.Argument)) → StatementDeclares false (returned_into r o at arguments)
in_returned None o at arguments = tt
in_returned (Some r) o at arguments = in_operation (Some r) o at arguments

in_assign : (n : plain.Name) (value : plain.Expression) (place : Place) (t : Tables) → StatementDeclares false (typed_assign n value place t)
in_assign n value place t = by (function_called value place)
  where
    by : (f : Option FunctionCalled) → StatementDeclares false (value_assigned f value (target_of n place).entity (name_ident n).at place t)
    by None = in_assigned (target_of n place).entity (name_ident n).at (checked_expression value place).typed
    by (Some f) = in_returned (reference_of (target_of n place).entity) f.operation (name_ident n).at (all_passed (profile_of f.operation.unit t) (last_args f.name) place)

in_call_to : (whose : Whose) (at : Pos) (e : ℕ) (arguments : List tree.Argument) (form : tree.CallForm) (behind otherwise : tree.Part) → PartDeclares false behind → PartDeclares false otherwise → StatementDeclares false (entry_call_to whose at e arguments form behind otherwise)
in_call_to own_object at e arguments form behind otherwise h k = tt
in_call_to (another c) at e arguments form behind otherwise h k = (h, k)

in_entry_call : (at : Pos) (form : tree.CallForm) (behind otherwise : tree.Part) (c : Option EntryCalled) → PartDeclares false behind → PartDeclares false otherwise → StatementDeclares false (entry_call_of at form behind otherwise c)
in_entry_call at form behind otherwise None h k = tt
in_entry_call at form behind otherwise (Some c) h k = in_call_to c.whose at c.entry c.arguments form behind otherwise h k

in_typed_call : (n : plain.Name) (place : Place) (t : Tables) → StatementDeclares false (typed_call n place t)
in_typed_call n place t = by (callee_meant (resolved n place).denoted.meaning)
  where
    by : (callee : Option Callee) → StatementDeclares false (called_as callee (resolved n place).denoted n place t)
    by None = in_called (resolved n place).denoted.meaning (name_ident n).at (checked_arguments n place).typed
    by (Some (Procedure unit)) = in_procedure unit (name_ident n).at (all_passed (profile_of unit t) (last_args n) place)
    by (Some (callee.Operation o)) = in_operation None o (name_ident n).at (all_passed (profile_of o.unit t) (last_args n) place)
    by (Some (Entry e)) = in_entry_call (name_ident n).at tree.plainly tree.nothing tree.nothing (entry_called e n place t) tt tt

in_requeued_to : (at : Pos) (e : named_entry.Entry) (with_abort : Bool) (c : Option tree.Callee) (t : Tables) → StatementDeclares false (requeued_to at e with_abort c t)
in_requeued_to at e with_abort None t = tt
in_requeued_to at e with_abort (Some c) t = tt

in_requeue : (at : Pos) (n : plain.Name) (with_abort : Bool) (place : Place) (t : Tables) → StatementDeclares false (typed_requeue at n with_abort place t)
in_requeue at n with_abort place t = by (resolved n place).denoted.meaning
  where
    by : (m : Option Meaning) → StatementDeclares false (requeued at m n with_abort place t)
    by (Some (meaning.Entry e)) = in_requeued_to at e with_abort (target_callee e.owner (index_checked e.owner n place).typed) t
    by _ = tt

in_raised : (at : Pos) (x : Option Exception) → StatementDeclares false (raised_by at x)
in_raised at None = tt
in_raised at (Some x) = tt

in_raise : (at : Pos) (name : Option Ident) (place : Place) → StatementDeclares false (typed_raise at name place)
in_raise at None place = tt
in_raise at (Some i) place = in_raised at (exception_meant (visible i.name place))

in_return : (at : Pos) (e : MaybeExpression) (l : Leaves) (place : Place) → StatementDeclares false (typed_return at e l place)
in_return at no_expression l place = tt
in_return at (an_expression e) l place = tt

in_loop : (at next_at : Pos) (i : Iteration) (place : Place) (region : ℕ) (x : tree.Statement) → StatementDeclares false x → StatementDeclares false (looped at next_at i place region x)
in_loop at next_at forever place region x h = h
in_loop at next_at (while c) place region x h = h
in_loop at next_at (for i backward low high) place region x h = h

-- What is made of sequences, arms and handlers.

abbrev Sequence : TypedStatements → Type 0
Sequence x = StatementDeclares false x.first × EachDeclares false x.others

sequence_declares : (x : TypedStatements) → Sequence x → StatementDeclares false (sequence_of x)
sequence_declares x h = in_sequence false x.first x.others h.0 h.1

abbrev EachArm : List TypedArm → Type 0
EachArm [] = Unit {0}
EachArm (a ∷ more) = StatementDeclares false a.statements × EachArm more

arms_declare : (xs : List TypedArm) (p : tree.Part) → EachArm xs → PartDeclares false p → PartDeclares false (arms_then xs p)
arms_declare [] p h k = k
arms_declare (a ∷ more) p h k = (h.0, arms_declare more p h.1 k)

abbrev EachHandler : List TypedHandler → Type 0
EachHandler [] = Unit {0}
EachHandler (x ∷ more) = StatementDeclares false x.statements × EachHandler more

handlers_declare : (xs : List TypedHandler) → EachHandler xs → HandlersDeclare (handlers_of xs)
handlers_declare [] h = tt
handlers_declare (x ∷ more) h = (h.0, handlers_declare more h.1)

abbrev BodyIs : TypedBody → Type 0
BodyIs x = StatementDeclares false x.statements × HandlersDeclare x.handlers

body_declares : (elaborations : List tree.Statement) (b : Body) (x : TypedBody) → EachDeclares true elaborations → BodyIs x → BodyDeclares (body_with elaborations b x)
body_declares elaborations (body begin ss hs end name semicolon) x h k = (in_part true elaborations h, k)

-- What is made of accepts and of the alternatives of selective accepts.

abbrev AcceptIs : TypedAccept → Type 0
AcceptIs a = DoingDeclares a.doing

abbrev OneOffered : TypedAlternative → Type 0
OneOffered (accepts guard a behind) = AcceptIs a × PartDeclares false behind
OneOffered (delays guard e behind) = PartDeclares false behind
OneOffered (terminates guard) = Unit {0}

abbrev EachOffered : List TypedAlternative → Type 0
EachOffered [] = Unit {0}
EachOffered (x ∷ more) = OneOffered x × EachOffered more

offered_declare : (xs : List TypedAlternative) → EachOffered xs → OfferedDeclare (alternatives_of xs)
offered_declare [] h = tt
offered_declare (accepts guard a behind ∷ more) h = (h.0.0, (h.0.1, offered_declare more h.1))
offered_declare (delays guard e behind ∷ more) h = (h.0, offered_declare more h.1)
offered_declare (terminates guard ∷ more) h = offered_declare more h.1

-- Declarations.

in_activation : (activates : Bool) (at : Pos) → EachDeclares true (tree.activation activates at)
in_activation true at = (tt, tt)
in_activation false at = tt

activated_behind : (of_task : Bool) (at : Pos) (elaborations : List tree.Statement) → EachDeclares true elaborations → EachDeclares true (with_activation of_task at elaborations)
activated_behind true at elaborations h = both true elaborations _ h (tt, in_activation (create_tasks elaborations) at)
activated_behind false at elaborations h = both true elaborations _ h (in_activation (create_tasks elaborations) at)

in_tasks : (is : List Ident) (at : Pos) (n : ℕ) (low : ℤ) (is_array : Bool) (count : ℕ) → EachDeclares true (task_elaborations is at n low is_array count)
in_tasks [] at n low is_array count = tt
in_tasks (i ∷ is) at n low is_array count = (refl, in_tasks is at n low is_array count)

in_arrays : (is : List Ident) (at : Pos) (t : Option Subtype) (k : Kind) → EachDeclares true (array_elaborations is at t k)
in_arrays [] at t k = tt
in_arrays (i ∷ is) at t k = (tt, in_arrays is at t k)

in_objects : (m : Option ℕ) (is : List Ident) (at : Pos) (mark : Ident) (initial : MaybeExpression) (is_constant : Bool) (place : Place) → EachDeclares true (objects_as m is at mark initial is_constant place).made.elaborations
in_objects None is at mark initial is_constant place = (tt, tt)
in_objects (Some n) is at mark initial is_constant place = in_tasks is at n (pos 0) false 1

in_rows : (m : Option ℕ) (is : List Ident) (at : Pos) (low high : Bound) (mark : Ident) (place : Place) → EachDeclares true (arrays_as m is at low high mark place).made.elaborations
in_rows None is at low high mark place = let t = subtype_meant (marked mark is place) in in_arrays is at t (arrays_kind low high t)
in_rows (Some n) is at low high mark place = in_tasks is at n (or_zero (bound_value low)) true (cells_of (tasks_kind low high n))

in_task : (is_type : Bool) (i : Ident) (at : Pos) (n : ℕ) → EachDeclares true (created_by is_type i at n)
in_task true i at n = tt
in_task false i at n = in_tasks (i ∷ []) at n (pos 0) false 1

-- Bodies in tables.

abbrev EachUnit : List tree.UnitBody → Type 0
EachUnit [] = Unit {0}
EachUnit (u ∷ us) = BodyDeclares u.body × EachUnit us

unit_set : (us : List tree.UnitBody) (n : ℕ) (u : tree.UnitBody) → EachUnit us → BodyDeclares u.body → EachUnit (slice_set us n u)
unit_set [] zero u h k = tt
unit_set [] (suc n) u h k = tt
unit_set (x ∷ us) zero u h k = (k, h.1)
unit_set (x ∷ us) (suc n) u h k = (h.0, unit_set us n u h.1 k)

unit_more : (us : List tree.UnitBody) → EachUnit us → EachUnit (us ++ no_body ∷ [])
unit_more [] h = ((tt, (tt, tt)), tt)
unit_more (u ∷ us) h = (h.0, unit_more us h.1)

-- what is made is so, and so are all bodies
record Good {A : Type 0} (P : A → Type 0) (o : Outcome A) : Type 0 where
  pub made : P o.made
  pub units : EachUnit o.tables.units

abbrev Elaborates : Declared → Type 0
Elaborates d = EachDeclares true d.elaborations

entered_good : (of_task : Bool) (b : Body) (declared : Place → Tables → Outcome Declared) (stated : Place → Tables → Outcome TypedBody) (place : Place) (t : Tables) → ((p : Place) (u : Tables) → EachUnit u.units → Good Elaborates (declared p u)) → ((p : Place) (u : Tables) → EachUnit u.units → Good BodyIs (stated p u)) → EachUnit t.units → Good BodyDeclares (entered of_task b declared stated place t)
entered_good of_task b declared stated place t first second h =
    let d = first place (region_kept t) h in
    let o = declared place (region_kept t) in
    let x = second (with_bodies o).made.place (region_named (next_region t) _ (with_bodies o).tables) d.units in
    record { made = body_declares _ b _ (activated_behind of_task (begin_of b) o.made.elaborations d.made) x.made; units = x.units }

none_awaited : (found : Option Awaited) (t : Tables) → EachUnit t.units → EachUnit (body_tables found t).units
none_awaited None t h = unit_more t.units h
none_awaited (Some a) t h = h

-- entries are no units
entries_units : (task_type : ℕ) (es : List EntryDeclaration) (outer : List Region) (x : Entries) → EachUnit x.tables.units → EachUnit (declared_entries task_type es outer x).tables.units
entries_units task_type [] outer x h = h
entries_units task_type (e ∷ es) outer x h = entries_units task_type es outer (one_entry task_type e outer x) (by (is_declared e.name.name x.own.symbols))
  where
    by : (twice : Bool) → EachUnit (if twice then x else entry_added task_type e.name.name (entry_formals e x.own outer).profile x).tables.units
    by true = h
    by false = h

loop_units : (i : Iteration) (place : Place) (t : Tables) → EachUnit t.units → EachUnit (loop_tables i place t).units
loop_units forever place t h = h
loop_units (while c) place t h = h
loop_units (for i backward low high) place t h = h

-- what objects declare

operation_units : (number : ℕ) (is_private : Bool) (x : plain.Operation) (outer : List Region) (o : ObjectDeclared) → EachUnit o.tables.units → EachUnit (one_operation number is_private x outer o).tables.units
operation_units number is_private (plain.entry_operation e) outer o h = unit_more o.tables.units h
operation_units number is_private (plain.procedure_operation i fs) outer o h = unit_more o.tables.units h
operation_units number is_private (plain.function_operation i fs mark) outer o h = unit_more o.tables.units h

operations_units : (number : ℕ) (xs : List plain.Operation) (outer : List Region) (o : ObjectDeclared) → EachUnit o.tables.units → EachUnit (declared_operations number xs outer o).tables.units
operations_units number [] outer o h = h
operations_units number (x ∷ xs) outer o h = operations_units number xs outer (one_operation number false x outer o) (operation_units number false x outer o h)

items_units : (number : ℕ) (xs : List plain.PrivateItem) (outer : List Region) (o : ObjectDeclared) → EachUnit o.tables.units → EachUnit (declared_items number xs outer o).tables.units
items_units number [] outer o h = h
items_units number (plain.private_operation x ∷ xs) outer o h = items_units number xs outer (one_operation number true x outer o) (operation_units number true x outer o h)
items_units number (plain.components first others mark initial ∷ xs) outer o h = items_units number xs outer (declared_components number (first ∷ others) mark initial outer o) h

-- bodies of their operations

object_units : (found : Option AwaitedObject) (i : Ident) (t : Tables) → EachUnit t.units → EachUnit (object_tables found i t).units
object_units None i t h = h
object_units (Some o) i t h = h

kept_units : (found : Option PartKind) (t : Tables) → EachUnit t.units → EachUnit (operation_kept found t).units
kept_units None t h = unit_more t.units h
kept_units (Some k) t h = h

barrier_units : (found : Option PartKind) (b : Option tree.BooleanExpression) (t : Tables) → EachUnit t.units → EachUnit (barrier_kept found b t).units
barrier_units (Some (part.Entry number unit)) (Some b) t h = h
barrier_units (Some (part.Entry number unit)) None t h = h
barrier_units (Some (part.Operation unit subprogram)) b t h = h
barrier_units (Some (part.Component s)) b t h = h
barrier_units None b t h = h

operation_of_good : (head : Head) (at : Pos) (i : Ident) (fs : List plain.Formal) (ds : plain.Declarations) (b : Body) (o : BodyPlaces) (awaited : List AwaitedPart) (t : Tables) → EachUnit t.units
    → ((p : Place) (u : Tables) → EachUnit u.units → Good Elaborates (checked_declarations ds p u)) → ((around : Around) (p : Place) (u : Tables) → EachUnit u.units → Good BodyIs (checked_body b around p u)) → EachUnit (checked_operation_of head at i fs ds b o awaited t).tables.units
operation_of_good head at i fs ds b o awaited t h f g =
    let here = operation_place head o in
    let region = (shape_of head fs here).region in
    let found = part_awaited head i o awaited in
    let kept = operation_tables head found region here t in
    let around = operation_around head fs o.object here in
    let x = entered_good false b (λ further t2. checked_declarations ds further t2) (λ further t2. checked_body b around further t2) (place_in region here.regions) kept f (g around) (barrier_units found (barrier_of head region here) (operation_kept found t) (kept_units found t h)) in
    unit_set _ (operation_unit found t) _ x.units x.made

mutual
  statement_good : (x : Statement) (around : Around) (place : Place) (t : Tables) → EachUnit t.units → Good (StatementDeclares false) (checked_statement x around place t)
  statement_good (null at) around place t h = record { made = tt; units = h }
  statement_good (assign n value) around place t h = record { made = in_assign n value place t; units = h }
  statement_good (call n) around place t h = record { made = in_typed_call n place t; units = h }
  statement_good (if_then at c ss arms otherwise) around place t h =
      let x = statements_good ss around place t h in
      let more = arms_good arms around place _ x.units in
      let rest = others_good otherwise around place _ more.units in
      record { made = (sequence_declares _ x.made, arms_declare _ _ more.made (in_part false _ rest.made)); units = rest.units }
  statement_good (loop label at i ss last semicolon) around place t h =
      let x = statements_good ss (labelled true label around) (loop_place i place) (loop_tables i place t) (loop_units i place t h) in
      record { made = in_loop (begin_at label at) at i place (next_region t) _ (sequence_declares _ x.made); units = x.units }
  statement_good (exit at name c) around place t h = record { made = tt; units = h }
  statement_good (block label at declare ds b) around place t h =
      let x = entered_good false b (λ inner t1. checked_declarations ds inner t1) (λ inner t1. checked_body b (labelled false label around) inner t1) (in_frame place) t (λ p u k. declarations_good ds p u k) (λ p u k. body_good b (labelled false label around) p u k) h in
      record { made = x.made; units = x.units }
  statement_good (return at e) around place t h = record { made = in_return at e around.leaves place; units = h }
  statement_good (raise at name) around place t h = record { made = in_raise at name place; units = h }
  statement_good (accepting x) around place t h =
      let a = accept_good x around place t h in
      record { made = a.made; units = a.units }
  statement_good (delaying x) around place t h = record { made = tt; units = h }
  statement_good (select_accept at e x xs otherwise) around place t h =
      let o = checked_alternative x e around place t in
      let os = checked_alternatives xs around place o.tables in
      let first = alternative_good x e around place t h in
      let more = alternatives_good xs around place o.tables first.units in
      let rest = others_good otherwise around place os.tables more.units in
      record { made = (offered_declare (o.made ∷ os.made) (first.made, more.made), in_part false _ rest.made); units = rest.units }
  statement_good (select_call at n behind otherwise) around place t h =
      let o = checked_others behind around place t in
      let first = others_good behind around place t h in
      let rest = otherwise_good otherwise around place o.tables first.units in
      let instead = (checked_otherwise otherwise around place o.tables).made in
      record {
        made = in_entry_call at (form_of otherwise place) (tree.part_of o.made) (tree.part_of instead) (selected_call n place t) (in_part false o.made first.made) (in_part false instead rest.made);
        units = rest.units;
      }
  statement_good (abort at x xs) around place t h = record { made = tt; units = h }
  statement_good (requeue at x with_abort) around place t h = record { made = in_requeue at x with_abort place t; units = h }

  accept_good : (x : Accept) (around : Around) (place : Place) (t : Tables) → EachUnit t.units → Good AcceptIs (checked_accept x around place t)
  accept_good (accept at i fs x) around place t h =
      let done = doing_good x i (accept_formals fs place).region (in_accept (accepted i place) (accept_formals fs place).profile around) place t h in
      record { made = done.made; units = done.units }

  doing_good : (x : Doing) (i : Ident) (r : Region) (around : Around) (place : Place) (t : Tables) → EachUnit t.units → Good DoingDeclares (checked_doing x i r around place t)
  doing_good without_do i r around place t h = record { made = tt; units = h }
  doing_good (with_do b) i r around place t h =
      let x = body_good b around (place_in r place.regions) (with_region (shown_names r.symbols) t) h in
      record { made = body_declares [] b _ tt x.made; units = x.units }

  alternative_good : (x : Alternative) (guard : MaybeExpression) (around : Around) (place : Place) (t : Tables) → EachUnit t.units → Good OneOffered (checked_alternative x guard around place t)
  alternative_good (accept_alternative x ss) guard around place t h =
      let first = accept_good x around place t h in
      let more = others_good ss around place _ first.units in
      record { made = (first.made, in_part false _ more.made); units = more.units }
  alternative_good (delay_alternative d ss) guard around place t h =
      let more = others_good ss around place t h in
      record { made = in_part false _ more.made; units = more.units }
  alternative_good terminate_alternative guard around place t h = record { made = tt; units = h }

  alternatives_good : (xs : Alternatives) (around : Around) (place : Place) (t : Tables) → EachUnit t.units → Good EachOffered (checked_alternatives xs around place t)
  alternatives_good no_alternatives around place t h = record { made = tt; units = h }
  alternatives_good (more_alternatives guard x xs) around place t h =
      let first = alternative_good x guard around place t h in
      let more = alternatives_good xs around place _ first.units in
      record { made = (first.made, more.made); units = more.units }

  otherwise_good : (x : Otherwise) (around : Around) (place : Place) (t : Tables) → EachUnit t.units → Good (EachDeclares false) (checked_otherwise x around place t)
  otherwise_good (or_delay d ss) around place t h = others_good ss around place t h
  otherwise_good (or_else ss) around place t h =
      let x = statements_good ss around place t h in
      record { made = x.made; units = x.units }

  arms_good : (arms : Arms) (around : Around) (place : Place) (t : Tables) → EachUnit t.units → Good EachArm (checked_arms arms around place t)
  arms_good no_arms around place t h = record { made = tt; units = h }
  arms_good (more_arms at c ss arms) around place t h =
      let x = statements_good ss around place t h in
      let more = arms_good arms around place _ x.units in
      record { made = (sequence_declares _ x.made, more.made); units = more.units }

  statements_good : (ss : Statements) (around : Around) (place : Place) (t : Tables) → EachUnit t.units → Good Sequence (checked_statements ss around place t)
  statements_good (in_order x ss) around place t h =
      let first = statement_good x around place t h in
      let more = others_good ss around place _ first.units in
      record { made = (first.made, more.made); units = more.units }

  others_good : (ss : MoreStatements) (around : Around) (place : Place) (t : Tables) → EachUnit t.units → Good (EachDeclares false) (checked_others ss around place t)
  others_good no_statements around place t h = record { made = tt; units = h }
  others_good (more_statements x ss) around place t h =
      let first = statement_good x around place t h in
      let more = others_good ss around place _ first.units in
      record { made = (first.made, more.made); units = more.units }

  body_good : (b : Body) (around : Around) (place : Place) (t : Tables) → EachUnit t.units → Good BodyIs (checked_body b around place t)
  body_good (body begin ss hs end name semicolon) around place t h =
      let x = statements_good ss around place t h in
      let more = handlers_good hs (handling around) place _ x.units in
      record { made = (sequence_declares _ x.made, handlers_declare _ more.made); units = more.units }

  handlers_good : (hs : Handlers) (around : Around) (place : Place) (t : Tables) → EachUnit t.units → Good EachHandler (checked_handlers hs around place t)
  handlers_good no_handlers around place t h = record { made = tt; units = h }
  handlers_good (more_handlers choices ss hs) around place t h =
      let x = statements_good ss around place t h in
      let more = handlers_good hs around place _ x.units in
      record { made = (sequence_declares _ x.made, more.made); units = more.units }

  declarations_good : (ds : Declarations) (place : Place) (t : Tables) → EachUnit t.units → Good Elaborates (checked_declarations ds place t)
  declarations_good no_declarations place t h = record { made = tt; units = h }
  declarations_good (more_declarations d ds) place t h =
      let first = declaration_good d place t h in
      let o = checked_declaration d place t in
      let more = declarations_good ds o.made.place o.tables first.units in
      record { made = both true o.made.elaborations _ first.made more.made; units = more.units }

  declaration_good : (d : Declaration) (place : Place) (t : Tables) → EachUnit t.units → Good Elaborates (checked_declaration d place t)
  declaration_good (object first others subtype initial) place t h =
      record { made = in_objects (tasks_meant (marked subtype (first ∷ others) place) initial false) (first ∷ others) first.at subtype initial false place; units = h }
  declaration_good (constant first others subtype value) place t h =
      record { made = in_objects (tasks_meant (marked subtype (first ∷ others) place) (an_expression value) true) (first ∷ others) first.at subtype (an_expression value) true place; units = h }
  declaration_good (array first others low high subtype) place t h =
      record { made = in_rows (task_type_meant (marked subtype (first ∷ others) place)) (first ∷ others) first.at low high subtype place; units = h }
  declaration_good (exception first others) place t h = record { made = tt; units = h }
  declaration_good (procedure at i fs ds b) place t h =
      let here = procedure_place i place t in
      let formals = body_formals fs place in
      let kept = unit_kept formals.profile t in
      let inner = place_in formals.region here.regions in
      let x = entered_good false b (λ further t2. checked_declarations ds further t2) (λ further t2. checked_body b nothing_around further t2) inner kept (λ p u k. declarations_good ds p u k) (λ p u k. body_good b nothing_around p u k) (unit_more t.units h) in
      record { made = tt; units = unit_set _ (next_unit t) _ x.units x.made }
  declaration_good (task at is_type i d) place t h =
      let here = place_named is_type i place t in
      let es = task_entries d here t in
      record { made = in_task is_type i at (next_task t); units = unit_more es.tables.units (entries_units (next_task t) (entries_of d) here.regions (no_entries (body_frame here) t) h) }
  declaration_good (task_body at i ds b) place t h =
      let found = task_awaited i place in
      let here = place_behind i place in
      let x = entered_good true b (λ further t2. checked_declarations ds further t2) (λ further t2. checked_body b task_around further t2) (task_place i.name (body_task found t) here) (body_tables found t) (λ p u k. declarations_good ds p u k) (λ p u k. body_good b task_around p u k) (none_awaited found t h) in
      record { made = tt; units = unit_set _ (body_unit found t) _ x.units x.made }
  declaration_good (protected at i operations hidden last) place t h =
      let number = next_object t in
      let first = declared_operations number operations place.regions (no_parts i.name place t) in
      record { made = (tt, tt); units = items_units number (hidden_items hidden) place.regions first (operations_units number operations place.regions (no_parts i.name place t) h) }
  declaration_good (protected_body at i inner last) place t h =
      let found = object_awaited i place in
      let here = object_behind i place in
      let object = body_object found t in
      record { made = tt; units = bodies_good inner (body_places i.name object here) (awaited_parts object (innermost here).parts) (object_tables found i t) (object_units found i t h) }

  bodies_good : (xs : OperationBodies) (o : BodyPlaces) (awaited : List AwaitedPart) (t : Tables) → EachUnit t.units → EachUnit (checked_bodies xs o awaited t).tables.units
  bodies_good no_bodies o awaited t h = h
  bodies_good (more_bodies x xs) o awaited t h =
      let first = checked_operation x o awaited t in
      bodies_good xs o first.made first.tables (operation_good x o awaited t h)

  operation_good : (x : OperationBody) (o : BodyPlaces) (awaited : List AwaitedPart) (t : Tables) → EachUnit t.units → EachUnit (checked_operation x o awaited t).tables.units
  operation_good (entry_body at i fs barrier ds b) o awaited t h = operation_of_good (of_entry barrier) at i fs ds b o awaited t h (λ p u k. declarations_good ds p u k) (λ around p u k. body_good b around p u k)
  operation_good (procedure_body at i fs ds b) o awaited t h = operation_of_good of_procedure at i fs ds b o awaited t h (λ p u k. declarations_good ds p u k) (λ around p u k. body_good b around p u k)
  operation_good (function_body at i fs mark ds b) o awaited t h = operation_of_good (of_function mark) at i fs ds b o awaited t h (λ p u k. declarations_good ds p u k) (λ around p u k. body_good b around p u k)

bodies_declare : (us : List tree.UnitBody) → EachUnit us → BodiesDeclare (map (λ (u : tree.UnitBody). u.body) us)
bodies_declare [] h = tt
bodies_declare (u ∷ us) h = (h.0, bodies_declare us h.1)

pub typed_declares : (u : plain.Unit) → DeclaresInParts (c.typed u)
typed_declares (plain.unit context at name ds b) =
    let place = main_place name.name in
    let x = entered_good false b (λ inner t1. checked_declarations ds inner t1) (λ inner t1. checked_body b nothing_around inner t1) place main_tables (λ p u k. declarations_good ds p u k) (λ p u k. body_good b nothing_around p u k) ((tt, (tt, tt)), tt) in
    bodies_declare _ (unit_set _ 0 _ x.units x.made)
