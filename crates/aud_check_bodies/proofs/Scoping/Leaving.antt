-- Where there are no faults, each exit leaves a loop that is around it, and the table of each frame is there.
use Rattle.std.specs.Prelude.{pos, slice_set, is_some, if◌then◌else◌}
use Rattle.std.proofs.Common.{◌≡◌, ◌+◌, ◌<◌, ◌≤◌, ℕ, zero, suc, ℤ, Bool, true, false, Option, Some, None, List, [], ◌∷◌, ◌++◌, length, map, arith, refl, sym, ap, subst}
use Rattle.std.proofs.lemmas.List.{length_push, length-append, length-set}
use Rattle.aud_text.specs.declared.place.Pos.{Pos}
use Rattle.aud_syntax.specs.declared.tree.Ident.{Ident}
use Rattle.aud_syntax.specs.declared.tree.Bound.{Bound}
use Rattle.aud_syntax.specs.Plain as plain
use Rattle.aud_syntax.specs.Plain.{MaybeExpression, no_expression, an_expression}
use Rattle.aud_typed.specs.declared.program.ArrayAt.{ArrayAt}
use Rattle.aud_typed.specs.declared.program.Exception.{Exception}
use Rattle.aud_typed.specs.declared.program.Subtype.{Subtype}
use Rattle.aud_typed.specs.declared.program.Variable.{Variable}
use Rattle.aud_typed.specs.Tree as tree
use Rattle.aud_typed.specs.Why.Numbers.{StatementNumbers, PartNumbers, HandlersNumbers, BodyNumbers, DoingNumbers, OfferedNumbers, UnitsNumbers}
use Rattle.aud_names.specs.declared.names.Builtin.{Builtin}
use Rattle.aud_names.specs.declared.names.Builtin.TheVariants.{Put, PutLine, NewLine}
use Rattle.aud_names.specs.declared.names.Entry as named_entry
use Rattle.aud_names.specs.declared.names.Meaning.{Meaning}
use Rattle.aud_names.specs.declared.names.Meaning.TheVariants as meaning
use Rattle.aud_names.specs.declared.array.Kind.{Kind}
use Rattle.aud_names.specs.declared.awaited.Awaited.{Awaited}
use Rattle.aud_names.specs.declared.awaited.AwaitedObject.{AwaitedObject}
use Rattle.aud_names.specs.declared.awaited.AwaitedPart.{AwaitedPart}
use Rattle.aud_names.specs.declared.names.Operation.{Operation}
use Rattle.aud_names.specs.declared.parts.PartKind.{PartKind}
use Rattle.aud_names.specs.declared.parts.PartKind.TheVariants as part
use Rattle.aud_names.specs.Objects.{awaited_parts}
use Rattle.aud_names.specs.Names as names
use Rattle.aud_names.specs.Names.{Region, Place, main_place, visible, is_inside}
use Rattle.aud_names.specs.Arrays.{bound_value, or_zero, cells_of}
use Rattle.aud_names.specs.Resolution.{resolved, name_ident, last_args}
use Rattle.aud_names.specs.Rules as rules
use Rattle.aud_typing.specs.Expressions.{Typed, string, Entity, no_entity, entity, element_of, task_of, checked_arguments, checked_expression}
use Rattle.aud_typing.specs.Conditions as conditions
use Rattle.aud_check_bodies.specs.Accepts as accepts
use Rattle.aud_check_bodies.specs.Accepts.{TypedAccept}
use Rattle.aud_check_bodies.specs.Arguments.{all_passed, reference_of}
use Rattle.aud_check_bodies.specs.Assignments.{target_of, assigned_to, assigned_at, meaning_assigned, assigned}
use Rattle.aud_check_bodies.specs.Calls as calls
use Rattle.aud_check_bodies.specs.Calls.{EntryCalled, Whose, own_object, another, callee_meant, put_out, procedure_called, by_access, operation_called, called, called_as, typed_call, index_checked, entry_called, entry_call_to, entry_call_of, selected_call}
use Rattle.aud_check_bodies.specs.Requeues.{target_callee, requeued_to, requeued, typed_requeue}
use Rattle.aud_check_bodies.specs.Values.{FunctionCalled, function_called, returned_into, value_assigned, typed_assign}
use Rattle.aud_check_bodies.specs.declared.within.Leaves.{Leaves}
use Rattle.aud_check_bodies.specs.declared.call.Callee.{Callee}
use Rattle.aud_check_bodies.specs.declared.call.Callee.TheVariants as callee
use Rattle.aud_check_bodies.specs.declared.call.Callee.TheVariants.{Procedure, Entry}
use Rattle.aud_check_bodies.specs.Declarations.{Declared, objects_as, arrays_as, array_elaborations, task_elaborations, tasks_meant, task_type_meant, subtype_meant, arrays_kind, tasks_kind, marked}
use Rattle.aud_check_bodies.specs.Delays as delays
use Rattle.aud_check_bodies.specs.Entries as e
use Rattle.aud_check_bodies.specs.Formals.{body_formals}
use Rattle.aud_check_bodies.specs.Handlers as handlers
use Rattle.aud_check_bodies.specs.Handlers.{raised_by, typed_raise, exception_meant}
use Rattle.aud_check_bodies.specs.Labels.{Labels, is_named, loop_from, exit_loop}
use Rattle.aud_check_bodies.specs.Objects as objects
use Rattle.aud_check_bodies.specs.Operations as operations
use Rattle.aud_check_bodies.specs.Operations.{Head, of_entry, of_procedure, of_function, BodyPlaces}
use Rattle.aud_check_bodies.specs.Programs as c
use Rattle.aud_check_bodies.specs.Programs.{main_tables}
use Rattle.aud_check_bodies.specs.Regions as regions
use Rattle.aud_check_bodies.specs.Selects as selects
use Rattle.aud_check_bodies.specs.Selects.{TypedAlternative, alternatives_of, form_of}
use Rattle.aud_check_bodies.specs.Statements as s
use Rattle.aud_check_bodies.specs.Statements.{Around, nothing_around, task_around, TypedStatements, TypedArm, TypedHandler, TypedBody, typed_return}
use Rattle.aud_check_bodies.specs.Tables.{Tables, Outcome, no_body, region_kept, with_region, unit_kept, with_unit, profile_of}
use Rattle.aud_check_bodies.specs.Tasks as tasks
use Rattle.aud_check_bodies.specs.Tasks.{created_by, create_tasks, with_activation}
use Rattle.aud_check_bodies.proofs.Scoping.Declarations.{both_none}
use Rattle.aud_check_bodies.proofs.Scoping.Tables.{Grows, declared_tables}
use Rattle.aud_check_bodies.proofs.Scoping.EntryTables.{entries_units}
use Rattle.aud_check_bodies.proofs.Scoping.ConstructTables.{alternatives_grow, otherwise_grows, arms_grow, statements_grow, others_grow, body_grows, handlers_grow, declarations_grow, bodies_grow}

-- How many loops are around a statement, and which of them an exit leaves.

abbrev loops_of : Labels → ℕ
loops_of [] = 0
loops_of (l ∷ ls) = if l.is_loop then suc (loops_of ls) else loops_of ls

within : (name : Option Ident) (ls : Labels) (k j : ℕ) → loop_from k name ls ≡ Some j → j < k + loops_of ls
within name [] k j h = cc
within name (l ∷ ls) k j h = by (is_named name l) l.is_loop h (λ m q. within name ls m j q)
  where
    by : (named is_loop : Bool) → (if named then (if is_loop then Some k else None) else loop_from (if is_loop then k + 1 else k) name ls) ≡ Some j → ((m : ℕ) → loop_from m name ls ≡ Some j → j < m + loops_of ls) → j < k + (if is_loop then suc (loops_of ls) else loops_of ls)
    by true true q f = let same : k ≡ j = cc in omega (arith, same)
    by true false q f = cc
    by false true q f = omega (arith, f (k + 1) q)
    by false false q f = f k q

loop_there : (o : Option ℕ) (at : Pos) (loops : ℕ) → ((k : ℕ) → o ≡ Some k → k < loops) → rules.exit_in_loop (is_some o) at ≡ [] → s.loop_number o < loops
loop_there None at loops f q = cc
loop_there (Some k) at loops f q = f k refl

-- Statements in order, and as parts.

module _ (tables : ℕ) where
  abbrev EachNumbers : ℕ → List tree.Statement → Type 0
  EachNumbers loops [] = Unit {0}
  EachNumbers loops (x ∷ xs) = StatementNumbers tables loops x × EachNumbers loops xs

  both : (loops : ℕ) (xs ys : List tree.Statement) → EachNumbers loops xs → EachNumbers loops ys → EachNumbers loops (xs ++ ys)
  both loops [] ys h k = k
  both loops (x ∷ xs) ys h k = (h.0, both loops xs ys h.1 k)

  in_sequence : (loops : ℕ) (x : tree.Statement) (xs : List tree.Statement) → StatementNumbers tables loops x → EachNumbers loops xs → StatementNumbers tables loops (tree.before x xs)
  in_sequence loops x [] h k = h
  in_sequence loops x (y ∷ ys) h k = (h, in_sequence loops y ys k.0 k.1)

  in_part : (loops : ℕ) (xs : List tree.Statement) → EachNumbers loops xs → PartNumbers tables loops (tree.part_of xs)
  in_part loops [] h = tt
  in_part loops (x ∷ xs) h = in_sequence loops x xs h.0 h.1

-- Statements that hold no others.

module _ (tables loops : ℕ) where
  in_assigned_to : (v : Variable) (t : Option Subtype) (at : Pos) (x : Typed) → StatementNumbers tables loops (assigned_to v t at x)
  in_assigned_to v None at x = tt
  in_assigned_to v (Some t) at x = tt

  in_assigned_at : (a : ArrayAt) (index : tree.IntegerExpression) (t : Option Subtype) (at : Pos) (x : Typed) → StatementNumbers tables loops (assigned_at a index t at x)
  in_assigned_at a index None at x = tt
  in_assigned_at a index (Some t) at x = tt

  in_meaning : (m : Meaning) (at : Pos) (x : Typed) → StatementNumbers tables loops (meaning_assigned m at x)
  in_meaning (meaning.Object o) at x = in_assigned_to o.variable o.subtype at x
  in_meaning m at x = tt

  in_assigned : (e : Entity) (at : Pos) (x : Typed) → StatementNumbers tables loops (assigned e at x)
  in_assigned no_entity at x = tt
  in_assigned (entity m) at x = in_meaning m at x
  in_assigned (element_of a index t) at x = in_assigned_at a index t at x
  in_assigned (task_of a index) at x = tt

  in_put : (b : Builtin) (at : Pos) (x : Typed) → StatementNumbers tables loops (put_out b at x)
  in_put Put at (string t) = tt
  in_put PutLine at (string t) = tt
  in_put NewLine at x = tt
  in_put b at x = tt

  in_called : (m : Option Meaning) (at : Pos) (x : Typed) → StatementNumbers tables loops (called m at x)
  in_called (Some (meaning.Builtin b)) at x = in_put b at x
  in_called m at x = tt

  in_procedure : (unit : ℕ) (at : Pos) (arguments : Option (List tree.Argument)) → StatementNumbers tables loops (procedure_called unit at arguments)
  in_procedure unit at None = tt
  in_procedure unit at (Some arguments) = tt

  in_operation : (into : Option tree.Reference) (o : Operation) (at : Pos) (arguments : Option (List tree.Argument)) → StatementNumbers tables loops (operation_called o into at arguments)
  in_operation into o at None = tt
  in_operation into o at (Some arguments) = by (is_inside o.instance.access)
    where
      by : (inside : Bool) → StatementNumbers tables loops (by_access inside o.instance at (record { unit = o.unit; arguments = arguments; into = into }))
      by true = tt
      by false = tt

  in_returned : (r : Option tree.Reference) (o : Operation) (at : Pos) (arguments : Option (List tree.Argument)) → StatementNumbers tables loops (returned_into r o at arguments)
  in_returned None o at arguments = tt
  in_returned (Some r) o at arguments = in_operation (Some r) o at arguments

  in_assign : (n : plain.Name) (value : plain.Expression) (place : Place) (t : Tables) → StatementNumbers tables loops (typed_assign n value place t)
  in_assign n value place t = by (function_called value place)
    where
      by : (f : Option FunctionCalled) → StatementNumbers tables loops (value_assigned f value (target_of n place).entity (name_ident n).at place t)
      by None = in_assigned (target_of n place).entity (name_ident n).at (checked_expression value place).typed
      by (Some f) = in_returned (reference_of (target_of n place).entity) f.operation (name_ident n).at (all_passed (profile_of f.operation.unit t) (last_args f.name) place)

  in_call_to : (whose : Whose) (at : Pos) (e : ℕ) (arguments : List tree.Argument) (form : tree.CallForm) (behind otherwise : tree.Part) → PartNumbers tables loops behind → PartNumbers tables loops otherwise → StatementNumbers tables loops (entry_call_to whose at e arguments form behind otherwise)
  in_call_to own_object at e arguments form behind otherwise h k = tt
  in_call_to (another c) at e arguments form behind otherwise h k = (h, k)

  in_entry_call : (at : Pos) (form : tree.CallForm) (behind otherwise : tree.Part) (c : Option EntryCalled) → PartNumbers tables loops behind → PartNumbers tables loops otherwise → StatementNumbers tables loops (entry_call_of at form behind otherwise c)
  in_entry_call at form behind otherwise None h k = tt
  in_entry_call at form behind otherwise (Some c) h k = in_call_to c.whose at c.entry c.arguments form behind otherwise h k

  in_typed_call : (n : plain.Name) (place : Place) (t : Tables) → StatementNumbers tables loops (typed_call n place t)
  in_typed_call n place t = by (callee_meant (resolved n place).denoted.meaning)
    where
      by : (callee : Option Callee) → StatementNumbers tables loops (called_as callee (resolved n place).denoted n place t)
      by None = in_called (resolved n place).denoted.meaning (name_ident n).at (checked_arguments n place).typed
      by (Some (Procedure unit)) = in_procedure unit (name_ident n).at (all_passed (profile_of unit t) (last_args n) place)
      by (Some (callee.Operation o)) = in_operation None o (name_ident n).at (all_passed (profile_of o.unit t) (last_args n) place)
      by (Some (Entry e)) = in_entry_call (name_ident n).at tree.plainly tree.nothing tree.nothing (entry_called e n place t) tt tt

  in_requeued_to : (at : Pos) (e : named_entry.Entry) (with_abort : Bool) (c : Option tree.Callee) (t : Tables) → StatementNumbers tables loops (requeued_to at e with_abort c t)
  in_requeued_to at e with_abort None t = tt
  in_requeued_to at e with_abort (Some c) t = tt

  in_requeue : (at : Pos) (n : plain.Name) (with_abort : Bool) (place : Place) (t : Tables) → StatementNumbers tables loops (typed_requeue at n with_abort place t)
  in_requeue at n with_abort place t = by (resolved n place).denoted.meaning
    where
      by : (m : Option Meaning) → StatementNumbers tables loops (requeued at m n with_abort place t)
      by (Some (meaning.Entry e)) = in_requeued_to at e with_abort (target_callee e.owner (index_checked e.owner n place).typed) t
      by _ = tt

  in_raised : (at : Pos) (x : Option Exception) → StatementNumbers tables loops (raised_by at x)
  in_raised at None = tt
  in_raised at (Some x) = tt

  in_raise : (at : Pos) (name : Option Ident) (place : Place) → StatementNumbers tables loops (typed_raise at name place)
  in_raise at None place = tt
  in_raise at (Some i) place = in_raised at (exception_meant (visible i.name place))

  in_return : (at : Pos) (e : MaybeExpression) (l : Leaves) (place : Place) → StatementNumbers tables loops (typed_return at e l place)
  in_return at no_expression l place = tt
  in_return at (an_expression e) l place = tt

-- What is made of arms, handlers, accepts and alternatives.

module _ (tables : ℕ) where
  abbrev Sequence : ℕ → TypedStatements → Type 0
  Sequence loops x = StatementNumbers tables loops x.first × EachNumbers tables loops x.others

  sequence_numbers : (loops : ℕ) (x : TypedStatements) → Sequence loops x → StatementNumbers tables loops (s.sequence_of x)
  sequence_numbers loops x h = in_sequence tables loops x.first x.others h.0 h.1

  abbrev EachArm : ℕ → List TypedArm → Type 0
  EachArm loops [] = Unit {0}
  EachArm loops (a ∷ more) = StatementNumbers tables loops a.statements × EachArm loops more

  arms_numbers : (loops : ℕ) (xs : List TypedArm) (p : tree.Part) → EachArm loops xs → PartNumbers tables loops p → PartNumbers tables loops (s.arms_then xs p)
  arms_numbers loops [] p h k = k
  arms_numbers loops (a ∷ more) p h k = (h.0, arms_numbers loops more p h.1 k)

  abbrev EachHandler : ℕ → List TypedHandler → Type 0
  EachHandler loops [] = Unit {0}
  EachHandler loops (x ∷ more) = StatementNumbers tables loops x.statements × EachHandler loops more

  handlers_numbers : (loops : ℕ) (xs : List TypedHandler) → EachHandler loops xs → HandlersNumbers tables loops (s.handlers_of xs)
  handlers_numbers loops [] h = tt
  handlers_numbers loops (x ∷ more) h = (h.0, handlers_numbers loops more h.1)

  abbrev BodyIs : ℕ → TypedBody → Type 0
  BodyIs loops x = StatementNumbers tables loops x.statements × HandlersNumbers tables loops x.handlers

  body_numbers : (loops : ℕ) (elaborations : List tree.Statement) (b : plain.Body) (x : TypedBody) → EachNumbers tables 0 elaborations → BodyIs loops x → BodyNumbers tables loops (s.body_with elaborations b x)
  body_numbers loops elaborations (plain.body begin ss hs end name semicolon) x h k = (in_part tables 0 elaborations h, k)

  abbrev AcceptIs : TypedAccept → Type 0
  AcceptIs a = DoingNumbers tables a.doing

  abbrev OneOffered : ℕ → TypedAlternative → Type 0
  OneOffered loops (selects.accepts guard a behind) = AcceptIs a × PartNumbers tables loops behind
  OneOffered loops (selects.delays guard x behind) = PartNumbers tables loops behind
  OneOffered loops (selects.terminates guard) = Unit {0}

  abbrev EachOffered : ℕ → List TypedAlternative → Type 0
  EachOffered loops [] = Unit {0}
  EachOffered loops (x ∷ more) = OneOffered loops x × EachOffered loops more

  offered_numbers : (loops : ℕ) (xs : List TypedAlternative) → EachOffered loops xs → OfferedNumbers tables loops (alternatives_of xs)
  offered_numbers loops [] h = tt
  offered_numbers loops (selects.accepts guard a behind ∷ more) h = (h.0.0, (h.0.1, offered_numbers loops more h.1))
  offered_numbers loops (selects.delays guard x behind ∷ more) h = (h.0, offered_numbers loops more h.1)
  offered_numbers loops (selects.terminates guard ∷ more) h = offered_numbers loops more h.1

  -- Declarations.

  in_activation : (activates : Bool) (at : Pos) → EachNumbers tables 0 (tree.activation activates at)
  in_activation true at = (tt, tt)
  in_activation false at = tt

  activated_behind : (of_task : Bool) (at : Pos) (elaborations : List tree.Statement) → EachNumbers tables 0 elaborations → EachNumbers tables 0 (with_activation of_task at elaborations)
  activated_behind true at elaborations h = both tables 0 elaborations _ h (tt, in_activation (create_tasks elaborations) at)
  activated_behind false at elaborations h = both tables 0 elaborations _ h (in_activation (create_tasks elaborations) at)

  in_tasks : (is : List Ident) (at : Pos) (n : ℕ) (low : ℤ) (is_array : Bool) (count : ℕ) → EachNumbers tables 0 (task_elaborations is at n low is_array count)
  in_tasks [] at n low is_array count = tt
  in_tasks (i ∷ is) at n low is_array count = (tt, in_tasks is at n low is_array count)

  in_arrays : (is : List Ident) (at : Pos) (t : Option Subtype) (k : Kind) → EachNumbers tables 0 (array_elaborations is at t k)
  in_arrays [] at t k = tt
  in_arrays (i ∷ is) at t k = (tt, in_arrays is at t k)

  in_objects : (m : Option ℕ) (is : List Ident) (at : Pos) (mark : Ident) (initial : MaybeExpression) (is_constant : Bool) (place : Place) → EachNumbers tables 0 (objects_as m is at mark initial is_constant place).made.elaborations
  in_objects None is at mark initial is_constant place = (tt, tt)
  in_objects (Some n) is at mark initial is_constant place = in_tasks is at n (pos 0) false 1

  in_rows : (m : Option ℕ) (is : List Ident) (at : Pos) (low high : Bound) (mark : Ident) (place : Place) → EachNumbers tables 0 (arrays_as m is at low high mark place).made.elaborations
  in_rows None is at low high mark place = let t = subtype_meant (marked mark is place) in in_arrays is at t (arrays_kind low high t)
  in_rows (Some n) is at low high mark place = in_tasks is at n (or_zero (bound_value low)) true (cells_of (tasks_kind low high n))

  in_task : (is_type : Bool) (i : Ident) (at : Pos) (n : ℕ) → EachNumbers tables 0 (created_by is_type i at n)
  in_task true i at n = tt
  in_task false i at n = in_tasks (i ∷ []) at n (pos 0) false 1

  -- Bodies in tables.

  abbrev UnitIs : tree.UnitBody → Type 0
  UnitIs u = (u.region < tables) × BodyNumbers tables 0 u.body

  abbrev EachUnit : List tree.UnitBody → Type 0
  EachUnit [] = Unit {0}
  EachUnit (u ∷ us) = UnitIs u × EachUnit us

  unit_set : (us : List tree.UnitBody) (n : ℕ) (u : tree.UnitBody) → EachUnit us → UnitIs u → EachUnit (slice_set us n u)
  unit_set [] zero u h k = tt
  unit_set [] (suc n) u h k = tt
  unit_set (x ∷ us) zero u h k = (k, h.1)
  unit_set (x ∷ us) (suc n) u h k = (h.0, unit_set us n u h.1 k)

  units_numbers : (us : List tree.UnitBody) → EachUnit us → UnitsNumbers tables (map tree.unit_plan us) (map (λ (u : tree.UnitBody). u.body) us)
  units_numbers [] h = tt
  units_numbers (u ∷ us) h = (h.0.0, h.0.1, units_numbers us h.1)

  -- what is made is so, and so are all bodies
  record Good {A : Type 0} (P : A → Type 0) (o : Outcome A) : Type 0 where
    pub made : P o.made
    pub units : EachUnit o.tables.units

  abbrev Elaborates : Declared → Type 0
  Elaborates x = EachNumbers tables 0 x.elaborations

  -- Tables that have no more than these.

  abbrev Few : Tables → Type 0
  Few t = length t.regions ≤ tables

  few_before : (t u : Tables) → Grows t u → Few u → Few t
  few_before t u g h = omega (arith, ap length g.regions, length-append t.regions g.more_regions, h)

  loop_units : (i : plain.Iteration) (n : Place) (t : Tables) → EachUnit t.units → EachUnit (s.loop_tables i n t).units
  loop_units plain.forever n t h = h
  loop_units (plain.while x) n t h = h
  loop_units (plain.for i backward low high) n t h = h

  in_loop : (loops : ℕ) (at next_at : Pos) (i : plain.Iteration) (n : Place) (t : Tables) (x : tree.Statement) → Few (s.loop_tables i n t) → StatementNumbers tables (suc loops) x → StatementNumbers tables loops (s.looped at next_at i n (length t.regions) x)
  in_loop loops at next_at plain.forever n t x w h = h
  in_loop loops at next_at (plain.while y) n t x w h = h
  in_loop loops at next_at (plain.for i backward low high) n t x w h = (omega (arith, w, length_push t.regions (regions.shown_names (regions.loop_region i n).symbols)), h)

  object_units : (found : Option AwaitedObject) (i : Ident) (t : Tables) → EachUnit t.units → EachUnit (objects.object_tables found i t).units
  object_units None i t h = h
  object_units (Some o) i t h = h

  barrier_units : (found : Option PartKind) (b : Option tree.BooleanExpression) (t : Tables) → EachUnit t.units → EachUnit (operations.barrier_kept found b t).units
  barrier_units (Some (part.Entry number unit)) (Some b) t h = h
  barrier_units (Some (part.Entry number unit)) None t h = h
  barrier_units (Some (part.Operation unit subprogram)) b t h = h
  barrier_units (Some (part.Component x)) b t h = h
  barrier_units None b t h = h

  -- the tables before a body's statements, and the table of its own frame
  few_declared : (ds : plain.Declarations) (b : plain.Body) (around : Around) (n : Place) (t : Tables) (of_task : Bool) → Few (s.entered_body of_task ds b around n t).tables → Few (s.checked_declarations ds n (region_kept t)).tables
  few_declared ds b around n t of_task w =
      let o : Outcome Declared = s.checked_declarations ds n (region_kept t) in
      let entry : Tables = declared_tables o t in
      let last = s.checked_body b around o.made.place entry in
      let w1 = few_before entry last.tables (body_grows b around o.made.place entry) w in
      omega (arith, w1, length-set o.tables.regions (length t.regions) (regions.shown_names (names.innermost o.made.place).symbols))

  own_table : (ds : plain.Declarations) (b : plain.Body) (around : Around) (n : Place) (t : Tables) (of_task : Bool) → Few (s.entered_body of_task ds b around n t).tables → length t.regions < tables
  own_table ds b around n t of_task w =
      let o : Outcome Declared = s.checked_declarations ds n (region_kept t) in
      let w0 = few_before (region_kept t) o.tables (declarations_grow ds n (region_kept t)) (few_declared ds b around n t of_task w) in
      omega (arith, w0, length_push t.regions [])

-- Constructs.

module _ (tables : ℕ) (some : 0 < tables) where
  unit_more : (us : List tree.UnitBody) → EachUnit tables us → EachUnit tables (us ++ no_body ∷ [])
  unit_more [] h = ((some, (tt, (tt, tt))), tt)
  unit_more (u ∷ us) h = (h.0, unit_more us h.1)

  none_awaited : (found : Option Awaited) (t : Tables) → EachUnit tables t.units → EachUnit tables (tasks.body_tables found t).units
  none_awaited None t h = unit_more t.units h
  none_awaited (Some a) t h = h

  kept_units : (found : Option PartKind) (t : Tables) → EachUnit tables t.units → EachUnit tables (operations.operation_kept found t).units
  kept_units None t h = unit_more t.units h
  kept_units (Some k) t h = h

  operation_units : (number : ℕ) (is_private : Bool) (x : plain.Operation) (outer : List Region) (o : objects.ObjectDeclared) → EachUnit tables o.tables.units → EachUnit tables (objects.one_operation number is_private x outer o).tables.units
  operation_units number is_private (plain.entry_operation y) outer o h = unit_more o.tables.units h
  operation_units number is_private (plain.procedure_operation i fs) outer o h = unit_more o.tables.units h
  operation_units number is_private (plain.function_operation i fs mark) outer o h = unit_more o.tables.units h

  operations_units : (number : ℕ) (xs : List plain.Operation) (outer : List Region) (o : objects.ObjectDeclared) → EachUnit tables o.tables.units → EachUnit tables (objects.declared_operations number xs outer o).tables.units
  operations_units number [] outer o h = h
  operations_units number (x ∷ xs) outer o h = operations_units number xs outer (objects.one_operation number false x outer o) (operation_units number false x outer o h)

  items_units : (number : ℕ) (xs : List plain.PrivateItem) (outer : List Region) (o : objects.ObjectDeclared) → EachUnit tables o.tables.units → EachUnit tables (objects.declared_items number xs outer o).tables.units
  items_units number [] outer o h = h
  items_units number (plain.private_operation x ∷ xs) outer o h = items_units number xs outer (objects.one_operation number true x outer o) (operation_units number true x outer o h)
  items_units number (plain.components first others mark initial ∷ xs) outer o h = items_units number xs outer (objects.declared_components number (first ∷ others) mark initial outer o) h

  abbrev Fine : {A : Type 0} → (A → Type 0) → Tables → Outcome A → Type 0
  Fine P t o = EachUnit tables t.units → Few tables o.tables → o.faults ≡ [] → Good tables P o

  entered_numbers : (of_task : Bool) (ds : plain.Declarations) (b : plain.Body) (around : Around) (n : Place) (t : Tables) → ((m : Place) (u : Tables) → Fine (Elaborates tables) u (s.checked_declarations ds m u)) → ((m : Place) (u : Tables) → Fine (BodyIs tables (loops_of around.labels)) u (s.checked_body b around m u))
      → Fine (BodyNumbers tables (loops_of around.labels)) t (s.entered_body of_task ds b around n t)
  entered_numbers of_task ds b around n t f g h w q =
      let o : Outcome Declared = s.checked_declarations ds n (region_kept t) in
      let m : Place = o.made.place in
      let region = names.innermost m in
      let entry : Tables = declared_tables o t in
      let last = s.checked_body b around m entry in
      let waiting = tasks.without_bodies region.awaited ++ objects.without_object_bodies region.objects in
      let parts = both_none (o.faults ++ waiting) (last.faults ++ []) q in
      let x = f n (region_kept t) h (few_declared tables ds b around n t of_task w) (both_none o.faults waiting parts.0).0 in
      let y = g m entry x.units w (both_none last.faults [] parts.1).0 in
      record { made = body_numbers tables (loops_of around.labels) (with_activation of_task (s.begin_of b) o.made.elaborations) b last.made (activated_behind tables of_task (s.begin_of b) o.made.elaborations x.made) y.made; units = y.units }

  unit_numbers : (of_task : Bool) (at : Pos) (name : List ℕ) (ds : plain.Declarations) (b : plain.Body) (n : Place) (t : Tables) → ((m : Place) (u : Tables) → Fine (Elaborates tables) u (s.checked_declarations ds m u)) → ((m : Place) (u : Tables) → Fine (BodyIs tables 0) u (s.checked_body b (s.around_unit of_task) m u))
      → Fine (UnitIs tables) t (s.checked_unit of_task at name ds b n t)
  unit_numbers true at name ds b n t f g h w q =
      let o = s.entered_body true ds b task_around n t in
      let x = entered_numbers true ds b task_around n t f g h w (both_none o.faults (rules.right_name_at_end name (s.end_name b) ++ []) q).0 in
      record { made = (own_table tables ds b task_around n t true w, x.made); units = x.units }
  unit_numbers false at name ds b n t f g h w q =
      let o = s.entered_body false ds b nothing_around n t in
      let x = entered_numbers false ds b nothing_around n t f g h w (both_none o.faults (rules.right_name_at_end name (s.end_name b) ++ []) q).0 in
      record { made = (own_table tables ds b nothing_around n t false w, x.made); units = x.units }

  operation_of_numbers : (head : Head) (at : Pos) (i : Ident) (fs : List plain.Formal) (ds : plain.Declarations) (b : plain.Body) (o : BodyPlaces) (awaited : List AwaitedPart) (t : Tables)
      → ((m : Place) (u : Tables) → Fine (Elaborates tables) u (s.checked_declarations ds m u)) → ((around : Around) (m : Place) (u : Tables) → Fine (BodyIs tables (loops_of around.labels)) u (s.checked_body b around m u))
      → EachUnit tables t.units → Few tables (s.checked_operation_of head at i fs ds b o awaited t).tables → (s.checked_operation_of head at i fs ds b o awaited t).faults ≡ [] → EachUnit tables (s.checked_operation_of head at i fs ds b o awaited t).tables.units
  operation_of_numbers head at i fs ds b o awaited t f g h w q =
      let here : Place = operations.operation_place head o in
      let region = (operations.shape_of head fs here).region in
      let found = operations.part_awaited head i o awaited in
      let inner : Place = names.place_in region here.regions in
      let entry : Tables = operations.operation_tables head found region here t in
      let around : Around = s.operation_around head fs o.object here in
      let unit = s.checked_operation_unit head at i fs ds b o.object here inner entry in
      let body = s.entered_body false ds b around inner entry in
      let q1 = (both_none unit.faults [] (both_none (operations.operation_faults head found i fs here t) (unit.faults ++ []) q).1).0 in
      let q2 = (both_none body.faults (rules.right_name_at_end i.name (s.end_name b) ++ []) q1).0 in
      let x = entered_numbers false ds b around inner entry f (g around) (barrier_units tables found (operations.barrier_of head region here) (operations.operation_kept found t) (kept_units found t h)) w q2 in
      unit_set tables unit.tables.units (operations.operation_unit found t) unit.made x.units (own_table tables ds b around inner entry false w, x.made)

  mutual
    statement_numbers : (x : plain.Statement) (around : Around) (n : Place) (t : Tables) → Fine (StatementNumbers tables (loops_of around.labels)) t (s.checked_statement x around n t)
    statement_numbers (plain.null at) around n t h w q = record { made = tt; units = h }
    statement_numbers (plain.assign x value) around n t h w q = record { made = in_assign tables (loops_of around.labels) x value n t; units = h }
    statement_numbers (plain.call x) around n t h w q = record { made = in_typed_call tables (loops_of around.labels) x n t; units = h }
    statement_numbers (plain.if_then at y ss arms otherwise) around n t h w q =
        let loops = loops_of around.labels in
        let first = s.checked_statements ss around n t in
        let second = s.checked_arms arms around n first.tables in
        let third = s.checked_others otherwise around n second.tables in
        let parts = both_none (conditions.condition_faults y n ++ (first.faults ++ [])) (second.faults ++ (third.faults ++ [])) q in
        let behind = both_none second.faults (third.faults ++ []) parts.1 in
        let q1 = (both_none first.faults [] (both_none (conditions.condition_faults y n) (first.faults ++ []) parts.0).1).0 in
        let w2 = few_before tables second.tables third.tables (others_grow otherwise around n second.tables) w in
        let w1 = few_before tables first.tables second.tables (arms_grow arms around n first.tables) w2 in
        let one = statements_numbers ss around n t h w1 q1 in
        let two = arms_of_numbers arms around n first.tables one.units w2 behind.0 in
        let three = others_numbers otherwise around n second.tables two.units w (both_none third.faults [] behind.1).0 in
        record { made = (sequence_numbers tables loops first.made one.made, arms_numbers tables loops second.made (tree.part_of third.made) two.made (in_part tables loops third.made three.made)); units = three.units }
    statement_numbers (plain.loop label at i ss last semicolon) around n t h w q =
        let inner : Around = s.labelled true label around in
        let place : Place = s.loop_place i n in
        let begun : Tables = s.loop_tables i n t in
        let o = s.checked_statements ss inner place begun in
        let q1 = (both_none o.faults [] (both_none (s.iteration_faults i n) (o.faults ++ []) (both_none (rules.right_label_at_end label last semicolon) (s.iteration_faults i n ++ (o.faults ++ [])) q).1).1).0 in
        let x = statements_numbers ss inner place begun (loop_units tables i n t h) w q1 in
        record { made = in_loop tables (loops_of around.labels) (s.begin_at label at) at i n t (s.sequence_of o.made) (few_before tables begun o.tables (statements_grow ss inner place begun) w) (sequence_numbers tables (suc (loops_of around.labels)) o.made x.made); units = x.units }
    statement_numbers (plain.exit at name y) around n t h w q =
        let found = exit_loop name around.labels in
        let rule = rules.exit_in_loop (is_some found) at in
        let heads = both_none (rule ++ conditions.maybe_condition_faults y n) [] q in
        record { made = loop_there found at (loops_of around.labels) (λ k p. omega (arith, within name around.labels 0 k p)) (both_none rule (conditions.maybe_condition_faults y n) heads.0).0; units = h }
    statement_numbers (plain.block label at declare ds b) around n t h w q =
        let inner : Around = s.labelled false label around in
        let o = s.entered_body false ds b inner (names.in_frame n) t in
        let q1 = (both_none o.faults [] (both_none (rules.right_label_at_end label (s.end_name b) (s.end_semicolon b)) (o.faults ++ []) q).1).0 in
        let x = entered_numbers false ds b inner (names.in_frame n) t (λ m u. declarations_numbers ds m u) (λ m u. body_of_numbers b inner m u) h w q1 in
        record { made = (own_table tables ds b inner (names.in_frame n) t false w, x.made); units = x.units }
    statement_numbers (plain.return at x) around n t h w q = record { made = in_return tables (loops_of around.labels) at x around.leaves n; units = h }
    statement_numbers (plain.raise at name) around n t h w q = record { made = in_raise tables (loops_of around.labels) at name n; units = h }
    statement_numbers (plain.accepting x) around n t h w q =
        let a = accept_numbers x around n t h w (both_none (s.checked_accept x around n t).faults [] q).0 in
        record { made = a.made; units = a.units }
    statement_numbers (plain.delaying x) around n t h w q = record { made = tt; units = h }
    statement_numbers (plain.select_accept at guard x xs otherwise) around n t h w q =
        let loops = loops_of around.labels in
        let first = s.checked_alternative x guard around n t in
        let second = s.checked_alternatives xs around n first.tables in
        let third = s.checked_others otherwise around n second.tables in
        let parts = both_none first.faults (second.faults ++ (third.faults ++ [])) q in
        let behind = both_none second.faults (third.faults ++ []) parts.1 in
        let w2 = few_before tables second.tables third.tables (others_grow otherwise around n second.tables) w in
        let w1 = few_before tables first.tables second.tables (alternatives_grow xs around n first.tables) w2 in
        let one = alternative_numbers x guard around n t h w1 parts.0 in
        let two = alternatives_numbers xs around n first.tables one.units w2 behind.0 in
        let three = others_numbers otherwise around n second.tables two.units w (both_none third.faults [] behind.1).0 in
        record { made = (offered_numbers tables loops (first.made ∷ second.made) (one.made, two.made), in_part tables loops third.made three.made); units = three.units }
    statement_numbers (plain.select_call at x behind otherwise) around n t h w q =
        let loops = loops_of around.labels in
        let first = s.checked_others behind around n t in
        let second = s.checked_otherwise otherwise around n first.tables in
        let heads = selects.form_faults otherwise n ++ calls.selected_call_faults x n t in
        let parts = both_none first.faults (second.faults ++ []) (both_none heads (first.faults ++ (second.faults ++ [])) q).1 in
        let w1 = few_before tables first.tables second.tables (otherwise_grows otherwise around n first.tables) w in
        let one = others_numbers behind around n t h w1 parts.0 in
        let two = otherwise_numbers otherwise around n first.tables one.units w (both_none second.faults [] parts.1).0 in
        record { made = in_entry_call tables loops at (form_of otherwise n) (tree.part_of first.made) (tree.part_of second.made) (selected_call x n t) (in_part tables loops first.made one.made) (in_part tables loops second.made two.made); units = two.units }
    statement_numbers (plain.abort at x xs) around n t h w q = record { made = tt; units = h }
    statement_numbers (plain.requeue at x with_abort) around n t h w q = record { made = in_requeue tables (loops_of around.labels) at x with_abort n t; units = h }

    accept_numbers : (x : plain.Accept) (around : Around) (n : Place) (t : Tables) → Fine (AcceptIs tables) t (s.checked_accept x around n t)
    accept_numbers (plain.accept at i fs x) around n t h w q =
        let formals = accepts.accept_formals fs n in
        let inner : Around = s.in_accept (accepts.accepted i n) formals.profile around in
        let o = s.checked_doing x i formals.region inner n t in
        let done = doing_numbers x i formals.region inner n t refl h w (both_none o.faults [] (both_none (accepts.accept_faults i fs around.accepting n t) (o.faults ++ []) q).1).0 in
        record { made = done.made; units = done.units }

    doing_numbers : (x : plain.Doing) (i : Ident) (r : Region) (around : Around) (n : Place) (t : Tables) → loops_of around.labels ≡ 0 → Fine (DoingNumbers tables) t (s.checked_doing x i r around n t)
    doing_numbers plain.without_do i r around n t p h w q = record { made = tt; units = h }
    doing_numbers (plain.with_do b) i r around n t p h w q =
        let place : Place = names.place_in r n.regions in
        let shown = regions.shown_names r.symbols in
        let begun : Tables = with_region shown t in
        let o = s.checked_body b around place begun in
        let x = body_of_numbers b around place begun h w (both_none o.faults (rules.right_name_at_end i.name (s.end_name b) ++ []) q).0 in
        let w1 = few_before tables begun o.tables (body_grows b around place begun) w in
        record { made = (omega (arith, w1, length_push t.regions shown), body_numbers tables 0 [] b o.made tt (subst (λ k. BodyIs tables k o.made) p x.made)); units = x.units }

    alternative_numbers : (x : plain.Alternative) (guard : MaybeExpression) (around : Around) (n : Place) (t : Tables) → Fine (OneOffered tables (loops_of around.labels)) t (s.checked_alternative x guard around n t)
    alternative_numbers (plain.accept_alternative x ss) guard around n t h w q =
        let first = s.checked_accept x around n t in
        let second = s.checked_others ss around n first.tables in
        let parts = both_none first.faults (second.faults ++ []) (both_none (conditions.maybe_condition_faults guard n) (first.faults ++ (second.faults ++ [])) q).1 in
        let w1 = few_before tables first.tables second.tables (others_grow ss around n first.tables) w in
        let one = accept_numbers x around n t h w1 parts.0 in
        let two = others_numbers ss around n first.tables one.units w (both_none second.faults [] parts.1).0 in
        record { made = (one.made, in_part tables (loops_of around.labels) second.made two.made); units = two.units }
    alternative_numbers (plain.delay_alternative x ss) guard around n t h w q =
        let o = s.checked_others ss around n t in
        let heads = conditions.maybe_condition_faults guard n ++ delays.delay_faults x n in
        let one = others_numbers ss around n t h w (both_none o.faults [] (both_none heads (o.faults ++ []) q).1).0 in
        record { made = in_part tables (loops_of around.labels) o.made one.made; units = one.units }
    alternative_numbers plain.terminate_alternative guard around n t h w q = record { made = tt; units = h }

    alternatives_numbers : (x : plain.Alternatives) (around : Around) (n : Place) (t : Tables) → Fine (EachOffered tables (loops_of around.labels)) t (s.checked_alternatives x around n t)
    alternatives_numbers plain.no_alternatives around n t h w q = record { made = tt; units = h }
    alternatives_numbers (plain.more_alternatives guard x xs) around n t h w q =
        let first = s.checked_alternative x guard around n t in
        let second = s.checked_alternatives xs around n first.tables in
        let parts = both_none first.faults (second.faults ++ []) q in
        let w1 = few_before tables first.tables second.tables (alternatives_grow xs around n first.tables) w in
        let one = alternative_numbers x guard around n t h w1 parts.0 in
        let two = alternatives_numbers xs around n first.tables one.units w (both_none second.faults [] parts.1).0 in
        record { made = (one.made, two.made); units = two.units }

    otherwise_numbers : (x : plain.Otherwise) (around : Around) (n : Place) (t : Tables) → Fine (EachNumbers tables (loops_of around.labels)) t (s.checked_otherwise x around n t)
    otherwise_numbers (plain.or_delay x ss) around n t h w q = others_numbers ss around n t h w q
    otherwise_numbers (plain.or_else ss) around n t h w q =
        let x = statements_numbers ss around n t h w (both_none (s.checked_statements ss around n t).faults [] q).0 in
        record { made = x.made; units = x.units }

    arms_of_numbers : (x : plain.Arms) (around : Around) (n : Place) (t : Tables) → Fine (EachArm tables (loops_of around.labels)) t (s.checked_arms x around n t)
    arms_of_numbers plain.no_arms around n t h w q = record { made = tt; units = h }
    arms_of_numbers (plain.more_arms at y ss arms) around n t h w q =
        let first = s.checked_statements ss around n t in
        let second = s.checked_arms arms around n first.tables in
        let parts = both_none (conditions.condition_faults y n ++ (first.faults ++ [])) (second.faults ++ []) q in
        let q1 = (both_none first.faults [] (both_none (conditions.condition_faults y n) (first.faults ++ []) parts.0).1).0 in
        let w1 = few_before tables first.tables second.tables (arms_grow arms around n first.tables) w in
        let one = statements_numbers ss around n t h w1 q1 in
        let two = arms_of_numbers arms around n first.tables one.units w (both_none second.faults [] parts.1).0 in
        record { made = (sequence_numbers tables (loops_of around.labels) first.made one.made, two.made); units = two.units }

    statements_numbers : (x : plain.Statements) (around : Around) (n : Place) (t : Tables) → Fine (Sequence tables (loops_of around.labels)) t (s.checked_statements x around n t)
    statements_numbers (plain.in_order x xs) around n t h w q =
        let first = s.checked_statement x around n t in
        let second = s.checked_others xs around n first.tables in
        let parts = both_none first.faults (second.faults ++ []) q in
        let w1 = few_before tables first.tables second.tables (others_grow xs around n first.tables) w in
        let one = statement_numbers x around n t h w1 parts.0 in
        let two = others_numbers xs around n first.tables one.units w (both_none second.faults [] parts.1).0 in
        record { made = (one.made, two.made); units = two.units }

    others_numbers : (x : plain.MoreStatements) (around : Around) (n : Place) (t : Tables) → Fine (EachNumbers tables (loops_of around.labels)) t (s.checked_others x around n t)
    others_numbers plain.no_statements around n t h w q = record { made = tt; units = h }
    others_numbers (plain.more_statements x xs) around n t h w q =
        let first = s.checked_statement x around n t in
        let second = s.checked_others xs around n first.tables in
        let parts = both_none first.faults (second.faults ++ []) q in
        let w1 = few_before tables first.tables second.tables (others_grow xs around n first.tables) w in
        let one = statement_numbers x around n t h w1 parts.0 in
        let two = others_numbers xs around n first.tables one.units w (both_none second.faults [] parts.1).0 in
        record { made = (one.made, two.made); units = two.units }

    body_of_numbers : (b : plain.Body) (around : Around) (n : Place) (t : Tables) → Fine (BodyIs tables (loops_of around.labels)) t (s.checked_body b around n t)
    body_of_numbers (plain.body begin ss hs end name semicolon) around n t h w q =
        let loops = loops_of around.labels in
        let first = s.checked_statements ss around n t in
        let second = s.checked_handlers hs (s.handling around) n first.tables in
        let chosen = handlers.all_choices_faults hs handlers.none_chosen n in
        let parts = both_none first.faults (chosen ++ (second.faults ++ [])) q in
        let w1 = few_before tables first.tables second.tables (handlers_grow hs (s.handling around) n first.tables) w in
        let one = statements_numbers ss around n t h w1 parts.0 in
        let two = handlers_of_numbers hs (s.handling around) n first.tables one.units w (both_none second.faults [] (both_none chosen (second.faults ++ []) parts.1).1).0 in
        record { made = (sequence_numbers tables loops first.made one.made, handlers_numbers tables loops second.made two.made); units = two.units }

    handlers_of_numbers : (x : plain.Handlers) (around : Around) (n : Place) (t : Tables) → Fine (EachHandler tables (loops_of around.labels)) t (s.checked_handlers x around n t)
    handlers_of_numbers plain.no_handlers around n t h w q = record { made = tt; units = h }
    handlers_of_numbers (plain.more_handlers choices ss hs) around n t h w q =
        let first = s.checked_statements ss around n t in
        let second = s.checked_handlers hs around n first.tables in
        let parts = both_none (first.faults ++ []) (second.faults ++ []) q in
        let w1 = few_before tables first.tables second.tables (handlers_grow hs around n first.tables) w in
        let one = statements_numbers ss around n t h w1 (both_none first.faults [] parts.0).0 in
        let two = handlers_of_numbers hs around n first.tables one.units w (both_none second.faults [] parts.1).0 in
        record { made = (sequence_numbers tables (loops_of around.labels) first.made one.made, two.made); units = two.units }

    declarations_numbers : (x : plain.Declarations) (n : Place) (t : Tables) → Fine (Elaborates tables) t (s.checked_declarations x n t)
    declarations_numbers plain.no_declarations n t h w q = record { made = tt; units = h }
    declarations_numbers (plain.more_declarations x xs) n t h w q =
        let first = s.checked_declaration x n t in
        let m : Place = first.made.place in
        let second = s.checked_declarations xs m first.tables in
        let parts = both_none first.faults (second.faults ++ []) q in
        let w1 = few_before tables first.tables second.tables (declarations_grow xs m first.tables) w in
        let one = declaration_numbers x n t h w1 parts.0 in
        let two = declarations_numbers xs m first.tables one.units w (both_none second.faults [] parts.1).0 in
        record { made = both tables 0 first.made.elaborations second.made.elaborations one.made two.made; units = two.units }

    declaration_numbers : (x : plain.Declaration) (n : Place) (t : Tables) → Fine (Elaborates tables) t (s.checked_declaration x n t)
    declaration_numbers (plain.object first others mark initial) n t h w q = record { made = in_objects tables (tasks_meant (marked mark (first ∷ others) n) initial false) (first ∷ others) first.at mark initial false n; units = h }
    declaration_numbers (plain.constant first others mark value) n t h w q = record { made = in_objects tables (tasks_meant (marked mark (first ∷ others) n) (an_expression value) true) (first ∷ others) first.at mark (an_expression value) true n; units = h }
    declaration_numbers (plain.array first others low high mark) n t h w q = record { made = in_rows tables (task_type_meant (marked mark (first ∷ others) n)) (first ∷ others) first.at low high mark n; units = h }
    declaration_numbers (plain.exception first others) n t h w q = record { made = tt; units = h }
    declaration_numbers (plain.procedure at i fs ds b) n t h w q =
        let here : Place = s.procedure_place i n t in
        let formals = body_formals fs n in
        let inner : Place = names.place_in formals.region here.regions in
        let kept : Tables = unit_kept formals.profile t in
        let unit = s.checked_unit false at i.name ds b inner kept in
        let heads = formals.faults ++ rules.declared_once i.name i.at (names.innermost n).symbols in
        let x = unit_numbers false at i.name ds b inner kept (λ m u. declarations_numbers ds m u) (λ m u. body_of_numbers b nothing_around m u) (unit_more t.units h) w (both_none unit.faults [] (both_none heads (unit.faults ++ []) q).1).0 in
        record { made = tt; units = unit_set tables unit.tables.units (length t.units) unit.made x.units x.made }
    declaration_numbers (plain.task at is_type i x) n t h w q =
        let here : Place = tasks.place_named is_type i n t in
        let es = tasks.task_entries x here t in
        let same = entries_units (length t.tasks) (e.entries_of x) here.regions (e.no_entries (names.body_frame here) t) in
        record { made = in_task tables is_type i at (length t.tasks); units = unit_more es.tables.units (subst (λ l. EachUnit tables l) (sym same) h) }
    declaration_numbers (plain.task_body at i ds b) n t h w q =
        let found = tasks.task_awaited i n in
        let inner : Place = names.task_place i.name (tasks.body_task found t) (tasks.place_behind i n) in
        let own : Tables = tasks.body_tables found t in
        let unit = s.checked_unit true at i.name ds b inner own in
        let x = unit_numbers true at i.name ds b inner own (λ m u. declarations_numbers ds m u) (λ m u. body_of_numbers b task_around m u) (none_awaited found t h) w (both_none unit.faults [] (both_none (tasks.matched_faults found i.at) (unit.faults ++ []) q).1).0 in
        record { made = tt; units = unit_set tables unit.tables.units (tasks.body_unit found t) unit.made x.units x.made }
    declaration_numbers (plain.protected at i operations hidden last) n t h w q =
        let number = length t.objects in
        let first = objects.declared_operations number operations n.regions (objects.no_parts i.name n t) in
        record { made = (tt, tt); units = items_units number (objects.hidden_items hidden) n.regions first (operations_units number operations n.regions (objects.no_parts i.name n t) h) }
    declaration_numbers (plain.protected_body at i inner last) n t h w q =
        let found = objects.object_awaited i n in
        let here : Place = objects.object_behind i n in
        let object = objects.body_object found t in
        let o = operations.body_places i.name object here in
        let awaited = awaited_parts object (names.innermost here).parts in
        let begun : Tables = objects.object_tables found i t in
        let x = s.checked_bodies inner o awaited begun in
        let behind = (objects.without_part_bodies x.made ++ rules.right_name_at_end i.name last) ++ [] in
        record { made = tt; units = bodies_numbers inner o awaited begun (object_units tables found i t h) w (both_none x.faults behind (both_none (objects.object_matched found i.at) (x.faults ++ behind) q).1).0 }

    bodies_numbers : (x : plain.OperationBodies) (o : BodyPlaces) (awaited : List AwaitedPart) (t : Tables) → EachUnit tables t.units → Few tables (s.checked_bodies x o awaited t).tables → (s.checked_bodies x o awaited t).faults ≡ [] → EachUnit tables (s.checked_bodies x o awaited t).tables.units
    bodies_numbers plain.no_bodies o awaited t h w q = h
    bodies_numbers (plain.more_bodies x xs) o awaited t h w q =
        let first = s.checked_operation x o awaited t in
        let second = s.checked_bodies xs o first.made first.tables in
        let parts = both_none first.faults second.faults q in
        let w1 = few_before tables first.tables second.tables (bodies_grow xs o first.made first.tables) w in
        bodies_numbers xs o first.made first.tables (operation_numbers x o awaited t h w1 parts.0) w parts.1

    operation_numbers : (x : plain.OperationBody) (o : BodyPlaces) (awaited : List AwaitedPart) (t : Tables) → EachUnit tables t.units → Few tables (s.checked_operation x o awaited t).tables → (s.checked_operation x o awaited t).faults ≡ [] → EachUnit tables (s.checked_operation x o awaited t).tables.units
    operation_numbers (plain.entry_body at i fs barrier ds b) o awaited t h w q = operation_of_numbers (of_entry barrier) at i fs ds b o awaited t (λ m u. declarations_numbers ds m u) (λ around m u. body_of_numbers b around m u) h w q
    operation_numbers (plain.procedure_body at i fs ds b) o awaited t h w q = operation_of_numbers of_procedure at i fs ds b o awaited t (λ m u. declarations_numbers ds m u) (λ around m u. body_of_numbers b around m u) h w q
    operation_numbers (plain.function_body at i fs mark ds b) o awaited t h w q = operation_of_numbers (of_function mark) at i fs ds b o awaited t (λ m u. declarations_numbers ds m u) (λ around m u. body_of_numbers b around m u) h w q

-- Of programs.

pub typed_numbers : (u : plain.Unit) → c.faults u ≡ [] → UnitsNumbers (length (c.typed u).plan.regions) (c.typed u).plan.units (c.typed u).bodies
typed_numbers (plain.unit context at name declarations b) q =
    let place : Place = main_place name.name in
    let unit = s.checked_unit false at name.name declarations b place main_tables in
    let count = length unit.tables.regions in
    let few : length unit.tables.regions ≤ count = omega arith in
    let own : 0 < count = own_table count declarations b nothing_around place main_tables false few in
    let x = unit_numbers count own false at name.name declarations b place main_tables (λ m u. declarations_numbers count own declarations m u) (λ m u. body_of_numbers count own b nothing_around m u) ((own, (tt, (tt, tt))), tt) few (both_none (rules.program_named name.name name.at) unit.faults q).1 in
    units_numbers count (with_unit 0 unit.made unit.tables).units (unit_set count unit.tables.units 0 unit.made x.units x.made)
