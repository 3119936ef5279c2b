-- Statements by themselves, and what is put together of them, use what is elaborated, or there.
use Rattle.std.specs.Prelude.{IfSome, if◌then◌else◌}
use Rattle.std.specs.List.{AllByRecursion}
use Rattle.std.proofs.Common.{◌≡◌, ℕ, Bool, true, false, List, [], ◌∷◌, length, slice_index_or, Option, Some, None, refl, sym, ◌∙◌, subst}
use Rattle.aud_text.specs.declared.place.Pos.{Pos}
use Rattle.aud_syntax.specs.declared.tree.Ident.{Ident}
use Rattle.aud_syntax.specs.Plain as plain
use Rattle.aud_typed.specs.declared.program.Variable.{Variable}
use Rattle.aud_typed.specs.declared.program.ArrayAt.{ArrayAt}
use Rattle.aud_typed.specs.declared.program.Subtype.{Subtype}
use Rattle.aud_typed.specs.declared.program.Exception as exception
use Rattle.aud_typed.specs.Tree as tree
use Rattle.aud_typed.specs.Tree.{Plan}
use Rattle.aud_typed.specs.Why.Scoped.{Scope, IsElaborated, AreElaborated, IntegerScoped, ReferenceScoped, BooleanScoped, CalleeScoped, IntoScoped, BodyAround, CalledOutside, IsTaskEntry, entry_unit, formals_of, DelayScoped, FormScoped, scope_after, AllThere, ArgumentsScoped, StatementScoped, PartScoped, HandlersScoped, DoingScoped, AlternativesScoped}
use Rattle.aud_names.specs.declared.names.Meaning.{Meaning}
use Rattle.aud_names.specs.declared.names.Meaning.TheVariants.{Object, Exception, Builtin}
use Rattle.aud_names.specs.declared.names.Entry as named_entry
use Rattle.aud_names.specs.declared.names.Owner.{Owner}
use Rattle.aud_names.specs.declared.names.Owner.TheVariants as owner
use Rattle.aud_names.specs.declared.names.Owner.TheVariants.{Single, Element}
use Rattle.aud_names.specs.declared.names.Instance.{Instance}
use Rattle.aud_names.specs.declared.names.Operation as operation
use Rattle.aud_names.specs.declared.names.Meaning.TheVariants as meaning
use Rattle.aud_names.specs.declared.names.Builtin as names_in_memory
use Rattle.aud_names.specs.declared.names.Builtin.TheVariants.{Put, PutLine, NewLine}
use Rattle.aud_names.specs.Names as names
use Rattle.aud_names.specs.Names.{Place}
use Rattle.aud_typing.specs.Expressions.{Typed, number, string, Entity, no_entity, entity, element_of, task_of}
use Rattle.aud_check_bodies.specs.Assignments as assignments
use Rattle.aud_check_bodies.specs.Accepts as accepts
use Rattle.aud_check_bodies.specs.Arguments as arguments
use Rattle.aud_check_bodies.specs.Calls as calls
use Rattle.aud_check_bodies.specs.Values as values
use Rattle.aud_check_bodies.specs.declared.call.Callee.TheVariants.{Operation}
use Rattle.aud_check_bodies.specs.Delays as delays
use Rattle.aud_check_bodies.specs.Selects as selects
use Rattle.aud_check_bodies.specs.Handlers as handlers
use Rattle.aud_check_bodies.specs.Statements as s
use Rattle.aud_check_bodies.specs.Statements.{TypedArm, TypedHandler}
use Rattle.aud_check_bodies.proofs.Scoping.Names.{Known, IsCallable, IsOperation, IsEntry, IsEntryBody, IsNamed, OwnerScoped, MeaningScoped, VisibleScoped, Sees}
use Rattle.aud_check_bodies.proofs.Scoping.Expressions.{TypedScoped, EntityScoped, value_scoped, whole_scoped}
use Rattle.std.proofs.Common.{◌≡◌, ℕ, Bool, true, false, List, [], ◌∷◌, ◌++◌, length, slice_index_or, Option, Some, None, refl, sym, ◌∙◌, subst}
use Rattle.aud_typed.specs.Why.Scoped.{Scope, AllCreatedScoped, scope_behind, all_of_table, Elaborated, Entry, StatementScoped, PartScoped, HandlersScoped, BodyScoped}
use Rattle.aud_names.specs.declared.names.Meaning.TheVariants.{ScalarType, Literal, Object, Array, Exception, Builtin, Procedure, TaskType, Task, TaskArray}
use Rattle.aud_names.specs.Names.{Place}
use Rattle.aud_names.specs.Resolution as resolution
use Rattle.aud_check_bodies.specs.Tables.{Tables, profile_of, entry_profile_of}
use Rattle.aud_typing.specs.Expressions as e
use Rattle.aud_check_bodies.proofs.Scoping.Names.{Known, IsCallable, VisibleScoped, Sees, Fits, regions_see, resolved_scoped}
use Rattle.aud_check_bodies.proofs.Scoping.Expressions.{denoting_scoped, expression_scoped, arguments_scoped, prefix_scoped}
use Rattle.aud_check_bodies.proofs.Scoping.Arguments.{reference_scoped, all_passed_scoped}
use Rattle.aud_check_bodies.proofs.Scoping.Plans.{seen}

-- a statement, which elaborates nothing
abbrev pub IsStatement : Known → Scope → tree.Statement → Type 0
IsStatement known scope x = StatementScoped known.plan known.entries x scope × (scope_after x scope ≡ scope)

abbrev pub ArmScoped : Known → Scope → TypedArm → Type 0
ArmScoped known scope a = BooleanScoped known.plan a.condition scope × StatementScoped known.plan known.entries a.statements scope

abbrev pub HandlerScoped : Known → Scope → TypedHandler → Type 0
HandlerScoped known scope h = AllThere known.plan h.choices × StatementScoped known.plan known.entries h.statements scope

abbrev pub AcceptScoped : Known → Scope → accepts.TypedAccept → Type 0
AcceptScoped known scope a = IsTaskEntry known.plan a.entry × DoingScoped known.plan known.entries a.entry a.doing scope

abbrev pub AlternativeScoped : Known → Scope → selects.TypedAlternative → Type 0
AlternativeScoped known scope (selects.accepts guard a behind) = BooleanScoped known.plan guard scope × AcceptScoped known scope a × PartScoped known.plan known.entries behind scope
AlternativeScoped known scope (selects.delays guard e behind) = BooleanScoped known.plan guard scope × DelayScoped known.plan e scope × PartScoped known.plan known.entries behind scope
AlternativeScoped known scope (selects.terminates guard) = BooleanScoped known.plan guard scope

module _ (known : Known) (scope : Scope) where
  -- statements one after the other

  pub before_scoped : (x : tree.Statement) (xs : List tree.Statement) → IsStatement known scope x → AllByRecursion (IsStatement known scope) xs → StatementScoped known.plan known.entries (tree.before x xs) scope
  before_scoped x [] h i = h.0
  before_scoped x (y ∷ ys) h i = (h.0, subst (λ z. StatementScoped known.plan known.entries (tree.before y ys) z) (sym h.1) (before_scoped y ys i.0 i.1))

  pub part_scoped : (xs : List tree.Statement) → AllByRecursion (IsStatement known scope) xs → PartScoped known.plan known.entries (tree.part_of xs) scope
  part_scoped [] h = tt
  part_scoped (x ∷ xs) h = before_scoped x xs h.0 h.1

  pub arms_then_scoped : (xs : List TypedArm) (otherwise : tree.Part) → AllByRecursion (ArmScoped known scope) xs → PartScoped known.plan known.entries otherwise scope → PartScoped known.plan known.entries (s.arms_then xs otherwise) scope
  arms_then_scoped [] otherwise h i = i
  arms_then_scoped (x ∷ xs) otherwise h i = (h.0.0, h.0.1, arms_then_scoped xs otherwise h.1 i)

  pub handlers_of_scoped : (xs : List TypedHandler) → AllByRecursion (HandlerScoped known scope) xs → HandlersScoped known.plan known.entries (s.handlers_of xs) scope
  handlers_of_scoped [] h = tt
  handlers_of_scoped (x ∷ xs) h = (h.0.0, h.0.1, handlers_of_scoped xs h.1)

  -- assignments

  assigned_to_scoped : (v : Variable) (t : Option Subtype) (at : Pos) (x : Typed) → IsElaborated v scope → TypedScoped known.plan scope x → IsStatement known scope (assignments.assigned_to v t at x)
  assigned_to_scoped v None at x h i = (tt, refl)
  assigned_to_scoped v (Some t) at x h i = ((h, value_scoped known scope t x i), refl)

  assigned_at_scoped : (a : ArrayAt) (index : tree.IntegerExpression) (t : Option Subtype) (at : Pos) (x : Typed) → AreElaborated a scope × IntegerScoped known.plan index scope → TypedScoped known.plan scope x → IsStatement known scope (assignments.assigned_at a index t at x)
  assigned_at_scoped a index None at x h i = (tt, refl)
  assigned_at_scoped a index (Some t) at x h i = ((h, value_scoped known scope t x i), refl)

  meaning_assigned_scoped : (m : Meaning) (at : Pos) (x : Typed) → MeaningScoped known scope m → TypedScoped known.plan scope x → IsStatement known scope (assignments.meaning_assigned m at x)
  meaning_assigned_scoped (Object o) at x h i = assigned_to_scoped o.variable o.subtype at x h i
  meaning_assigned_scoped _ at x h i = (tt, refl)

  pub assigned_scoped : (y : Entity) (at : Pos) (x : Typed) → EntityScoped known scope y → TypedScoped known.plan scope x → IsStatement known scope (assignments.assigned y at x)
  assigned_scoped no_entity at x h i = (tt, refl)
  assigned_scoped (entity m) at x h i = meaning_assigned_scoped m at x h i
  assigned_scoped (element_of a index t) at x h i = assigned_at_scoped a index t at x h i
  assigned_scoped (task_of a index) at x h i = (tt, refl)

  -- calls

  put_scoped : (b : names_in_memory.Builtin) (at : Pos) (t : Typed) → TypedScoped known.plan scope t → IsStatement known scope (calls.put_out b at t)
  put_scoped Put at (string x) h = (h, refl)
  put_scoped PutLine at (string x) h = ((h, tt), refl)
  put_scoped NewLine at t h = (tt, refl)
  put_scoped _ at _ h = (tt, refl)

  pub called_scoped : (m : Option Meaning) (at : Pos) (t : Typed) → TypedScoped known.plan scope t → IsStatement known scope (calls.called m at t)
  called_scoped (Some (Builtin b)) at t h = put_scoped b at t h
  called_scoped _ at t h = (tt, refl)

  -- of a procedure of the program, whose arguments have no faults
  pub procedure_called_scoped : known.complete ≡ true → (unit : ℕ) (at : Pos) (xs : Option (List tree.Argument)) → IsCallable known scope unit → IfSome xs (λ ys. (length ys ≡ length (slice_index_or known.profiles unit [])) × ArgumentsScoped known.plan ys scope) → IsStatement known scope (calls.procedure_called unit at xs)
  procedure_called_scoped whole unit at None h i = (tt, refl)
  procedure_called_scoped whole unit at (Some xs) h i = ((h.entered, i.0 ∙ h.formals, h.outer whole, i.1, tt), refl)

  -- of an operation of an object

  by_access_scoped : known.complete ≡ true → (inside : Bool) (x : Instance) (at : Pos) (c : tree.Calling) → IsElaborated x.variable scope → IsOperation known scope inside c.unit → IsNamed known inside x.variable c.unit → length c.arguments ≡ length (slice_index_or known.profiles c.unit []) → ArgumentsScoped known.plan c.arguments scope → IntoScoped known.plan c.into scope
      → IsStatement known scope (calls.by_access inside x at c)
  by_access_scoped whole true x at c v h m l i j = ((h.entered, l ∙ h.formals, h.outer whole, i, j), refl)
  by_access_scoped whole false x at c v h m l i j = ((v, (h.entered, l ∙ h.formals, h.outer whole, m whole, i, j)), refl)

  pub operation_called_scoped : known.complete ≡ true → (o : operation.Operation) (into : Option tree.Reference) (at : Pos) (xs : Option (List tree.Argument)) → MeaningScoped known scope (meaning.Operation o) → IntoScoped known.plan into scope
      → IfSome xs (λ ys. (length ys ≡ length (slice_index_or known.profiles o.unit [])) × ArgumentsScoped known.plan ys scope) → IsStatement known scope (calls.operation_called o into at xs)
  operation_called_scoped whole o into at None h j i = (tt, refl)
  operation_called_scoped whole o into at (Some xs) h j i = by_access_scoped whole (names.is_inside o.instance.access) o.instance at (record { unit = o.unit; arguments = xs; into = into }) h.0 h.1 h.2 i.0 i.1 j

  -- the value of a function is assigned
  pub returned_scoped : known.complete ≡ true → (r : Option tree.Reference) (o : operation.Operation) (at : Pos) (xs : Option (List tree.Argument)) → MeaningScoped known scope (meaning.Operation o) → IfSome r (λ x. ReferenceScoped known.plan x scope)
      → IfSome xs (λ ys. (length ys ≡ length (slice_index_or known.profiles o.unit [])) × ArgumentsScoped known.plan ys scope) → IsStatement known scope (values.returned_into r o at xs)
  returned_scoped whole None o at xs h j i = (tt, refl)
  returned_scoped whole (Some r) o at xs h j i = operation_called_scoped whole o (Some r) at xs h j i

  -- of an entry

  abbrev pub WhoseScoped : ℕ → calls.Whose → Type 0
  WhoseScoped k calls.own_object = Unit {0}
  WhoseScoped k (calls.another c) = CalleeScoped known.plan c scope × BodyAround known.plan known.entries c k scope × CalledOutside known.plan known.entries c k

  abbrev pub CalledScoped : calls.EntryCalled → Type 0
  CalledScoped c = IsEntry known c.entry × (length c.arguments ≡ formals_of known.plan c.entry) × WhoseScoped c.entry c.whose × ArgumentsScoped known.plan c.arguments scope

  entry_call_to_scoped : (x : calls.Whose) (at : Pos) (k : ℕ) (xs : List tree.Argument) (form : tree.CallForm) (p q : tree.Part) → FormScoped known.plan form scope → PartScoped known.plan known.entries p scope → PartScoped known.plan known.entries q scope → IsEntry known k → length xs ≡ formals_of known.plan k → WhoseScoped k x → ArgumentsScoped known.plan xs scope
      → IsStatement known scope (calls.entry_call_to x at k xs form p q)
  entry_call_to_scoped calls.own_object at k xs form p q f h i n l w c = ((c, f), refl)
  entry_call_to_scoped (calls.another y) at k xs form p q f h i n l w c = (((n.0, l, w.0, c, f, w.1, w.2), h, i), refl)

  pub entry_call_scoped : (at : Pos) (form : tree.CallForm) (p q : tree.Part) (c : Option calls.EntryCalled) → FormScoped known.plan form scope → PartScoped known.plan known.entries p scope → PartScoped known.plan known.entries q scope → IfSome c CalledScoped → IsStatement known scope (calls.entry_call_of at form p q c)
  entry_call_scoped at form p q None f h i c = (tt, refl)
  entry_call_scoped at form p q (Some x) f h i c = entry_call_to_scoped x.whose at x.entry x.arguments form p q f h i c.0 c.1 c.2 c.3

  object_scoped : known.complete ≡ true → (inside : Bool) (x : Instance) (n : ℕ) → IsElaborated x.variable scope → IsEntryBody known scope n → IsNamed known inside x.variable (entry_unit known.plan n) → WhoseScoped n (calls.called_object inside x)
  object_scoped whole true x n v h m = tt
  object_scoped whole false x n v h m = (v, (h.entered, h.outer whole), m whole)

  owner_scoped : known.complete ≡ true → (x : Owner) (n : ℕ) (t : Typed) → OwnerScoped known n x scope → TypedScoped known.plan scope t → IfSome (calls.called_owner x t) (WhoseScoped n)
  owner_scoped whole (Single v) n t h i = (h.0, h.1, tt)
  owner_scoped whole (Element a) n (number k) h i = ((h.0, i), h.1, tt)
  owner_scoped whole (Element a) n _ h i = tt
  owner_scoped whole (owner.Object x) n t h i = object_scoped whole (names.is_inside x.access) x n h.0 h.1 h.2

  with_called : (n : ℕ) (t : Option calls.Whose) (xs : Option (List tree.Argument)) (k : ℕ) → IsEntry known n → k ≡ formals_of known.plan n → IfSome t (WhoseScoped n) → IfSome xs (λ ys. (length ys ≡ k) × ArgumentsScoped known.plan ys scope) → IfSome (calls.called_with n t xs) CalledScoped
  with_called n None xs k e l h i = tt
  with_called n (Some t) None k e l h i = tt
  with_called n (Some t) (Some xs) k e l h i = (e, i.0 ∙ l, h, i.1)

  -- alternatives
  pub alternatives_scoped : (xs : List selects.TypedAlternative) → AllByRecursion (AlternativeScoped known scope) xs → AlternativesScoped known.plan known.entries (selects.alternatives_of xs) scope
  alternatives_scoped [] h = tt
  alternatives_scoped (selects.accepts guard a behind ∷ xs) h = (h.0.0, h.0.1.0, h.0.1.1, h.0.2, alternatives_scoped xs h.1)
  alternatives_scoped (selects.delays guard e behind ∷ xs) h = (h.0.0, h.0.1, h.0.2, alternatives_scoped xs h.1)
  alternatives_scoped (selects.terminates guard ∷ xs) h = (h.0, alternatives_scoped xs h.1)

  -- exceptions

  raised_scoped : (m : Option Meaning) (at : Pos) → VisibleScoped known scope m → IsStatement known scope (handlers.raised_by at (handlers.exception_meant m))
  raised_scoped (Some (Exception x)) at h = (h, refl)
  raised_scoped _ at h = (tt, refl)

  meant_there : (m : Option Meaning) (xs : List exception.Exception) → VisibleScoped known scope m → AllThere known.plan xs → AllThere known.plan (handlers.with_meant (handlers.exception_meant m) xs)
  meant_there (Some (Exception x)) xs h i = (h, i)
  meant_there _ xs h i = i

  exceptions_there : (is : List Ident) (n : Place) → Sees known scope n → AllThere known.plan (handlers.exceptions_of is n)
  exceptions_there [] n sees = tt
  exceptions_there (i ∷ is) n sees = meant_there (names.visible i.name n) _ (sees.visible i.name) (exceptions_there is n sees)

  pub choices_there : (x : plain.Choices) (n : Place) → Sees known scope n → AllThere known.plan (handlers.choices_of x n)
  choices_there (plain.exceptions first more) n sees = exceptions_there (first ∷ more) n sees
  choices_there (plain.others at) n sees = tt

  pub raise_scoped : (at : Pos) (x : Option Ident) (n : Place) → Sees known scope n → IsStatement known scope (handlers.typed_raise at x n)
  raise_scoped at None n sees = (tt, refl)
  raise_scoped at (Some i) n sees = raised_scoped (names.visible i.name n) at (sees.visible i.name)

module _ (plan : Plan) (entries : List Entry) where
  -- what a call of an entry calls
  pub entry_called_scoped : (x : named_entry.Entry) (y : plain.Name) (n : Place) (t : Tables) (scope : Scope) → Sees (seen plan entries t) scope n → IsEntry (seen plan entries t) x.number × OwnerScoped (seen plan entries t) x.number x.owner scope → IfSome (calls.entry_called x y n t) (CalledScoped (seen plan entries t) scope)
  entry_called_scoped x y n t scope sees h =
      with_called (seen plan entries t) scope x.number _ _ _ h.0 h.0.2 (owner_scoped (seen plan entries t) scope refl x.owner x.number _ h.1 (index x.owner)) (all_passed_scoped (seen plan entries t) scope n sees (entry_profile_of x.number t) (resolution.last_args y))
    where
      index : (o : Owner) → TypedScoped plan scope (calls.index_checked o y n).typed
      index (Single v) = tt
      index (Element a) = prefix_scoped (seen plan entries t) scope n sees y
      index (owner.Object z) = tt

  operation_scoped : (v : Bool) (o : operation.Operation) (x : plain.Name) (n : Place) (t : Tables) (scope : Scope) → Sees (seen plan entries t) scope n → MeaningScoped (seen plan entries t) scope (meaning.Operation o)
      → IsStatement (seen plan entries t) scope (calls.called_as (if v then None else Some (Operation o)) (record { meaning = Some (meaning.Operation o); at = (resolution.resolved x n).denoted.at }) x n t)
  operation_scoped true o x n t scope sees h = (tt, refl)
  operation_scoped false o x n t scope sees h = operation_called_scoped (seen plan entries t) scope refl o None (resolution.name_ident x).at _ h tt (all_passed_scoped (seen plan entries t) scope n sees (profile_of o.unit t) (resolution.last_args x))

  -- a call
  pub call_scoped : (x : plain.Name) (n : Place) (t : Tables) (scope : Scope) → Fits (seen plan entries t) scope n → IsStatement (seen plan entries t) scope (calls.typed_call x n t)
  call_scoped x n t scope fits = by (resolution.resolved x n).denoted.meaning (resolved_scoped (seen plan entries t) scope n sees x)
    where
      sees : Sees (seen plan entries t) scope n
      sees = regions_see (seen plan entries t) scope n fits.regions

      at : Pos
      at = (resolution.name_ident x).at

      other : (m : Option Meaning) → IsStatement (seen plan entries t) scope (calls.called m at (e.checked_arguments x n).typed)
      other m = called_scoped (seen plan entries t) scope m at _ (arguments_scoped (seen plan entries t) scope n sees x)

      by : (m : Option Meaning) → VisibleScoped (seen plan entries t) scope m → IsStatement (seen plan entries t) scope (calls.called_as (calls.callee_meant m) (record { meaning = m; at = (resolution.resolved x n).denoted.at }) x n t)
      by (Some (Procedure unit)) h = procedure_called_scoped (seen plan entries t) scope refl unit at _ h (all_passed_scoped (seen plan entries t) scope n sees (profile_of unit t) (resolution.last_args x))
      by (Some (meaning.Operation o)) h = operation_scoped (resolution.is_value o.subprogram) o x n t scope sees h
      by (Some (meaning.Protected y)) h = other (Some (meaning.Protected y))
      by (Some meaning.Barred) h = other (Some meaning.Barred)
      by (Some (meaning.Entry y)) h = entry_call_scoped (seen plan entries t) scope at tree.plainly tree.nothing tree.nothing (calls.entry_called y x n t) tt tt tt (entry_called_scoped y x n t scope sees h)
      by None h = other None
      by (Some (Builtin b)) h = other (Some (Builtin b))
      by (Some (ScalarType u)) h = other (Some (ScalarType u))
      by (Some (Literal b)) h = other (Some (Literal b))
      by (Some (Object o)) h = other (Some (Object o))
      by (Some (Array a)) h = other (Some (Array a))
      by (Some (Exception y)) h = other (Some (Exception y))
      by (Some (TaskType k)) h = other (Some (TaskType k))
      by (Some (Task v)) h = other (Some (Task v))
      by (Some (TaskArray a)) h = other (Some (TaskArray a))

  -- an assignment

  value_assigned_scoped : (f : Option values.FunctionCalled) (x : plain.Name) (value : plain.Expression) (n : Place) (t : Tables) (scope : Scope) → Sees (seen plan entries t) scope n → IfSome f (λ g. MeaningScoped (seen plan entries t) scope (meaning.Operation g.operation))
      → IsStatement (seen plan entries t) scope (values.value_assigned f value (assignments.target_of x n).entity (resolution.name_ident x).at n t)
  value_assigned_scoped None x value n t scope sees h =
      assigned_scoped (seen plan entries t) scope (assignments.target_of x n).entity (resolution.name_ident x).at (e.checked_expression value n).typed (denoting_scoped (seen plan entries t) scope n sees x _ (arguments_scoped (seen plan entries t) scope n sees x)) (expression_scoped (seen plan entries t) scope n sees value)
  value_assigned_scoped (Some f) x value n t scope sees h =
      returned_scoped (seen plan entries t) scope refl (arguments.reference_of (assignments.target_of x n).entity) f.operation (resolution.name_ident x).at (arguments.all_passed (profile_of f.operation.unit t) (resolution.last_args f.name) n) h
      (reference_scoped (seen plan entries t) scope (assignments.target_of x n).entity (denoting_scoped (seen plan entries t) scope n sees x _ (arguments_scoped (seen plan entries t) scope n sees x)))
      (all_passed_scoped (seen plan entries t) scope n sees (profile_of f.operation.unit t) (resolution.last_args f.name))

  function_scoped : (m : Option Meaning) (y : plain.Name) (at : Pos) (t : Tables) (scope : Scope) → VisibleScoped (seen plan entries t) scope m → IfSome (values.function_denoted y at m) (λ g. MeaningScoped (seen plan entries t) scope (meaning.Operation g.operation))
  function_scoped (Some (meaning.Operation o)) y at t scope h = by (resolution.is_value o.subprogram)
    where
      by : (b : Bool) → IfSome (if b then Some (record { name = y; operation = o; at = at }) else None) (λ (g : values.FunctionCalled). MeaningScoped (seen plan entries t) scope (meaning.Operation g.operation))
      by true = h
      by false = tt
  function_scoped _ y at t scope h = tt

  called_function_scoped : (y : Option plain.Name) (n : Place) (t : Tables) (scope : Scope) → Sees (seen plan entries t) scope n → IfSome (values.function_named y n) (λ g. MeaningScoped (seen plan entries t) scope (meaning.Operation g.operation))
  called_function_scoped None n t scope sees = tt
  called_function_scoped (Some y) n t scope sees = function_scoped (resolution.resolved y n).denoted.meaning y (resolution.resolved y n).denoted.at t scope (resolved_scoped (seen plan entries t) scope n sees y)

  pub assign_scoped : (x : plain.Name) (value : plain.Expression) (n : Place) (t : Tables) (scope : Scope) → Sees (seen plan entries t) scope n → IsStatement (seen plan entries t) scope (values.typed_assign x value n t)
  assign_scoped x value n t scope sees = value_assigned_scoped (values.function_called value n) x value n t scope sees (called_function_scoped (arguments.expression_name value) n t scope sees)

  -- a timed or a conditional call

  selected_operation_scoped : (v : Bool) (o : operation.Operation) (x : plain.Name) (n : Place) (t : Tables) (scope : Scope) → IfSome (calls.selected_as (if v then None else Some (Operation o)) x n t) (CalledScoped (seen plan entries t) scope)
  selected_operation_scoped true o x n t scope = tt
  selected_operation_scoped false o x n t scope = tt

  selected_as_scoped : (m : Option Meaning) (x : plain.Name) (n : Place) (t : Tables) (scope : Scope) → Sees (seen plan entries t) scope n → VisibleScoped (seen plan entries t) scope m → IfSome (calls.selected_as (calls.callee_meant m) x n t) (CalledScoped (seen plan entries t) scope)
  selected_as_scoped (Some (meaning.Entry y)) x n t scope sees h = entry_called_scoped y x n t scope sees h
  selected_as_scoped (Some (meaning.Operation o)) x n t scope sees h = selected_operation_scoped (resolution.is_value o.subprogram) o x n t scope
  selected_as_scoped _ x n t scope sees h = tt

  pub selected_scoped : (x : plain.Name) (n : Place) (t : Tables) (scope : Scope) → Sees (seen plan entries t) scope n → IfSome (calls.selected_call x n t) (CalledScoped (seen plan entries t) scope)
  selected_scoped x n t scope sees = selected_as_scoped (resolution.resolved x n).denoted.meaning x n t scope sees (resolved_scoped (seen plan entries t) scope n sees x)

  pub delay_scoped : (x : plain.Delay) (n : Place) (t : Tables) (scope : Scope) → Sees (seen plan entries t) scope n → DelayScoped plan (delays.typed_delay x n) scope
  delay_scoped (plain.delay_real at r) n t scope sees = tt
  delay_scoped (plain.delay_duration at named x) n t scope sees = whole_scoped (seen plan entries t) scope (e.checked_expression x n).typed (expression_scoped (seen plan entries t) scope n sees x)

  pub form_scoped : (x : plain.Otherwise) (n : Place) (t : Tables) (scope : Scope) → Sees (seen plan entries t) scope n → FormScoped plan (selects.form_of x n) scope
  form_scoped (plain.or_delay d ss) n t scope sees = delay_scoped d n t scope sees
  form_scoped (plain.or_else ss) n t scope sees = tt

  -- a body whose region is entered
  pub body_with_scoped : (xs : List tree.Statement) (b : plain.Body) (x : s.TypedBody) (first : Elaborated) (shown : List tree.Named) (scope : Scope)
      → PartScoped plan entries (tree.part_of xs) (scope ++ first ∷ []) → scope_behind (tree.part_of xs) (scope ++ first ∷ []) ≡ scope ++ all_of_table shown ∷ []
      → AllCreatedScoped plan entries (tree.part_of xs) (scope ++ all_of_table shown ∷ [])
      → StatementScoped plan entries x.statements (scope ++ all_of_table shown ∷ []) → HandlersScoped plan entries x.handlers (scope ++ all_of_table shown ∷ []) → BodyScoped plan entries (s.body_with xs b x) first shown scope
  body_with_scoped xs (plain.body begin ss hs end name semicolon) x first shown scope h i c j k = (h, i, c, j, k)
