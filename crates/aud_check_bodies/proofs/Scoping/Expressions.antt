-- What expressions read is elaborated.
use Rattle.std.specs.Prelude.{IfSome, ◌&&◌}
use Rattle.std.specs.Str.{bytes_eq}
use Rattle.std.specs.Map.{lookup}
use Rattle.std.proofs.Common.{ℕ, ℤ, Option, Some, None}
use Rattle.aud_text.specs.declared.place.Pos.{Pos}
use Rattle.aud_syntax.specs.declared.tree.Ident.{Ident}
use Rattle.aud_syntax.specs.declared.tree.Signed.{Signed}
use Rattle.aud_syntax.specs.declared.tree.Sign.{Sign}
use Rattle.aud_syntax.specs.declared.tree.Sign.TheVariants as sign
use Rattle.aud_syntax.specs.declared.tree.Adding.{Adding}
use Rattle.aud_syntax.specs.declared.tree.Adding.TheVariants as adding
use Rattle.aud_syntax.specs.declared.tree.Highest.{Highest}
use Rattle.aud_syntax.specs.declared.tree.Highest.TheVariants.{Magnitude, Not}
use Rattle.aud_syntax.specs.declared.tree.Relational.{Relational}
use Rattle.aud_syntax.specs.declared.tree.Connective.{Connective}
use Rattle.aud_syntax.specs.declared.tree.Connective.TheVariants as connective
use Rattle.aud_syntax.specs.Plain as plain
use Rattle.aud_typed.specs.declared.program.Variable.{Variable}
use Rattle.aud_typed.specs.declared.program.ArrayAt.{ArrayAt}
use Rattle.aud_typed.specs.declared.program.Subtype.{Subtype}
use Rattle.aud_typed.specs.declared.program.Subtype.TheVariants.{Integer, Natural, Positive, Boolean}
use Rattle.aud_typed.specs.declared.program.Unary.{Unary}
use Rattle.aud_typed.specs.declared.program.Unary.TheVariants as unary
use Rattle.aud_typed.specs.declared.program.Binary.{Binary}
use Rattle.aud_typed.specs.Tree as tree
use Rattle.aud_typed.specs.Tree.{Plan}
use Rattle.aud_typed.specs.Why.Scoped.{Scope, IsElaborated, AreElaborated, IntegerScoped, TaskScoped, BooleanScoped, ValueScoped, TextScoped}
use Rattle.aud_names.specs.declared.names.Array as array
use Rattle.aud_names.specs.declared.names.TaskArray as task_array
use Rattle.aud_names.specs.declared.names.Meaning.{Meaning}
use Rattle.aud_names.specs.declared.names.Entry as named_entry
use Rattle.aud_names.specs.declared.names.Owner.{Owner}
use Rattle.aud_names.specs.declared.names.Owner.TheVariants as owner
use Rattle.aud_names.specs.declared.names.Owner.TheVariants.{Single, Element}
use Rattle.aud_names.specs.declared.names.Meaning.TheVariants.{ScalarType, Literal, Object, Array, Task, TaskArray, Entry}
use Rattle.aud_typing.specs.declared.attribute.Attribute.{Attribute}
use Rattle.aud_typing.specs.declared.attribute.Attribute.TheVariants.{Image, First, Last, Length, Callable, Terminated, Count}
use Rattle.aud_names.specs.declared.rules.Base.{Base}
use Rattle.aud_names.specs.declared.rules.Base.TheVariants.{Whole, Truth}
use Rattle.aud_names.specs.Arrays.{array_at, task_array_at}
use Rattle.aud_names.specs.Resolution as resolution
use Rattle.aud_names.specs.Names.{Place, is_countable}
use Rattle.aud_names.specs.Rules as rules
use Rattle.aud_typing.specs.Expressions as e
use Rattle.aud_typing.specs.Expressions.{Typed, number, boolean, string, unknown, Entity, no_entity, entity, element_of, task_of, Denoting}
use Rattle.aud_check_bodies.specs.Declarations as d
use Rattle.aud_typing.specs.Conditions as q
use Rattle.aud_check_bodies.specs.Statements as s
use Rattle.aud_check_bodies.proofs.Scoping.Names.{Known, IsEntry, OwnerScoped, MeaningScoped, VisibleScoped, Sees, either, resolved_scoped}

-- nothing is said of an expression whose type is unknown
abbrev pub TypedScoped : Plan → Scope → Typed → Type 0
TypedScoped plan scope (number x) = IntegerScoped plan x scope
TypedScoped plan scope (boolean x) = BooleanScoped plan x scope
TypedScoped plan scope (string x) = TextScoped plan x scope
TypedScoped plan scope unknown = Unit {0}

-- what a name denotes may be used
abbrev pub EntityScoped : Known → Scope → Entity → Type 0
EntityScoped known scope no_entity = Unit {0}
EntityScoped known scope (entity m) = MeaningScoped known scope m
EntityScoped known scope (element_of a index t) = AreElaborated a scope × IntegerScoped known.plan index scope
EntityScoped known scope (task_of a index) = AreElaborated a scope × IntegerScoped known.plan index scope

module _ (known : Known) (scope : Scope) where
  number_scoped : (x : Option ℤ) (at : Pos) → TypedScoped known.plan scope (e.checked_number x at).typed
  number_scoped None at = tt
  number_scoped (Some x) at = tt

  one_scoped : (operator : Unary) (t : Typed) → TypedScoped known.plan scope t → TypedScoped known.plan scope (e.one operator t)
  one_scoped operator (number x) h = h
  one_scoped operator _ h = tt

  integer_scoped : (t : Typed) → TypedScoped known.plan scope t → TypedScoped known.plan scope (e.integer_only t)
  integer_scoped (number x) h = h
  integer_scoped _ h = tt

  sign_scoped : (x : Sign) (t : Typed) → TypedScoped known.plan scope t → TypedScoped known.plan scope (elim x as (λ _. Typed) [ sign.Plus ↦ e.integer_only t | sign.Minus ↦ e.one unary.Negative t ])
  sign_scoped sign.Plus t h = integer_scoped t h
  sign_scoped sign.Minus t h = one_scoped unary.Negative t h

  signed_scoped : (x : Option Signed) (at : Pos) (t : Typed) → TypedScoped known.plan scope t → TypedScoped known.plan scope (e.signed x at t).typed
  signed_scoped None at t h = h
  signed_scoped (Some x) at t h = sign_scoped x.sign t h

  combined_scoped : (operator : Binary) (x y : Typed) → TypedScoped known.plan scope x → TypedScoped known.plan scope y → TypedScoped known.plan scope (e.combined operator x y)
  combined_scoped operator (number x) (number y) h i = (h, i)
  combined_scoped operator _ _ h i = tt

  joined_scoped : (x y : Typed) → TypedScoped known.plan scope x → TypedScoped known.plan scope y → TypedScoped known.plan scope (e.joined x y)
  joined_scoped (string x) (string y) h i = (h, i)
  joined_scoped _ _ h i = tt

  adding_scoped : (operator : Adding) (at : Pos) (x : Typed) (at' : Pos) (y : Typed) → TypedScoped known.plan scope x → TypedScoped known.plan scope y → TypedScoped known.plan scope (e.adding_operator operator at x at' y).typed
  adding_scoped adding.Join at x at' y h i = joined_scoped x y h i
  adding_scoped _ at x at' y h i = combined_scoped _ x y h i

  negated_scoped : (t : Typed) → TypedScoped known.plan scope t → TypedScoped known.plan scope (e.negated t)
  negated_scoped (boolean x) h = h
  negated_scoped _ h = tt

  highest_scoped : (operator : Highest) (at : Pos) (t : Typed) → TypedScoped known.plan scope t → TypedScoped known.plan scope (e.highest operator at t).typed
  highest_scoped Magnitude at t h = one_scoped unary.Magnitude t h
  highest_scoped Not at t h = negated_scoped t h

  compared_scoped : (operator : Relational) (x y : Typed) → TypedScoped known.plan scope x → TypedScoped known.plan scope y → TypedScoped known.plan scope (e.compared operator x y)
  compared_scoped operator (number x) (number y) h i = (h, i)
  compared_scoped operator (boolean x) (boolean y) h i = (h, i)
  compared_scoped operator (number x) _ h i = tt
  compared_scoped operator (boolean x) _ h i = tt
  compared_scoped operator _ _ h i = tt

  both_of_scoped : (c : Connective) (x y : tree.BooleanExpression) → BooleanScoped known.plan x scope → BooleanScoped known.plan y scope → BooleanScoped known.plan (e.both_of c x y) scope
  both_of_scoped connective.And x y h i = (h, i)
  both_of_scoped connective.Or x y h i = (h, i)
  both_of_scoped connective.Xor x y h i = (h, i)
  both_of_scoped connective.AndThen x y h i = (h, i)
  both_of_scoped connective.OrElse x y h i = (h, i)

  both_scoped : (c : Connective) (x y : Typed) → TypedScoped known.plan scope x → TypedScoped known.plan scope y → TypedScoped known.plan scope (e.both c x y)
  both_scoped c (boolean x) (boolean y) h i = both_of_scoped c x y h i
  both_scoped c _ _ h i = tt

  -- names

  stored_scoped : (v : Variable) (t : Option Subtype) → IsElaborated v scope → TypedScoped known.plan scope (e.stored v t)
  stored_scoped v None h = tt
  stored_scoped v (Some Integer) h = h
  stored_scoped v (Some Natural) h = h
  stored_scoped v (Some Positive) h = h
  stored_scoped v (Some Boolean) h = h

  element_scoped : (a : ArrayAt) (index : tree.IntegerExpression) (t : Option Subtype) → AreElaborated a scope × IntegerScoped known.plan index scope → TypedScoped known.plan scope (e.stored_at a index t)
  element_scoped a index None h = tt
  element_scoped a index (Some Integer) h = h
  element_scoped a index (Some Natural) h = h
  element_scoped a index (Some Positive) h = h
  element_scoped a index (Some Boolean) h = h

  meaning_scoped : (m : Meaning) → MeaningScoped known scope m → TypedScoped known.plan scope (e.meaning_read m)
  meaning_scoped (Object o) h = stored_scoped o.variable o.subtype h
  meaning_scoped (Literal b) h = tt
  meaning_scoped _ h = tt

  read_scoped : (x : Entity) → EntityScoped known scope x → TypedScoped known.plan scope (e.value_read x)
  read_scoped no_entity h = tt
  read_scoped (entity m) h = meaning_scoped m h
  read_scoped (element_of a index t) h = element_scoped a index t h
  read_scoped (task_of a index) h = tt

  element_with_scoped : (a : array.Array) (t : Typed) → AreElaborated (array_at a) scope → TypedScoped known.plan scope t → EntityScoped known scope (e.element_with a t)
  element_with_scoped a (number index) h i = (h, i)
  element_with_scoped a _ h i = tt

  array_scoped : (a : array.Array) (xs : plain.Args) (at : Pos) (last : Typed) → AreElaborated (array_at a) scope → TypedScoped known.plan scope last → EntityScoped known scope (e.array_indexed a xs at last).entity
  array_scoped a plain.no_args at last h i = h
  array_scoped a (plain.more_args x plain.no_args) at last h i = element_with_scoped a last h i
  array_scoped a (plain.more_args x (plain.more_args y more)) at last h i = tt

  task_with_scoped : (a : task_array.TaskArray) (t : Typed) → AreElaborated (task_array_at a) scope → TypedScoped known.plan scope t → EntityScoped known scope (e.task_with a t)
  task_with_scoped a (number index) h i = (h, i)
  task_with_scoped a _ h i = tt

  tasks_scoped : (a : task_array.TaskArray) (xs : plain.Args) (at : Pos) (last : Typed) → AreElaborated (task_array_at a) scope → TypedScoped known.plan scope last → EntityScoped known scope (e.tasks_indexed a xs at last).entity
  tasks_scoped a plain.no_args at last h i = h
  tasks_scoped a (plain.more_args x plain.no_args) at last h i = task_with_scoped a last h i
  tasks_scoped a (plain.more_args x (plain.more_args y more)) at last h i = tt

  indexed_scoped : (m : Option Meaning) (xs : plain.Args) (at : Pos) (last : Typed) → VisibleScoped known scope m → TypedScoped known.plan scope last → EntityScoped known scope (e.indexed m xs at last).entity
  indexed_scoped None xs at last h i = tt
  indexed_scoped (Some (Array a)) xs at last h i = array_scoped a xs at last h i
  indexed_scoped (Some (TaskArray a)) xs at last h i = tasks_scoped a xs at last h i
  indexed_scoped (Some m) xs at last h i = h

  -- attributes

  no_argument_scoped : (designator : Pos) (a : Option (Pos × Typed)) (t : Typed) → TypedScoped known.plan scope t → TypedScoped known.plan scope (e.without_argument designator a t).typed
  no_argument_scoped designator None t h = h
  no_argument_scoped designator (Some a) t h = tt

  image_scoped : (t : Typed) → TypedScoped known.plan scope t → TypedScoped known.plan scope (e.image_of t)
  image_scoped (number x) h = h
  image_scoped (boolean x) h = h
  image_scoped _ h = tt

  image_of_type_scoped : (base : Base) (t : Typed) → TypedScoped known.plan scope t → TypedScoped known.plan scope (e.image_of_type base t)
  image_of_type_scoped Whole (number x) h = h
  image_of_type_scoped Truth (boolean x) h = h
  image_of_type_scoped _ _ h = tt

  image_with_scoped : (base : Base) (designator : Pos) (a : Option (Pos × Typed)) → IfSome a (λ x. TypedScoped known.plan scope x.1) → TypedScoped known.plan scope (e.image_with base designator a).typed
  image_with_scoped base designator None i = tt
  image_with_scoped base designator (Some a) i = image_of_type_scoped base a.1 i

  any_image_scoped : (m : Meaning) (prefix designator : Pos) (a : Option (Pos × Typed)) → MeaningScoped known scope m → IfSome a (λ x. TypedScoped known.plan scope x.1) → TypedScoped known.plan scope (e.image m prefix designator a).typed
  any_image_scoped (ScalarType t) prefix designator a h i = image_with_scoped (rules.base_of_subtype t) designator a i
  any_image_scoped (Object o) prefix designator a h i = no_argument_scoped designator a _ (image_scoped (e.stored o.variable o.subtype) (stored_scoped o.variable o.subtype h))
  any_image_scoped (Literal b) prefix designator a h i = no_argument_scoped designator a _ tt
  any_image_scoped _ prefix designator a h i = tt

  bound_scoped : (x : Option ℤ) (prefix designator : Pos) (a : Option (Pos × Typed)) → TypedScoped known.plan scope (e.bound x prefix designator a).typed
  bound_scoped None prefix designator a = tt
  bound_scoped (Some x) prefix designator a = no_argument_scoped designator a _ tt

  asked_scoped : (x : Option tree.BooleanExpression) (prefix designator : Pos) (a : Option (Pos × Typed)) → IfSome x (λ b. BooleanScoped known.plan b scope) → TypedScoped known.plan scope (e.asked x prefix designator a).typed
  asked_scoped None prefix designator a h = tt
  asked_scoped (Some x) prefix designator a h = no_argument_scoped designator a _ h

  callable_scoped : (m : Meaning) → MeaningScoped known scope m → IfSome (e.callable_of m) (λ b. BooleanScoped known.plan b scope)
  callable_scoped (Task t) h = h
  callable_scoped _ h = tt

  terminated_scoped : (m : Meaning) → MeaningScoped known scope m → IfSome (e.terminated_of m) (λ b. BooleanScoped known.plan b scope)
  terminated_scoped (Task t) h = h
  terminated_scoped _ h = tt

  count_value_scoped : (x : Owner) (k : ℕ) → IsEntry known k → OwnerScoped known k x scope → TypedScoped known.plan scope (e.count_value x k)
  count_value_scoped (Single v) k there h = (h.0, there.0)
  count_value_scoped (Element a) k there h = tt
  count_value_scoped (owner.Object x) k there h = (h.0, there.0)

  counted_scoped : (x : named_entry.Entry) (xs : plain.Args) (at : Pos) (n : Place) → IsEntry known x.number → OwnerScoped known x.number x.owner scope → TypedScoped known.plan scope (e.counted x xs at n).typed
  counted_scoped x xs at n there h = either (TypedScoped known.plan scope) (resolution.are_none xs && is_countable x n) (e.count_value x.owner x.number) unknown (count_value_scoped x.owner x.number there h) tt

  count_scoped : (m : Meaning) (xs : plain.Args) (prefix designator : Pos) (a : Option (Pos × Typed)) (n : Place) → MeaningScoped known scope m → TypedScoped known.plan scope (e.count m xs prefix designator a n).typed
  count_scoped (Entry x) xs prefix designator a n h = no_argument_scoped designator a _ (counted_scoped x xs prefix n h.0 h.1)
  count_scoped _ xs prefix designator a n h = tt

  attribute_of_scoped : (x : Attribute) (m : Meaning) (xs : plain.Args) (prefix designator : Pos) (a : Option (Pos × Typed)) (n : Place) → MeaningScoped known scope m → IfSome a (λ x. TypedScoped known.plan scope x.1) → TypedScoped known.plan scope (e.attribute_of x m xs prefix designator a n).typed
  attribute_of_scoped Image m xs prefix designator a n h i = any_image_scoped m prefix designator a h i
  attribute_of_scoped First m xs prefix designator a n h i = bound_scoped (e.first_of m) prefix designator a
  attribute_of_scoped Last m xs prefix designator a n h i = bound_scoped (e.last_of m) prefix designator a
  attribute_of_scoped Length m xs prefix designator a n h i = bound_scoped (e.length_of m) prefix designator a
  attribute_of_scoped Callable m xs prefix designator a n h i = asked_scoped (e.callable_of m) prefix designator a (callable_scoped m h)
  attribute_of_scoped Terminated m xs prefix designator a n h i = asked_scoped (e.terminated_of m) prefix designator a (terminated_scoped m h)
  attribute_of_scoped Count m xs prefix designator a n h i = count_scoped m xs prefix designator a n h

  attribute_named_scoped : (x : Option Attribute) (m : Meaning) (xs : plain.Args) (prefix designator : Pos) (a : Option (Pos × Typed)) (n : Place) → MeaningScoped known scope m → IfSome a (λ x. TypedScoped known.plan scope x.1) → TypedScoped known.plan scope (e.attribute_named x m xs prefix designator a n).typed
  attribute_named_scoped None m xs prefix designator a n h i = tt
  attribute_named_scoped (Some x) m xs prefix designator a n h i = attribute_of_scoped x m xs prefix designator a n h i

  element_attribute_scoped : (x : Option Attribute) (t : Typed) (prefix designator : Pos) (a : Option (Pos × Typed)) → TypedScoped known.plan scope t → TypedScoped known.plan scope (e.element_attribute x t prefix designator a).typed
  element_attribute_scoped None t prefix designator a h = tt
  element_attribute_scoped (Some Image) t prefix designator a h = no_argument_scoped designator a _ (image_scoped t h)
  element_attribute_scoped (Some _) t prefix designator a h = tt

  task_attribute_scoped : (x : Option Attribute) (task : tree.TaskName) (prefix designator : Pos) (a : Option (Pos × Typed)) → TaskScoped known.plan task scope → TypedScoped known.plan scope (e.task_attribute x task prefix designator a).typed
  task_attribute_scoped None task prefix designator a h = tt
  task_attribute_scoped (Some Callable) task prefix designator a h = no_argument_scoped designator a _ h
  task_attribute_scoped (Some Terminated) task prefix designator a h = no_argument_scoped designator a _ h
  task_attribute_scoped (Some _) task prefix designator a h = tt

  attribute_scoped : (x : Entity) (xs : plain.Args) (prefix : Pos) (designator : Ident) (a : Option (Pos × Typed)) (n : Place) → EntityScoped known scope x → IfSome a (λ x. TypedScoped known.plan scope x.1) → TypedScoped known.plan scope (e.attribute_if x xs prefix designator a n).typed
  attribute_scoped no_entity xs prefix designator a n h i = tt
  attribute_scoped (entity m) xs prefix designator a n h i = either (λ (y : e.Checked). TypedScoped known.plan scope y.typed) (resolution.is_function m) _ _ tt (attribute_named_scoped (lookup (bytes_eq designator.name) e.attributes) m xs prefix designator.at a n h i)
  attribute_scoped (element_of v index t) xs prefix designator a n h i = element_attribute_scoped (lookup (bytes_eq designator.name) e.attributes) (e.stored_at v index t) prefix designator.at a (element_scoped v index t h)
  attribute_scoped (task_of v index) xs prefix designator a n h i = task_attribute_scoped (lookup (bytes_eq designator.name) e.attributes) (tree.indexed v index) prefix designator.at a h

  -- values for places that ask for a subtype

  default_scoped : (t : Subtype) → ValueScoped known.plan (d.default_value t) scope
  default_scoped Integer = tt
  default_scoped Natural = tt
  default_scoped Positive = tt
  default_scoped Boolean = tt

  pub value_scoped : (t : Subtype) (x : Typed) → TypedScoped known.plan scope x → ValueScoped known.plan (d.value_for t x) scope
  value_scoped t (number x) h = h
  value_scoped t (boolean x) h = h
  value_scoped t (string x) h = default_scoped t
  value_scoped t unknown h = default_scoped t

  truth_scoped : (t : Typed) → TypedScoped known.plan scope t → BooleanScoped known.plan (q.truth_of t) scope
  truth_scoped (boolean x) h = h
  truth_scoped _ h = tt

  pub whole_scoped : (t : Typed) → TypedScoped known.plan scope t → IntegerScoped known.plan (d.integer_of t) scope
  whole_scoped (number x) h = h
  whole_scoped _ h = tt

module _ (known : Known) (scope : Scope) (n : Place) (sees : Sees known scope n) where
  pub denoting_scoped : (x : plain.Name) (last : Typed) → TypedScoped known.plan scope last → EntityScoped known scope (e.denoting x last n).entity
  denoting_scoped x last h = indexed_scoped known scope (resolution.resolved x n).denoted.meaning (resolution.last_args x) (resolution.resolved x n).denoted.at last (resolved_scoped known scope n sees x) h

  mutual
    pub expression_scoped : (x : plain.Expression) → TypedScoped known.plan scope (e.checked_expression x n).typed
    expression_scoped (plain.alone x) = relation_scoped x
    expression_scoped (plain.connected c x y xs) = relations_scoped xs c _ _ (both_scoped known scope c _ _ (relation_scoped x) (relation_scoped y))

    relations_scoped : (x : plain.Relations) (c : Connective) (at : Pos) (left : Typed) → TypedScoped known.plan scope left → TypedScoped known.plan scope (e.checked_relations x n c at left).typed
    relations_scoped plain.no_relations c at left h = h
    relations_scoped (plain.more_relations x rest) c at left h = relations_scoped rest c at _ (both_scoped known scope c left _ h (relation_scoped x))

    relation_scoped : (x : plain.Relation) → TypedScoped known.plan scope (e.checked_relation x n).typed
    relation_scoped (plain.unrelated x) = simple_scoped x
    relation_scoped (plain.related operator x y) = compared_scoped known scope operator _ _ (simple_scoped x) (simple_scoped y)

    simple_scoped : (x : plain.Simple) → TypedScoped known.plan scope (e.checked_simple x n).typed
    simple_scoped (plain.simple x t rest) = addeds_scoped rest _ _ (signed_scoped known scope x _ _ (term_scoped t))

    addeds_scoped : (x : plain.Addeds) (at : Pos) (left : Typed) → TypedScoped known.plan scope left → TypedScoped known.plan scope (e.checked_addeds x n at left).typed
    addeds_scoped plain.no_addeds at left h = h
    addeds_scoped (plain.more_addeds x rest) at left h = addeds_scoped rest at _ (added_scoped x at left h)

    added_scoped : (x : plain.Added) (at : Pos) (left : Typed) → TypedScoped known.plan scope left → TypedScoped known.plan scope (e.checked_added x n at left).typed
    added_scoped (plain.added operator t) at left h = adding_scoped known scope operator at left _ _ h (term_scoped t)

    term_scoped : (x : plain.Term) → TypedScoped known.plan scope (e.checked_term x n).typed
    term_scoped (plain.term f rest) = multiplieds_scoped rest _ _ (factor_scoped f)

    multiplieds_scoped : (x : plain.Multiplieds) (at : Pos) (left : Typed) → TypedScoped known.plan scope left → TypedScoped known.plan scope (e.checked_multiplieds x n at left).typed
    multiplieds_scoped plain.no_multiplieds at left h = h
    multiplieds_scoped (plain.more_multiplieds x rest) at left h = multiplieds_scoped rest at _ (multiplied_scoped x at left h)

    multiplied_scoped : (x : plain.Multiplied) (at : Pos) (left : Typed) → TypedScoped known.plan scope left → TypedScoped known.plan scope (e.checked_multiplied x n at left).typed
    multiplied_scoped (plain.multiplied operator f) at left h = combined_scoped known scope _ left _ h (factor_scoped f)

    factor_scoped : (x : plain.Factor) → TypedScoped known.plan scope (e.checked_factor x n).typed
    factor_scoped (plain.factor None p) = primary_scoped p
    factor_scoped (plain.factor (Some operator) p) = highest_scoped known scope operator.highest _ _ (primary_scoped p)

    primary_scoped : (x : plain.Primary) → TypedScoped known.plan scope (e.checked_primary x n).typed
    primary_scoped (plain.integer x) = number_scoped known scope x.value x.at
    primary_scoped (plain.text x) = tt
    primary_scoped (plain.name x) = read_scoped known scope _ (denoting_scoped x _ (arguments_scoped x))
    primary_scoped (plain.attribute x designator argument) = argument_scoped argument (e.denoting x (e.checked_arguments x n).typed n) (resolution.last_args x) designator (denoting_scoped x _ (arguments_scoped x))
    primary_scoped (plain.group at x) = expression_scoped x

    argument_scoped : (x : plain.MaybeExpression) (prefix : Denoting) (xs : plain.Args) (designator : Ident) → EntityScoped known scope prefix.entity → TypedScoped known.plan scope (e.checked_image x n prefix xs designator).typed
    argument_scoped plain.no_expression prefix xs designator h = attribute_scoped known scope prefix.entity xs prefix.at designator None n h tt
    argument_scoped (plain.an_expression x) prefix xs designator h = attribute_scoped known scope prefix.entity xs prefix.at designator (Some (e.expression_at x, (e.checked_expression x n).typed)) n h (expression_scoped x)

    pub arguments_scoped : (x : plain.Name) → TypedScoped known.plan scope (e.checked_arguments x n).typed
    arguments_scoped (plain.named p ps) = parts_scoped ps _ (part_scoped p unknown tt)

    args_scoped : (x : plain.Args) (last : Typed) → TypedScoped known.plan scope last → TypedScoped known.plan scope (e.checked_args x n last).typed
    args_scoped plain.no_args last h = h
    args_scoped (plain.more_args x xs) last h = args_scoped xs _ (expression_scoped x)

    part_scoped : (x : plain.NamePart) (last : Typed) → TypedScoped known.plan scope last → TypedScoped known.plan scope (e.checked_part x n last).typed
    part_scoped (plain.part i xs) last h = args_scoped xs last h

    parts_scoped : (x : plain.Parts) (last : Typed) → TypedScoped known.plan scope last → TypedScoped known.plan scope (e.checked_parts x n last).typed
    parts_scoped plain.no_parts last h = h
    parts_scoped (plain.more_parts p ps) last h = parts_scoped ps _ (part_scoped p last h)

  -- the arguments before a point
  pub prefix_scoped : (x : plain.Name) → TypedScoped known.plan scope (e.checked_prefix x n).typed
  prefix_scoped (plain.named p ps) = part_scoped p unknown tt

  -- a value for a place that asks for a subtype
  pub given_scoped : (x : plain.Expression) (t : Option Subtype) → ValueScoped known.plan (d.given_value x t n) scope
  given_scoped x t = value_scoped known scope (d.known t) (e.checked_expression x n).typed (expression_scoped x)

  -- the initial value of a declaration
  pub initial_scoped : (x : plain.MaybeExpression) (t : Option Subtype) → ValueScoped known.plan (d.initial_value x t n) scope
  initial_scoped plain.no_expression t = default_scoped known scope (d.known t)
  initial_scoped (plain.an_expression x) t = given_scoped x t

  pub condition_scoped : (x : plain.Expression) → BooleanScoped known.plan (q.condition x n) scope
  condition_scoped x = truth_scoped known scope (e.checked_expression x n).typed (expression_scoped x)

  pub maybe_condition_scoped : (x : plain.MaybeExpression) → BooleanScoped known.plan (q.maybe_condition x n) scope
  maybe_condition_scoped plain.no_expression = tt
  maybe_condition_scoped (plain.an_expression x) = condition_scoped x

  -- a bound of a loop's parameter
  pub bound_of_scoped : (x : plain.Simple) → IntegerScoped known.plan (s.bound_of x n) scope
  bound_of_scoped x = whole_scoped known scope (e.checked_simple x n).typed (simple_scoped x)
