-- Expressions: their faults, their types, and what is left of them once their names are resolved (RM 4).
use Rattle.std.specs.Prelude.{ℕ, ℤ, Bool, true, false, ◌&&◌, pos, negsuc, nat_le, if◌then◌else◌, List, [], ◌∷◌, ◌++◌, Option, Some, None, codes}
use Rattle.std.specs.Str.{bytes_eq}
use Rattle.std.specs.Map.{lookup}
use Rattle.aud_text.specs.declared.place.Pos.{Pos}
use Rattle.aud_syntax.specs.declared.tree.Ident.{Ident}
use Rattle.aud_syntax.specs.declared.tree.Signed.{Signed}
use Rattle.aud_syntax.specs.declared.tree.Sign.TheVariants as sign
use Rattle.aud_syntax.specs.declared.tree.Adding.{Adding}
use Rattle.aud_syntax.specs.declared.tree.Adding.TheVariants as adding
use Rattle.aud_syntax.specs.declared.tree.Multiplying.{Multiplying}
use Rattle.aud_syntax.specs.declared.tree.Multiplying.TheVariants.{Times, Divide, Modulo, Remainder}
use Rattle.aud_syntax.specs.declared.tree.Highest.{Highest}
use Rattle.aud_syntax.specs.declared.tree.Highest.TheVariants.{Magnitude, Not}
use Rattle.aud_syntax.specs.declared.tree.Relational.{Relational}
use Rattle.aud_syntax.specs.declared.tree.Relational.TheVariants as relational
use Rattle.aud_syntax.specs.declared.tree.Connective.{Connective}
use Rattle.aud_syntax.specs.declared.tree.Connective.TheVariants as connective
use Rattle.aud_syntax.specs.Plain.{Expression, alone, connected, Relations, no_relations, more_relations, Relation, unrelated, related, Simple, simple, Addeds, no_addeds, more_addeds, Added, added, Term, term, Multiplieds, no_multiplieds, more_multiplieds, Multiplied, multiplied, Factor, factor, Primary, integer, text, name, attribute, group, MaybeExpression, no_expression, an_expression, Name, named, Parts, no_parts, more_parts, NamePart, part, Args, no_args, more_args}
use Rattle.aud_typed.specs.declared.program.Variable.{Variable}
use Rattle.aud_typed.specs.declared.program.ArrayAt.{ArrayAt}
use Rattle.aud_typed.specs.declared.program.Subtype.{Subtype}
use Rattle.aud_typed.specs.declared.program.Subtype.TheVariants.{Integer, Natural, Positive, Boolean}
use Rattle.aud_typed.specs.declared.program.Unary.{Unary}
use Rattle.aud_typed.specs.declared.program.Unary.TheVariants as unary
use Rattle.aud_typed.specs.declared.program.Binary.{Binary}
use Rattle.aud_typed.specs.declared.program.Binary.TheVariants as binary
use Rattle.aud_typed.specs.declared.program.Relation as typed
use Rattle.aud_typed.specs.declared.program.Relation.TheVariants as relation
use Rattle.aud_typed.specs.declared.program.Logical.TheVariants as logical
use Rattle.aud_typed.specs.Tree as tree
use Rattle.aud_fault.specs.declared.fault.Fault.{Fault}
use Rattle.aud_names.specs.declared.names.Meaning.{Meaning}
use Rattle.aud_names.specs.declared.names.Meaning.TheVariants.{ScalarType, Literal, Object, Array, Exception, Builtin, Procedure, TaskType, Task, TaskArray, Entry, Protected, Operation, Barred}
use Rattle.aud_names.specs.declared.names.Array as array
use Rattle.aud_names.specs.declared.names.TaskArray as task_array
use Rattle.aud_names.specs.declared.names.Entry as named_entry
use Rattle.aud_names.specs.declared.names.Owner.{Owner}
use Rattle.aud_names.specs.declared.names.Owner.TheVariants as owner
use Rattle.aud_names.specs.declared.names.Owner.TheVariants.{Single, Element}
use Rattle.aud_typing.specs.declared.attribute.Attribute.{Attribute}
use Rattle.aud_typing.specs.declared.attribute.Attribute.TheVariants.{Image, First, Last, Length, Callable, Terminated, Count}
use Rattle.aud_names.specs.declared.rules.Base.{Base}
use Rattle.aud_names.specs.declared.rules.Base.TheVariants.{Whole, Truth, Text}
use Rattle.aud_names.specs.Names.{Place, visible, is_countable}
use Rattle.aud_names.specs.Arrays.{length_between, array_at, task_array_at}
use Rattle.aud_names.specs.Resolution.{Resolved, resolved, name_ident, part_ident, part_args, are_none, last_args, is_function, value_faults}
use Rattle.aud_names.specs.Rules.{base_of_subtype, wrong_kind_of_name, right_type, wrong_number_of_arguments, accept_or_count_in_place, function_call_out_of_place, number_too_large}

-- an expression with its type, unknown where the expression is faulty
pub data Typed : Type 0 where
  number : tree.IntegerExpression → Typed
  boolean : tree.BooleanExpression → Typed
  string : tree.TextExpression → Typed
  unknown : Typed

pub record Checked : Type 0 where
  pub faults : List Fault
  pub typed : Typed

abbrev pub fine : Typed → Checked
fine t = record { faults = []; typed = t }

abbrev pub faulty : List Fault → Checked
faulty faults = record { faults = faults; typed = unknown }

-- what is checked further with the type of a part
abbrev pub after : List Fault → Checked → Checked
after faults c = record { faults = faults ++ c.faults; typed = c.typed }

abbrev pub with : Checked → (Typed → Checked) → Checked
with c further = after c.faults (further c.typed)

-- where an expression begins: its first token (RM 4.4)
abbrev pub primary_at : Primary → Pos
primary_at (integer n) = n.at
primary_at (text l) = l.at
primary_at (name n) = (name_ident n).at
primary_at (attribute n designator argument) = (name_ident n).at
primary_at (group at e) = at

abbrev pub factor_at : Factor → Pos
factor_at (factor None p) = primary_at p
factor_at (factor (Some operator) p) = operator.at

abbrev pub term_at : Term → Pos
term_at (term f rest) = factor_at f

abbrev pub signed_at : Option Signed → Pos → Pos
signed_at None at = at
signed_at (Some s) at = s.at

abbrev pub simple_at : Simple → Pos
simple_at (simple s t rest) = signed_at s (term_at t)

abbrev pub relation_at : Relation → Pos
relation_at (unrelated s) = simple_at s
relation_at (related operator x y) = simple_at x

abbrev pub expression_at : Expression → Pos
expression_at (alone r) = relation_at r
expression_at (connected c x y xs) = relation_at x

-- the type of an expression, where it is known
abbrev pub base_of : Typed → Option Base
base_of (number e) = Some Whole
base_of (boolean e) = Some Truth
base_of (string t) = Some Text
base_of unknown = None

-- an expression that must be of a type
abbrev pub wants : Base → Pos → Typed → List Fault
wants base at t = right_type (Some base) at (base_of t)

-- the operators on two Integers (RM 4.5.3, 4.5.5)
abbrev pub multiplying : Multiplying → Binary
multiplying Times = binary.Product
multiplying Divide = binary.Quotient
multiplying Modulo = binary.Modulus
multiplying Remainder = binary.Remainder

abbrev pub combined : Binary → Typed → Typed → Typed
combined operator (number x) (number y) = number (tree.binary operator x y)
combined operator _ _ = unknown

abbrev pub arithmetic : Binary → Pos → Typed → Pos → Typed → Checked
arithmetic operator at x at' y = record { faults = wants Whole at x ++ wants Whole at' y; typed = combined operator x y }

-- & on two texts (RM 4.5.3(3))
abbrev pub joined : Typed → Typed → Typed
joined (string x) (string y) = string (tree.join x y)
joined _ _ = unknown

abbrev pub joining : Pos → Typed → Pos → Typed → Checked
joining at x at' y = record { faults = wants Text at x ++ wants Text at' y; typed = joined x y }

-- RM 4.5.3
abbrev pub adding_operator : Adding → Pos → Typed → Pos → Typed → Checked
adding_operator adding.Plus = arithmetic binary.Sum
adding_operator adding.Minus = arithmetic binary.Difference
adding_operator adding.Join = joining

-- a unary operator on an Integer
abbrev pub one : Unary → Typed → Typed
one operator (number e) = number (tree.unary operator e)
one operator _ = unknown

abbrev pub integer_only : Typed → Typed
integer_only (number e) = number e
integer_only _ = unknown

-- the sign before the first term (RM 4.5.4): plus leaves the value as it is
abbrev pub signed : Option Signed → Pos → Typed → Checked
signed None at t = fine t
signed (Some s) at t = record { faults = wants Whole at t; typed = elim s.sign [ sign.Plus ↦ integer_only t | sign.Minus ↦ one unary.Negative t ] }

abbrev pub negated : Typed → Typed
negated (boolean e) = boolean (tree.negation e)
negated _ = unknown

-- RM 4.5.6
abbrev pub highest : Highest → Pos → Typed → Checked
highest Magnitude at t = record { faults = wants Whole at t; typed = one unary.Magnitude t }
highest Not at t = record { faults = wants Truth at t; typed = negated t }

-- the relational operators (RM 4.5.2)
abbrev pub relation_of : Relational → typed.Relation
relation_of relational.Equal = relation.Equal
relation_of relational.Unequal = relation.Unequal
relation_of relational.Less = relation.Less
relation_of relational.AtMost = relation.AtMost
relation_of relational.Greater = relation.Greater
relation_of relational.AtLeast = relation.AtLeast

-- an Integer that is compared, and a Boolean
abbrev pub related_to : typed.Relation → tree.IntegerExpression → Typed → Typed
related_to operator x (number y) = boolean (tree.relation operator x y)
related_to operator x _ = unknown

abbrev pub compared_with : typed.Relation → tree.BooleanExpression → Typed → Typed
compared_with operator x (boolean y) = boolean (tree.comparison operator x y)
compared_with operator x _ = unknown

abbrev pub compared : Relational → Typed → Typed → Typed
compared operator (number x) y = related_to (relation_of operator) x y
compared operator (boolean x) y = compared_with (relation_of operator) x y
compared operator _ y = unknown

-- two Integers are compared, or two Booleans: the right operand must have the type of the left one, which is no text
abbrev pub operand_faults : Pos → Option Base → Pos → Option Base → List Fault
operand_faults at (Some Text) at' y = right_type (Some Whole) at (Some Text)
operand_faults at x at' y = right_type x at' y

abbrev pub relating : Relational → Pos → Typed → Pos → Typed → Checked
relating operator at x at' y = record { faults = operand_faults at (base_of x) at' (base_of y); typed = compared operator x y }

-- the operators on two Booleans (RM 4.5.1)
abbrev pub both_of : Connective → tree.BooleanExpression → tree.BooleanExpression → tree.BooleanExpression
both_of connective.And x y = tree.logical logical.And x y
both_of connective.Or x y = tree.logical logical.Or x y
both_of connective.Xor x y = tree.logical logical.Xor x y
both_of connective.AndThen x y = tree.and_then x y
both_of connective.OrElse x y = tree.or_else x y

abbrev pub both : Connective → Typed → Typed → Typed
both c (boolean x) (boolean y) = boolean (both_of c x y)
both c _ _ = unknown

abbrev pub connecting : Connective → Pos → Typed → Pos → Typed → Checked
connecting c at x at' y = record { faults = wants Truth at x ++ wants Truth at' y; typed = both c x y }

-- what stands before an operator, and a relation behind it
abbrev pub further : Connective → Pos → Typed → Pos → Checked → Checked
further c at left at' right = with right (λ y. connecting c at left at' y)

-- a whole number (RM 2.4): it must be a value of type Integer (RM 3.5.4)
abbrev pub checked_number : Option ℤ → Pos → Checked
checked_number (Some value) at = fine (number (tree.number value))
checked_number None at = faulty (number_too_large at)

-- What names denote with the arguments of their last parts (RM 4.1).

-- what an identifier stands for, or an element of an array, with its index and subtype, or a task of an array, with its index; nothing
-- where the name is faulty
pub data Entity : Type 0 where
  no_entity : Entity
  entity : Meaning → Entity
  element_of : ArrayAt → tree.IntegerExpression → Option Subtype → Entity
  task_of : ArrayAt → tree.IntegerExpression → Entity

pub record Indexed : Type 0 where
  pub faults : List Fault
  pub entity : Entity

abbrev pub indexes_none : Entity → Indexed
indexes_none x = record { faults = []; entity = x }

abbrev pub element_with : array.Array → Typed → Entity
element_with a (number index) = element_of (array_at a) index a.subtype
element_with a _ = no_entity

-- an array with an index, which is an Integer, is an element of it (RM 4.1.1); the last of the arguments has been typed
abbrev pub array_indexed : array.Array → Args → Pos → Typed → Indexed
array_indexed a no_args at last = indexes_none (entity (Array a))
array_indexed a (more_args e no_args) at last = record { faults = wants Whole (expression_at e) last; entity = element_with a last }
array_indexed a (more_args e (more_args f es)) at last = record { faults = wrong_number_of_arguments at; entity = no_entity }

-- the same of an array of tasks (RM 9.1)
abbrev pub task_with : task_array.TaskArray → Typed → Entity
task_with a (number index) = task_of (task_array_at a) index
task_with a _ = no_entity

abbrev pub tasks_indexed : task_array.TaskArray → Args → Pos → Typed → Indexed
tasks_indexed a no_args at last = indexes_none (entity (TaskArray a))
tasks_indexed a (more_args e no_args) at last = record { faults = wants Whole (expression_at e) last; entity = task_with a last }
tasks_indexed a (more_args e (more_args f es)) at last = record { faults = wrong_number_of_arguments at; entity = no_entity }

abbrev pub indexed : Option Meaning → Args → Pos → Typed → Indexed
indexed None xs at last = indexes_none no_entity
indexed (Some (Array a)) xs at last = array_indexed a xs at last
indexed (Some (TaskArray a)) xs at last = tasks_indexed a xs at last
indexed (Some m) xs at last = indexes_none (entity m)

-- an element is nothing that stands before a point; where its index is at fault, that is the only fault
abbrev pub is_element : Entity → Bool
is_element (element_of a index s) = true
is_element x = false

abbrev pub element_faults : Indexed → Pos → List Fault
element_faults x at = x.faults ++ (if is_element x.entity then wrong_kind_of_name at else [])

-- before a point an array has its index as it has where nothing stands behind; the last of the arguments before the point has been typed
abbrev pub before_point : Option Meaning → NamePart → Parts → Typed → List Fault
before_point (Some (TaskArray a)) p (more_parts q qs) last = (tasks_indexed a (part_args p) (part_ident p).at last).faults
before_point (Some (Array a)) p (more_parts q qs) last = element_faults (array_indexed a (part_args p) (part_ident p).at last) (part_ident p).at
before_point _ p ps last = []

abbrev pub prefix_faults : NamePart → Parts → Typed → Place → List Fault
prefix_faults p ps last place = before_point (visible (part_ident p).name place) p ps last

-- a name: its faults but those in its arguments, what it denotes, and where the identifier stands that decides
pub record Denoting : Type 0 where
  pub faults : List Fault
  pub entity : Entity
  pub at : Pos

abbrev pub denoting_by : Resolved → Args → Typed → Denoting
denoting_by r xs last = record {
  faults = r.faults ++ (indexed r.denoted.meaning xs r.denoted.at last).faults;
  entity = (indexed r.denoted.meaning xs r.denoted.at last).entity;
  at = r.denoted.at;
}

abbrev pub denoting : Name → Typed → Place → Denoting
denoting n last place = denoting_by (resolved n place) (last_args n) last

-- what is read must be a variable, an element or a constant, or False or True (RM 4.1, 4.4)
abbrev pub read_faults : Meaning → Pos → List Fault
read_faults (Object o) at = []
read_faults (Literal b) at = []
read_faults (Array a) at = wrong_kind_of_name at
read_faults (Exception x) at = wrong_kind_of_name at
read_faults (ScalarType s) at = wrong_kind_of_name at
read_faults (Builtin b) at = wrong_kind_of_name at
read_faults (Procedure n) at = wrong_kind_of_name at
read_faults (TaskType n) at = wrong_kind_of_name at
read_faults (Task v) at = wrong_kind_of_name at
read_faults (TaskArray a) at = wrong_kind_of_name at
read_faults (Entry e) at = wrong_kind_of_name at
read_faults (Protected x) at = wrong_kind_of_name at
read_faults (Operation o) at = value_faults (Operation o) at
read_faults Barred at = wrong_kind_of_name at

abbrev pub name_faults : Entity → Pos → List Fault
name_faults no_entity at = []
name_faults (entity m) at = read_faults m at
name_faults (element_of a index s) at = []
name_faults (task_of a index) at = wrong_kind_of_name at

-- the value of a variable or constant; where its subtype is not known, nothing is known of its type
abbrev pub stored : Variable → Option Subtype → Typed
stored v None = unknown
stored v (Some Integer) = number (tree.variable v)
stored v (Some Natural) = number (tree.variable v)
stored v (Some Positive) = number (tree.variable v)
stored v (Some Boolean) = boolean (tree.stored (tree.scalar v Boolean))

-- the value of an element
abbrev pub stored_at : ArrayAt → tree.IntegerExpression → Option Subtype → Typed
stored_at a index None = unknown
stored_at a index (Some Integer) = number (tree.element a index)
stored_at a index (Some Natural) = number (tree.element a index)
stored_at a index (Some Positive) = number (tree.element a index)
stored_at a index (Some Boolean) = boolean (tree.stored (tree.component a index Boolean))

abbrev pub meaning_read : Meaning → Typed
meaning_read (Object o) = stored o.variable o.subtype
meaning_read (Literal b) = boolean (tree.truth b)
meaning_read _ = unknown

abbrev pub value_read : Entity → Typed
value_read no_entity = unknown
value_read (entity m) = meaning_read m
value_read (element_of a index s) = stored_at a index s
value_read (task_of a index) = unknown

-- a name as a primary
abbrev pub checked_name : Denoting → Checked
checked_name d = record { faults = d.faults ++ name_faults d.entity d.at; typed = value_read d.entity }

-- Attributes (RM 4.1.4, K.2). The prefix and the designator stand at a place; the argument, if there is one, comes with that where it begins.

abbrev pub attributes : List (List ℕ × Attribute)
attributes =
    (codes "IMAGE", Image) ∷ (codes "FIRST", First) ∷ (codes "LAST", Last)
    ∷ (codes "LENGTH", Length) ∷ (codes "COUNT", Count) ∷ (codes "CALLABLE", Callable) ∷ (codes "TERMINATED", Terminated) ∷ []

abbrev pub without_argument : Pos → Option (Pos × Typed) → Typed → Checked
without_argument designator None t = fine t
without_argument designator (Some a) t = faulty (wrong_number_of_arguments designator)

-- the text that Image makes of a value
abbrev pub image_of : Typed → Typed
image_of (number e) = string (tree.image e)
image_of (boolean e) = string (tree.image_truth e)
image_of _ = unknown

-- of one of a type
abbrev pub image_of_type : Base → Typed → Typed
image_of_type Whole (number e) = string (tree.image e)
image_of_type Truth (boolean e) = string (tree.image_truth e)
image_of_type _ _ = unknown

-- the argument is of the subtype's type, and is not tested against its range (RM 3.5(35))
abbrev pub image_with : Base → Pos → Option (Pos × Typed) → Checked
image_with base designator None = faulty (wrong_number_of_arguments designator)
image_with base designator (Some a) = record { faults = wants base a.0 a.1; typed = image_of_type base a.1 }

-- RM 3.5(35), 4.10(40)
abbrev pub image : Meaning → Pos → Pos → Option (Pos × Typed) → Checked
image (ScalarType s) prefix designator argument = image_with (base_of_subtype s) designator argument
image (Object o) prefix designator argument = without_argument designator argument (image_of (stored o.variable o.subtype))
image (Literal b) prefix designator argument = without_argument designator argument (string (tree.image_truth (tree.truth b)))
image (Array a) prefix designator argument = faulty (wrong_kind_of_name prefix)
image (Exception x) prefix designator argument = faulty (wrong_kind_of_name prefix)
image (Builtin b) prefix designator argument = faulty (wrong_kind_of_name prefix)
image (Procedure n) prefix designator argument = faulty (wrong_kind_of_name prefix)
image (TaskType n) prefix designator argument = faulty (wrong_kind_of_name prefix)
image (Task v) prefix designator argument = faulty (wrong_kind_of_name prefix)
image (TaskArray a) prefix designator argument = faulty (wrong_kind_of_name prefix)
image (Entry e) prefix designator argument = faulty (wrong_kind_of_name prefix)
image (Protected x) prefix designator argument = faulty (wrong_kind_of_name prefix)
image (Operation o) prefix designator argument = faulty (wrong_kind_of_name prefix)
image Barred prefix designator argument = faulty (wrong_kind_of_name prefix)

-- the bounds of Integer and its subtypes (RM 3.5(12, 13), 3.5.4(11, 12)), and of arrays (RM 3.6.2(3, 5)); those of Boolean are not in the profile
abbrev pub first_of : Meaning → Option ℤ
first_of (ScalarType Integer) = Some (negsuc 2147483647)
first_of (ScalarType Natural) = Some (pos 0)
first_of (ScalarType Positive) = Some (pos 1)
first_of (Array a) = Some a.low
first_of (TaskArray a) = Some a.low
first_of _ = None

abbrev pub last_of : Meaning → Option ℤ
last_of (ScalarType Integer) = Some (pos 2147483647)
last_of (ScalarType Natural) = Some (pos 2147483647)
last_of (ScalarType Positive) = Some (pos 2147483647)
last_of (Array a) = Some a.high
last_of (TaskArray a) = Some a.high
last_of _ = None

-- a number, or the last Integer where that is less
abbrev pub at_most_last : ℕ → ℤ
at_most_last n = pos (if nat_le n 2147483647 then n else 2147483647)

-- the length of an array (RM 3.6.2(9)); the elaboration of one with more elements than the last Integer raises Storage_Error
abbrev pub length_of : Meaning → Option ℤ
length_of (Array a) = Some (at_most_last (length_between a.low a.high))
length_of (TaskArray a) = Some (at_most_last (length_between a.low a.high))
length_of _ = None

abbrev pub bound : Option ℤ → Pos → Pos → Option (Pos × Typed) → Checked
bound None prefix designator argument = faulty (wrong_kind_of_name prefix)
bound (Some value) prefix designator argument = without_argument designator argument (number (tree.number value))

-- what is asked of a task (RM 9.9(2, 3))
abbrev pub callable_of : Meaning → Option tree.BooleanExpression
callable_of (Task t) = Some (tree.callable (tree.single t.variable))
callable_of _ = None

abbrev pub terminated_of : Meaning → Option tree.BooleanExpression
terminated_of (Task t) = Some (tree.terminated (tree.single t.variable))
terminated_of _ = None

abbrev pub asked : Option tree.BooleanExpression → Pos → Pos → Option (Pos × Typed) → Checked
asked None prefix designator argument = faulty (wrong_kind_of_name prefix)
asked (Some e) prefix designator argument = without_argument designator argument (boolean e)

-- how many calls are queued on an entry of the task that runs the body, or of the object whose body it is
abbrev pub count_value : Owner → ℕ → Typed
count_value (Single v) n = number (tree.count v n)
count_value (Element a) n = unknown
count_value (owner.Object x) n = number (tree.count x.variable n)

abbrev pub count_if : Bool → named_entry.Entry → Typed
count_if good e = if good then count_value e.owner e.number else unknown

-- an entry's name has no arguments there
abbrev pub no_arguments : Args → Pos → List Fault
no_arguments xs at = if are_none xs then [] else wrong_kind_of_name at

abbrev pub counted : named_entry.Entry → Args → Pos → Place → Checked
counted e xs at place = record {
  faults = no_arguments xs at ++ accept_or_count_in_place (is_countable e place) at;
  typed = count_if (are_none xs && is_countable e place) e;
}

-- RM 9.9(5)
abbrev pub count : Meaning → Args → Pos → Pos → Option (Pos × Typed) → Place → Checked
count (Entry e) xs prefix designator argument place = with (counted e xs prefix place) (λ t. without_argument designator argument t)
count m xs prefix designator argument place = faulty (wrong_kind_of_name prefix)

-- the prefix has these arguments
abbrev pub attribute_of : Attribute → Meaning → Args → Pos → Pos → Option (Pos × Typed) → Place → Checked
attribute_of Image m xs prefix designator argument place = image m prefix designator argument
attribute_of First m xs prefix designator argument place = bound (first_of m) prefix designator argument
attribute_of Last m xs prefix designator argument place = bound (last_of m) prefix designator argument
attribute_of Length m xs prefix designator argument place = bound (length_of m) prefix designator argument
attribute_of Callable m xs prefix designator argument place = asked (callable_of m) prefix designator argument
attribute_of Terminated m xs prefix designator argument place = asked (terminated_of m) prefix designator argument
attribute_of Count m xs prefix designator argument place = count m xs prefix designator argument place

-- the designator must be an attribute's
abbrev pub attribute_named : Option Attribute → Meaning → Args → Pos → Pos → Option (Pos × Typed) → Place → Checked
attribute_named None m xs prefix designator argument place = faulty (wrong_kind_of_name designator)
attribute_named (Some a) m xs prefix designator argument place = attribute_of a m xs prefix designator argument place

-- a function's call does not stand before one
abbrev pub attribute_of_name : Meaning → Args → Pos → Ident → Option (Pos × Typed) → Place → Checked
attribute_of_name m xs prefix designator argument place =
    if is_function m then faulty (function_call_out_of_place prefix)
    else attribute_named (lookup (bytes_eq designator.name) attributes) m xs prefix designator.at argument place

-- an element has none but Image (RM 4.10(40))
abbrev pub element_attribute : Option Attribute → Typed → Pos → Pos → Option (Pos × Typed) → Checked
element_attribute None value prefix designator argument = faulty (wrong_kind_of_name designator)
element_attribute (Some Image) value prefix designator argument = without_argument designator argument (image_of value)
element_attribute (Some _) value prefix designator argument = faulty (wrong_kind_of_name prefix)

-- a task of an array has what a task has
abbrev pub task_attribute : Option Attribute → tree.TaskName → Pos → Pos → Option (Pos × Typed) → Checked
task_attribute None task prefix designator argument = faulty (wrong_kind_of_name designator)
task_attribute (Some Callable) task prefix designator argument = without_argument designator argument (boolean (tree.callable task))
task_attribute (Some Terminated) task prefix designator argument = without_argument designator argument (boolean (tree.terminated task))
task_attribute (Some _) task prefix designator argument = faulty (wrong_kind_of_name prefix)

abbrev pub attribute_if : Entity → Args → Pos → Ident → Option (Pos × Typed) → Place → Checked
attribute_if no_entity xs prefix designator argument place = fine unknown
attribute_if (entity m) xs prefix designator argument place = attribute_of_name m xs prefix designator argument place
attribute_if (element_of a index s) xs prefix designator argument place = element_attribute (lookup (bytes_eq designator.name) attributes) (stored_at a index s) prefix designator.at argument
attribute_if (task_of a index) xs prefix designator argument place = task_attribute (lookup (bytes_eq designator.name) attributes) (tree.indexed a index) prefix designator.at argument

abbrev pub checked_attribute : Denoting → Args → Ident → Option (Pos × Typed) → Place → Checked
checked_attribute d xs designator argument place = after d.faults (attribute_if d.entity xs d.at designator argument place)

abbrev mutual
  -- RM 4.4(2)
  pub checked_expression : Expression → Place → Checked
  checked_expression (alone r) place = checked_relation r place
  checked_expression (connected c x y xs) place = with (checked_relation x place) (λ first. with (further c (relation_at x) first (relation_at y) (checked_relation y place)) (λ left. checked_relations xs place c (relation_at x) left))

  -- the operators are taken from left to right (RM 4.5(8)); what stands before them begins at a place
  pub checked_relations : Relations → Place → Connective → Pos → Typed → Checked
  checked_relations no_relations place c at left = fine left
  checked_relations (more_relations x rest) place c at left = with (further c at left (relation_at x) (checked_relation x place)) (λ t. checked_relations rest place c at t)

  -- RM 4.4(3)
  pub checked_relation : Relation → Place → Checked
  checked_relation (unrelated s) place = checked_simple s place
  checked_relation (related operator x y) place = with (checked_simple x place) (λ left. with (checked_simple y place) (λ right. relating operator (simple_at x) left (simple_at y) right))

  -- RM 4.4(4): the sign belongs to the first term
  pub checked_simple : Simple → Place → Checked
  checked_simple (simple s t rest) place = with (checked_term t place) (λ x. with (signed s (term_at t) x) (λ left. checked_addeds rest place (signed_at s (term_at t)) left))

  -- the operators are taken from left to right (RM 4.5(8)); what stands before them begins at a place
  pub checked_addeds : Addeds → Place → Pos → Typed → Checked
  checked_addeds no_addeds place at left = fine left
  checked_addeds (more_addeds x rest) place at left = with (checked_added x place at left) (λ t. checked_addeds rest place at t)

  pub checked_added : Added → Place → Pos → Typed → Checked
  checked_added (added operator t) place at left = with (checked_term t place) (λ right. adding_operator operator at left (term_at t) right)

  -- RM 4.4(5)
  pub checked_term : Term → Place → Checked
  checked_term (term f rest) place = with (checked_factor f place) (λ left. checked_multiplieds rest place (factor_at f) left)

  pub checked_multiplieds : Multiplieds → Place → Pos → Typed → Checked
  checked_multiplieds no_multiplieds place at left = fine left
  checked_multiplieds (more_multiplieds x rest) place at left = with (checked_multiplied x place at left) (λ t. checked_multiplieds rest place at t)

  pub checked_multiplied : Multiplied → Place → Pos → Typed → Checked
  checked_multiplied (multiplied operator f) place at left = with (checked_factor f place) (λ right. arithmetic (multiplying operator) at left (factor_at f) right)

  -- RM 4.4(6)
  pub checked_factor : Factor → Place → Checked
  checked_factor (factor None p) place = checked_primary p place
  checked_factor (factor (Some operator) p) place = with (checked_primary p place) (λ t. highest operator.highest (primary_at p) t)

  -- RM 4.4(7)
  pub checked_primary : Primary → Place → Checked
  checked_primary (integer n) place = checked_number n.value n.at
  checked_primary (text l) place = fine (string (tree.literal l.text))
  checked_primary (name n) place = with (checked_arguments n place) (λ last. checked_name (denoting n last place))
  checked_primary (attribute n designator argument) place = with (checked_arguments n place) (λ last. checked_image argument place (denoting n last place) (last_args n) designator)
  checked_primary (group at e) place = checked_expression e place

  pub checked_image : MaybeExpression → Place → Denoting → Args → Ident → Checked
  checked_image no_expression place prefix xs designator = checked_attribute prefix xs designator None place
  checked_image (an_expression e) place prefix xs designator = with (checked_expression e place) (λ t. checked_attribute prefix xs designator (Some (expression_at e, t)) place)

  -- the arguments of a name, also where none may stand: their faults, and what the last of them is
  pub checked_arguments : Name → Place → Checked
  checked_arguments (named p ps) place = with (checked_part p place unknown) (λ last. after (prefix_faults p ps last place) (checked_parts ps place last))

  pub checked_parts : Parts → Place → Typed → Checked
  checked_parts no_parts place last = fine last
  checked_parts (more_parts p ps) place last = with (checked_part p place last) (λ t. checked_parts ps place t)

  pub checked_part : NamePart → Place → Typed → Checked
  checked_part (part i xs) place last = checked_args xs place last

  pub checked_args : Args → Place → Typed → Checked
  checked_args no_args place last = fine last
  checked_args (more_args e es) place last = with (checked_expression e place) (λ t. checked_args es place t)

-- the arguments before a name's first point, where an array of tasks has its index: their faults, and what the last of them is
abbrev pub checked_prefix : Name → Place → Checked
checked_prefix (named p ps) place = with (checked_part p place unknown) (λ last. record { faults = prefix_faults p ps last place; typed = last })
