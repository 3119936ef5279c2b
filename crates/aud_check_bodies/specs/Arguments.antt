-- Arguments of calls (RM 6.4.1).
use Rattle.std.specs.Prelude.{Bool, true, false, List, [], ◌∷◌, ◌++◌, Option, Some, None, if◌then◌else◌}
use Rattle.aud_text.specs.declared.place.Pos.{Pos}
use Rattle.aud_syntax.specs.declared.tree.Mode.{Mode}
use Rattle.aud_syntax.specs.declared.tree.Mode.TheVariants.{InOut}
use Rattle.aud_syntax.specs.Plain.{Expression, alone, connected, Relation, unrelated, related, Simple, simple, no_addeds, more_addeds, Term, term, no_multiplieds, more_multiplieds, Factor, factor, Primary, name, Name, Args, no_args, more_args}
use Rattle.aud_typed.specs.declared.program.Subtype.{Subtype}
use Rattle.aud_typed.specs.declared.program.Variable.{Variable}
use Rattle.aud_typed.specs.Tree as tree
use Rattle.aud_fault.specs.declared.fault.Fault.{Fault}
use Rattle.aud_names.specs.declared.names.Meaning.{Meaning}
use Rattle.aud_names.specs.declared.names.Meaning.TheVariants.{Object}
use Rattle.aud_names.specs.declared.names.NamedParameter.{NamedParameter}
use Rattle.aud_names.specs.declared.names.Parameter.{Parameter}
use Rattle.aud_names.specs.declared.rules.Base.{Base}
use Rattle.aud_names.specs.Names.{Place}
use Rattle.aud_names.specs.Resolution.{last_args}
use Rattle.aud_names.specs.Rules.{base_asked, right_type, not_a_variable, wrong_number_of_arguments}
use Rattle.aud_typing.specs.Expressions.{Entity, no_entity, entity, element_of, task_of, checked_arguments, checked_expression, expression_at, base_of}
use Rattle.aud_check_bodies.specs.Declarations.{known, given_faults, given_value}
use Rattle.aud_check_bodies.specs.Formals.{is_in}
use Rattle.aud_check_bodies.specs.Assignments.{target_base, target_faults, target_of}

-- The name that an expression is, if it is nothing more (RM 4.1, 4.4).

abbrev pub primary_name : Primary → Option Name
primary_name (name n) = Some n
primary_name _ = None

abbrev pub factor_name : Factor → Option Name
factor_name (factor None p) = primary_name p
factor_name (factor (Some operator) p) = None

abbrev pub term_name : Term → Option Name
term_name (term f no_multiplieds) = factor_name f
term_name (term f (more_multiplieds x xs)) = None

-- but for its sign
abbrev pub unsigned_name : Simple → Option Name
unsigned_name (simple s t no_addeds) = term_name t
unsigned_name (simple s t (more_addeds x xs)) = None

abbrev pub simple_name : Simple → Option Name
simple_name (simple None t xs) = unsigned_name (simple None t xs)
simple_name (simple (Some s) t xs) = None

abbrev pub relation_name : Relation → Option Name
relation_name (unrelated s) = simple_name s
relation_name (related operator x y) = None

abbrev pub expression_name : Expression → Option Name
expression_name (alone r) = relation_name r
expression_name (connected c x y xs) = None

-- Arguments of mode out and in out: variables of the formal's type (RM 6.4.1(5)).

-- of what a name denotes, whose deciding identifier stands at a place
abbrev pub variable_faults : Option Subtype → Pos → Entity → Pos → List Fault
variable_faults s at x target = target_faults x target ++ right_type (base_asked s) at (target_base x)

-- an expression that is no name is no variable; nothing is said of a faulty one
abbrev pub unnamed_faults : Option Subtype → Pos → Option Base → List Fault
unnamed_faults s at None = []
unnamed_faults s at (Some b) = not_a_variable at ++ right_type (base_asked s) at (Some b)

abbrev pub copied_faults : Option Subtype → Expression → Option Name → Place → List Fault
copied_faults s e (Some n) place = (checked_arguments n place).faults ++ ((target_of n place).faults ++ variable_faults s (expression_at e) (target_of n place).entity (target_of n place).at)
copied_faults s e None place = (checked_expression e place).faults ++ unnamed_faults s (expression_at e) (base_of (checked_expression e place).typed)

-- what is copied back to, where it is a variable
abbrev pub object_reference : Variable → Option Subtype → Option tree.Reference
object_reference v None = None
object_reference v (Some s) = Some (tree.scalar v s)

abbrev pub meaning_reference : Meaning → Option tree.Reference
meaning_reference (Object o) = object_reference o.variable o.subtype
meaning_reference _ = None

abbrev pub reference_of : Entity → Option tree.Reference
reference_of no_entity = None
reference_of (entity m) = meaning_reference m
reference_of (element_of a index None) = None
reference_of (element_of a index (Some s)) = Some (tree.component a index s)
reference_of (task_of a index) = None

-- the value is copied in as well where the mode is in out (RM 6.4.1(13))
abbrev pub is_copied_in : Mode → Bool
is_copied_in (InOut at) = true
is_copied_in _ = false

abbrev pub copied_to : Parameter → Option tree.Reference → Option tree.Argument
copied_to f None = None
copied_to f (Some r) = Some (tree.by_copy (is_copied_in f.mode) (known f.subtype) r)

abbrev pub copied : Parameter → Option Name → Place → Option tree.Argument
copied f (Some n) place = copied_to f (reference_of (target_of n place).entity)
copied f None place = None

-- All arguments of a call: those of mode in are values of the formal's type (RM 6.4.1(3, 4)).

abbrev pub passed_faults : Parameter → Expression → Place → List Fault
passed_faults f e place = if is_in f.mode then given_faults e f.subtype place else copied_faults f.subtype e (expression_name e) place

-- none where it is faulty
abbrev pub passed : Parameter → Expression → Place → Option tree.Argument
passed f e place = if is_in f.mode then Some (tree.by_value (given_value e f.subtype place)) else copied f (expression_name e) place

-- as many arguments as formals
abbrev pub are_as_many : List NamedParameter → Args → Bool
are_as_many [] no_args = true
are_as_many (f ∷ fs) (more_args e es) = are_as_many fs es
are_as_many _ _ = false

abbrev pub all_passed_faults : List NamedParameter → Args → Place → List Fault
all_passed_faults (f ∷ fs) (more_args e es) place = passed_faults f.parameter e place ++ all_passed_faults fs es place
all_passed_faults _ _ place = []

abbrev pub with_passed : Option tree.Argument → Option (List tree.Argument) → Option (List tree.Argument)
with_passed (Some a) (Some more) = Some (a ∷ more)
with_passed _ _ = None

-- none where one is faulty, or missing
abbrev pub all_passed : List NamedParameter → Args → Place → Option (List tree.Argument)
all_passed [] no_args place = Some []
all_passed (f ∷ fs) (more_args e es) place = with_passed (passed f.parameter e place) (all_passed fs es place)
all_passed _ _ place = None

-- of a procedure or entry with these formals; where there are more or fewer arguments, nothing is asked of them but that they are expressions
abbrev pub arguments_faults : List NamedParameter → Name → Pos → Place → List Fault
arguments_faults fs n at place =
    if are_as_many fs (last_args n) then all_passed_faults fs (last_args n) place else wrong_number_of_arguments at ++ (checked_arguments n place).faults
