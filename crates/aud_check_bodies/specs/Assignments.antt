-- What is assigned to (RM 5.2).
use Rattle.std.specs.Prelude.{not, List, [], ◌++◌, Option, Some, None, if◌then◌else◌}
use Rattle.aud_text.specs.declared.place.Pos.{Pos}
use Rattle.aud_syntax.specs.Plain.{Name}
use Rattle.aud_typed.specs.declared.program.Variable.{Variable}
use Rattle.aud_typed.specs.declared.program.ArrayAt.{ArrayAt}
use Rattle.aud_typed.specs.declared.program.Subtype.{Subtype}
use Rattle.aud_typed.specs.Tree as tree
use Rattle.aud_fault.specs.declared.fault.Fault.{Fault}
use Rattle.aud_names.specs.declared.names.Meaning.{Meaning}
use Rattle.aud_names.specs.declared.names.Meaning.TheVariants.{ScalarType, Literal, Object, Array, Exception, Builtin, Procedure, TaskType, Task, TaskArray, Entry, Protected, Operation, Barred}
use Rattle.aud_names.specs.declared.rules.Base.{Base}
use Rattle.aud_names.specs.declared.rules.Base.TheVariants.{Truth}
use Rattle.aud_names.specs.Names.{Place}
use Rattle.aud_names.specs.Rules.{base_asked, wrong_kind_of_name, right_type, not_a_variable, no_change_within_function}
use Rattle.aud_names.specs.Resolution.{value_faults}
use Rattle.aud_typing.specs.Expressions.{Typed, Entity, no_entity, entity, element_of, task_of, Denoting, denoting, checked_arguments, base_of}
use Rattle.aud_check_bodies.specs.Declarations.{value_for}

-- the type of what is assigned to, where it is known
abbrev pub meaning_base : Meaning → Option Base
meaning_base (Object o) = base_asked o.subtype
meaning_base (Literal b) = Some Truth
meaning_base _ = None

abbrev pub target_base : Entity → Option Base
target_base no_entity = None
target_base (entity m) = meaning_base m
target_base (element_of a index s) = base_asked s
target_base (task_of a index) = None

-- what is assigned to must be a variable (RM 5.2(5)) or an element, and no constant; a component not within a function of its object
abbrev pub changed_faults : Meaning → Pos → List Fault
changed_faults (Object o) at = if o.constant then not_a_variable at else no_change_within_function (not o.locked) at
changed_faults (Literal b) at = not_a_variable at
changed_faults (Array a) at = wrong_kind_of_name at
changed_faults (ScalarType s) at = wrong_kind_of_name at
changed_faults (Exception x) at = wrong_kind_of_name at
changed_faults (Builtin b) at = wrong_kind_of_name at
changed_faults (Procedure n) at = wrong_kind_of_name at
changed_faults (TaskType n) at = wrong_kind_of_name at
changed_faults (Task v) at = wrong_kind_of_name at
changed_faults (TaskArray a) at = wrong_kind_of_name at
changed_faults (Entry e) at = wrong_kind_of_name at
changed_faults (Protected x) at = wrong_kind_of_name at
changed_faults (Operation o) at = value_faults (Operation o) at
changed_faults Barred at = wrong_kind_of_name at

abbrev pub target_faults : Entity → Pos → List Fault
target_faults no_entity at = []
target_faults (entity m) at = changed_faults m at
target_faults (element_of a index s) at = []
target_faults (task_of a index) at = wrong_kind_of_name at

-- the value must be of the target's type (RM 5.2(4))
abbrev pub assigned_faults : Entity → Pos → Pos → Typed → List Fault
assigned_faults x target at value = target_faults x target ++ right_type (target_base x) at (base_of value)

-- a faulty statement is left as a null statement
abbrev pub assigned_to : Variable → Option Subtype → Pos → Typed → tree.Statement
assigned_to v None at value = tree.null at
assigned_to v (Some s) at value = tree.assign at (tree.scalar v s) (value_for s value)

abbrev pub assigned_at : ArrayAt → tree.IntegerExpression → Option Subtype → Pos → Typed → tree.Statement
assigned_at a index None at value = tree.null at
assigned_at a index (Some s) at value = tree.assign at (tree.component a index s) (value_for s value)

abbrev pub meaning_assigned : Meaning → Pos → Typed → tree.Statement
meaning_assigned (Object o) at value = assigned_to o.variable o.subtype at value
meaning_assigned _ at value = tree.null at

abbrev pub assigned : Entity → Pos → Typed → tree.Statement
assigned no_entity at value = tree.null at
assigned (entity m) at value = meaning_assigned m at value
assigned (element_of a index s) at value = assigned_at a index s at value
assigned (task_of a index) at value = tree.null at

-- a name whose last argument is of a type
abbrev pub target_of : Name → Place → Denoting
target_of n place = denoting n (checked_arguments n place).typed place
