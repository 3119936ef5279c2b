-- Assignments of expressions, and of the values of functions (RM 5.2, 6.4).
use Rattle.std.specs.Prelude.{Bool, true, false, List, [], ◌∷◌, ◌++◌, Option, Some, None, if◌then◌else◌}
use Rattle.aud_text.specs.declared.place.Pos.{Pos}
use Rattle.aud_syntax.specs.Plain.{Name, Expression}
use Rattle.aud_typed.specs.declared.program.Subtype.{Subtype}
use Rattle.aud_typed.specs.Tree as tree
use Rattle.aud_fault.specs.declared.fault.Fault.{Fault}
use Rattle.aud_names.specs.declared.names.Meaning.{Meaning}
use Rattle.aud_names.specs.declared.names.Meaning.TheVariants as meaning
use Rattle.aud_names.specs.declared.names.Operation.{Operation}
use Rattle.aud_names.specs.declared.names.Subprogram.{Subprogram}
use Rattle.aud_names.specs.declared.names.Subprogram.TheVariants.{Function}
use Rattle.aud_names.specs.declared.rules.Base.{Base}
use Rattle.aud_names.specs.Names.{Place}
use Rattle.aud_names.specs.Resolution.{resolved, name_ident, last_args, is_value}
use Rattle.aud_names.specs.Rules.{base_asked, right_type}
use Rattle.aud_typing.specs.Expressions.{Entity, checked_arguments, checked_expression, expression_at}
use Rattle.aud_check_bodies.specs.Tables.{Tables, profile_of}
use Rattle.aud_check_bodies.specs.Arguments.{expression_name, reference_of, all_passed, arguments_faults}
use Rattle.aud_check_bodies.specs.Assignments.{target_base, target_faults, assigned_faults, assigned, target_of}
use Rattle.aud_check_bodies.specs.Calls.{operation_called}

-- a function that is called by a name, whose deciding identifier stands at a place
pub record FunctionCalled : Type 0 where
  pub name : Name
  pub operation : Operation
  pub at : Pos

abbrev pub function_denoted : Name → Pos → Option Meaning → Option FunctionCalled
function_denoted n at (Some (meaning.Operation o)) = if is_value o.subprogram then Some (record { name = n; operation = o; at = at }) else None
function_denoted n at _ = None

-- the function whose call an expression is: its name with arguments, and nothing more (profile)
abbrev pub function_named : Option Name → Place → Option FunctionCalled
function_named None place = None
function_named (Some n) place = function_denoted n (resolved n place).denoted.at (resolved n place).denoted.meaning

abbrev pub function_called : Expression → Place → Option FunctionCalled
function_called e place = function_named (expression_name e) place

-- the subtype of its value
abbrev pub result_of : Subprogram → Option Subtype
result_of (Function s) = s
result_of _ = None

abbrev pub given_function : FunctionCalled → Place → Tables → List Fault
given_function f place t = arguments_faults (profile_of f.operation.unit t) f.name f.at place

abbrev pub is_none : List Fault → Bool
is_none [] = true
is_none (f ∷ fs) = false

-- a faulty call has no type
abbrev pub result_base : Bool → Subprogram → Option Base
result_base true s = base_asked (result_of s)
result_base false s = None

-- the value is of the target's type (RM 5.2(4))
abbrev pub returned_faults : FunctionCalled → Entity → Pos → Pos → Place → Tables → List Fault
returned_faults f x target at place t =
    given_function f place t ++ (target_faults x target ++ right_type (target_base x) at (result_base (is_none (given_function f place t)) f.operation.subprogram))

-- a faulty statement is left as a null statement
abbrev pub returned_into : Option tree.Reference → Operation → Pos → Option (List tree.Argument) → tree.Statement
returned_into None o at arguments = tree.null at
returned_into (Some r) o at arguments = operation_called o (Some r) at arguments

abbrev pub returned : FunctionCalled → Entity → Pos → Place → Tables → tree.Statement
returned f x at place t = returned_into (reference_of x) f.operation at (all_passed (profile_of f.operation.unit t) (last_args f.name) place)

-- of an expression, or of a function's value
abbrev pub value_assigned_faults : Option FunctionCalled → Expression → Entity → Pos → Place → Tables → List Fault
value_assigned_faults None value x target place t =
    (checked_expression value place).faults ++ assigned_faults x target (expression_at value) (checked_expression value place).typed
value_assigned_faults (Some f) value x target place t = returned_faults f x target (expression_at value) place t

abbrev pub value_assigned : Option FunctionCalled → Expression → Entity → Pos → Place → Tables → tree.Statement
value_assigned None value x at place t = assigned x at (checked_expression value place).typed
value_assigned (Some f) value x at place t = returned f x at place t

abbrev pub assign_faults : Name → Expression → Place → Tables → List Fault
assign_faults n value place t =
    (checked_arguments n place).faults ++ ((target_of n place).faults ++ value_assigned_faults (function_called value place) value (target_of n place).entity (target_of n place).at place t)

abbrev pub typed_assign : Name → Expression → Place → Tables → tree.Statement
typed_assign n value place t = value_assigned (function_called value place) value (target_of n place).entity (name_ident n).at place t
