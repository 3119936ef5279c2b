-- Calls of procedures, operations and entries (RM 6.4, 9.5.1, 9.5.3).
use Rattle.std.specs.Prelude.{ℕ, Bool, true, false, not, List, [], ◌++◌, Option, Some, None, if◌then◌else◌}
use Rattle.aud_text.specs.declared.place.Pos.{Pos}
use Rattle.aud_syntax.specs.Plain.{Name, Expression, Args, no_args, more_args}
use Rattle.aud_typed.specs.Tree as tree
use Rattle.aud_fault.specs.declared.fault.Fault.{Fault}
use Rattle.aud_names.specs.declared.names.Meaning.{Meaning}
use Rattle.aud_names.specs.declared.names.Meaning.TheVariants as meaning
use Rattle.aud_names.specs.declared.names.Entry as entry
use Rattle.aud_names.specs.declared.names.Owner.{Owner}
use Rattle.aud_names.specs.declared.names.Owner.TheVariants as owner
use Rattle.aud_names.specs.declared.names.Owner.TheVariants.{Single, Element}
use Rattle.aud_names.specs.declared.names.Instance.{Instance}
use Rattle.aud_names.specs.declared.names.Operation as operation
use Rattle.aud_names.specs.declared.names.Builtin.{Builtin}
use Rattle.aud_names.specs.declared.names.Builtin.TheVariants.{Put, PutLine, NewLine}
use Rattle.aud_names.specs.declared.resolution.Denoted.{Denoted}
use Rattle.aud_names.specs.declared.rules.Base.TheVariants.{Whole, Text}
use Rattle.aud_names.specs.Names.{Place, is_inside, is_in_function}
use Rattle.aud_names.specs.Arrays.{task_array_at}
use Rattle.aud_names.specs.Rules.{wrong_kind_of_name, wrong_number_of_arguments, no_change_within_function, not_an_entry}
use Rattle.aud_names.specs.Resolution.{are_none, resolved, name_ident, last_args, is_value, value_faults}
use Rattle.aud_check_bodies.specs.declared.call.Callee.{Callee}
use Rattle.aud_check_bodies.specs.declared.call.Callee.TheVariants.{Procedure, Operation, Entry}
use Rattle.aud_check_bodies.specs.Tables.{Tables, profile_of, entry_profile_of}
use Rattle.aud_check_bodies.specs.Arguments.{all_passed, arguments_faults}
use Rattle.aud_typing.specs.Expressions.{Typed, number, string, unknown, Checked, fine, wants, expression_at, checked_arguments, checked_prefix}

-- one argument, which is a text (RM 6.4.1(3))
abbrev pub one_text : Args → Pos → Typed → List Fault
one_text no_args at last = wrong_number_of_arguments at
one_text (more_args e no_args) at last = wants Text (expression_at e) last
one_text (more_args e (more_args f es)) at last = wrong_number_of_arguments at

abbrev pub no_argument : Args → Pos → List Fault
no_argument xs at = if are_none xs then [] else wrong_number_of_arguments at

-- RM A.10.5, A.10.7; the last of the arguments has been typed
abbrev pub put_faults : Builtin → Args → Pos → Typed → List Fault
put_faults Put xs at last = one_text xs at last
put_faults PutLine xs at last = one_text xs at last
put_faults NewLine xs at last = no_argument xs at

-- neither an array nor an element is called; nothing is said of an element whose index is faulty
abbrev pub element_called : Expression → Pos → Typed → List Fault
element_called e at (number index) = wrong_kind_of_name at
element_called e at last = wants Whole (expression_at e) last

abbrev pub array_called : Args → Pos → Typed → List Fault
array_called no_args at last = wrong_kind_of_name at
array_called (more_args e no_args) at last = element_called e at last
array_called (more_args e (more_args f es)) at last = wrong_number_of_arguments at

-- what is called must be a procedure or an entry (RM 6.4(3), 9.5.3(2)), and no function; of one of the program the arguments are checked
-- by its formals
abbrev pub callee_faults : Option Meaning → Args → Pos → Typed → List Fault
callee_faults None xs at last = []
callee_faults (Some (meaning.Builtin b)) xs at last = put_faults b xs at last
callee_faults (Some (meaning.Array a)) xs at last = array_called xs at last
callee_faults (Some (meaning.TaskArray a)) xs at last = array_called xs at last
callee_faults (Some (meaning.Operation o)) xs at last = value_faults (meaning.Operation o) at
callee_faults (Some m) xs at last = wrong_kind_of_name at

-- an operation that is a procedure
abbrev pub operation_meant : operation.Operation → Option Callee
operation_meant o = if is_value o.subprogram then None else Some (Operation o)

-- a procedure of the program, by its unit, an operation, or an entry
abbrev pub callee_meant : Option Meaning → Option Callee
callee_meant (Some (meaning.Procedure unit)) = Some (Procedure unit)
callee_meant (Some (meaning.Operation o)) = operation_meant o
callee_meant (Some (meaning.Entry e)) = Some (Entry e)
callee_meant _ = None

-- the index of the array of tasks before the point behind which an entry of one of them stands
abbrev pub index_checked : Owner → Name → Place → Checked
index_checked (Single v) n place = fine unknown
index_checked (Element a) n place = checked_prefix n place
index_checked (owner.Object x) n place = fine unknown

-- within a function of an object none of its entries and procedures is called
abbrev pub may_change : Instance → Bool
may_change x = not (is_in_function x.access)

abbrev pub owner_faults : Owner → Pos → List Fault
owner_faults (owner.Object x) at = no_change_within_function (may_change x) at
owner_faults _ at = []

abbrev pub entry_call_faults : entry.Entry → Name → Pos → Place → Tables → List Fault
entry_call_faults e n at place t =
    owner_faults e.owner at ++ ((index_checked e.owner n place).faults ++ arguments_faults (entry_profile_of e.number t) n at place)

abbrev pub operation_call_faults : operation.Operation → Name → Pos → Place → Tables → List Fault
operation_call_faults o n at place t = no_change_within_function (may_change o.instance) at ++ arguments_faults (profile_of o.unit t) n at place

abbrev pub called_faults : Option Callee → Denoted → Name → Place → Tables → List Fault
called_faults (Some (Procedure unit)) d n place t = arguments_faults (profile_of unit t) n d.at place
called_faults (Some (Operation o)) d n place t = operation_call_faults o n d.at place t
called_faults (Some (Entry e)) d n place t = entry_call_faults e n d.at place t
called_faults None d n place t = (checked_arguments n place).faults ++ callee_faults d.meaning (last_args n) d.at (checked_arguments n place).typed

abbrev pub call_faults : Name → Place → Tables → List Fault
call_faults n place t = (resolved n place).faults ++ called_faults (callee_meant (resolved n place).denoted.meaning) (resolved n place).denoted n place t

-- Put_Line puts out its text and ends the line; a faulty call is left as a null statement
abbrev pub put_out : Builtin → Pos → Typed → tree.Statement
put_out Put at (string t) = tree.put at t
put_out PutLine at (string t) = tree.put at (tree.join t tree.new_line)
put_out NewLine at last = tree.put at tree.new_line
put_out _ at _ = tree.null at

abbrev pub procedure_called : ℕ → Pos → Option (List tree.Argument) → tree.Statement
procedure_called unit at None = tree.null at
procedure_called unit at (Some arguments) = tree.procedure_call at (record { unit = unit; arguments = arguments; into = None })

-- Calls of operations: from within their object as of procedures, and from outside (RM 9.5(3, 4)).

abbrev pub by_access : Bool → Instance → Pos → tree.Calling → tree.Statement
by_access true x at c = tree.procedure_call at c
by_access false x at c = tree.operation_call at x.variable c

abbrev pub operation_called : operation.Operation → Option tree.Reference → Pos → Option (List tree.Argument) → tree.Statement
operation_called o into at None = tree.null at
operation_called o into at (Some arguments) = by_access (is_inside o.instance.access) o.instance at (record { unit = o.unit; arguments = arguments; into = into })

abbrev pub called : Option Meaning → Pos → Typed → tree.Statement
called (Some (meaning.Builtin b)) at last = put_out b at last
called _ at last = tree.null at

-- Entry calls (RM 9.5.3).

-- whose entry is called: that of the object in whose body the call stands, or another's
pub data Whose : Type 0 where
  own_object : Whose
  another : tree.Callee → Whose

abbrev pub called_object : Bool → Instance → Whose
called_object true x = own_object
called_object false x = another (tree.of_object x.variable)

-- none where the index of a task is faulty
abbrev pub called_owner : Owner → Typed → Option Whose
called_owner (Single v) index = Some (another (tree.of_task (tree.single v)))
called_owner (Element a) (number e) = Some (another (tree.of_task (tree.indexed (task_array_at a) e)))
called_owner (Element a) _ = None
called_owner (owner.Object x) index = Some (called_object (is_inside x.access) x)

-- with what arguments
pub record EntryCalled : Type 0 where
  pub whose : Whose
  pub entry : ℕ
  pub arguments : List tree.Argument

abbrev pub called_with : ℕ → Option Whose → Option (List tree.Argument) → Option EntryCalled
called_with e (Some whose) (Some arguments) = Some (record { whose = whose; entry = e; arguments = arguments })
called_with e _ _ = None

abbrev pub entry_called : entry.Entry → Name → Place → Tables → Option EntryCalled
entry_called e n place t = called_with e.number (called_owner e.owner (index_checked e.owner n place).typed) (all_passed (entry_profile_of e.number t) (last_args n) place)

-- with what follows the call, and what is done in place of it; neither follows a call of an own entry, which always fails
abbrev pub entry_call_to : Whose → Pos → ℕ → List tree.Argument → tree.CallForm → tree.Part → tree.Part → tree.Statement
entry_call_to own_object at e arguments form following otherwise = tree.own_entry_call at arguments form
entry_call_to (another callee) at e arguments form following otherwise = tree.entry_call at (record { callee = callee; entry = e; arguments = arguments; form = form }) following otherwise

abbrev pub entry_call_of : Pos → tree.CallForm → tree.Part → tree.Part → Option EntryCalled → tree.Statement
entry_call_of at form following otherwise None = tree.null at
entry_call_of at form following otherwise (Some c) = entry_call_to c.whose at c.entry c.arguments form following otherwise

abbrev pub called_as : Option Callee → Denoted → Name → Place → Tables → tree.Statement
called_as (Some (Procedure unit)) d n place t = procedure_called unit (name_ident n).at (all_passed (profile_of unit t) (last_args n) place)
called_as (Some (Operation o)) d n place t = operation_called o None (name_ident n).at (all_passed (profile_of o.unit t) (last_args n) place)
called_as (Some (Entry e)) d n place t = entry_call_of (name_ident n).at tree.plainly tree.nothing tree.nothing (entry_called e n place t)
called_as None d n place t = called d.meaning (name_ident n).at (checked_arguments n place).typed

abbrev pub typed_call : Name → Place → Tables → tree.Statement
typed_call n place t = called_as (callee_meant (resolved n place).denoted.meaning) (resolved n place).denoted n place t

-- Timed and conditional calls: what could be called by itself and is no entry is none for them (RM 9.7.2, 9.7.3).

abbrev pub selected_faults : Option Meaning → Pos → List Fault
selected_faults (Some (meaning.Builtin b)) at = not_an_entry at
selected_faults (Some (meaning.Procedure unit)) at = not_an_entry at
selected_faults (Some (meaning.Operation o)) at = if is_value o.subprogram then [] else not_an_entry at
selected_faults _ at = []

abbrev pub selected_call_faults : Name → Place → Tables → List Fault
selected_call_faults n place t =
    (resolved n place).faults ++ (selected_faults (resolved n place).denoted.meaning (resolved n place).denoted.at
    ++ called_faults (callee_meant (resolved n place).denoted.meaning) (resolved n place).denoted n place t)

abbrev pub selected_as : Option Callee → Name → Place → Tables → Option EntryCalled
selected_as (Some (Entry e)) n place t = entry_called e n place t
selected_as _ n place t = None

abbrev pub selected_call : Name → Place → Tables → Option EntryCalled
selected_call n place t = selected_as (callee_meant (resolved n place).denoted.meaning) n place t
