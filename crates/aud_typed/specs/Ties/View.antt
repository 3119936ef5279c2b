-- The plain program of a program in memory.
use Rattle.std.specs.Prelude.{ℕ, ◌+◌, ◌*◌, List, [], ◌∷◌, ◌++◌, map, Option, Some, None, Vec}
use Rattle.std.specs.Global.{Global}
use Rattle.aud_typed.specs.declared.program.IntegerExpression.{IntegerExpression, Number, Variable, Element', Unary', Chain', Count, Row_of-Operation, end_of-Operation, more_of-Operation}
use Rattle.aud_typed.specs.declared.program.Connective.{Connective}
use Rattle.aud_typed.specs.declared.program.Connective.TheVariants.{Logical, AndThen, OrElse}
use Rattle.aud_typed.specs.declared.program.BooleanExpression as boolean
use Rattle.aud_typed.specs.declared.program.BooleanExpression.{BooleanExpression, Row_of-BooleanExpression, end_of-BooleanExpression, more_of-BooleanExpression}
use Rattle.aud_typed.specs.declared.program.TaskName.{TaskName}
use Rattle.aud_typed.specs.declared.program.TaskName.TheVariants as named
use Rattle.aud_typed.specs.declared.program.ValueExpression.{ValueExpression}
use Rattle.aud_typed.specs.declared.program.ValueExpression.TheVariants.{Whole, Truth}
use Rattle.aud_typed.specs.declared.program.Reference.{Reference}
use Rattle.aud_typed.specs.declared.program.Reference.TheVariants as reference
use Rattle.aud_typed.specs.declared.program.Argument.{Argument}
use Rattle.aud_typed.specs.declared.program.Argument.TheVariants.{ByValue, ByCopy}
use Rattle.aud_typed.specs.declared.program.Duration.{Duration}
use Rattle.aud_typed.specs.declared.program.DelayExpression.{DelayExpression}
use Rattle.aud_typed.specs.declared.program.DelayExpression.TheVariants as delay
use Rattle.aud_typed.specs.declared.program.CallForm.{CallForm}
use Rattle.aud_typed.specs.declared.program.CallForm.TheVariants as form
use Rattle.aud_typed.specs.declared.program.Calling.{Calling}
use Rattle.aud_typed.specs.declared.program.Callee.{Callee}
use Rattle.aud_typed.specs.declared.program.Callee.TheVariants as callee
use Rattle.aud_typed.specs.declared.program.Requeue as requeue
use Rattle.aud_typed.specs.declared.program.TextExpression.{TextExpression, Literal, Image, ImageTruth, Join', NewLine, Row_of-TextExpression, end_of-TextExpression, more_of-TextExpression}
use Rattle.aud_typed.specs.declared.program.Statement.{Statement, Declare, DeclareArray, DeclareTasks, DeclareObject, Activated, Null, Assign, Put, If', While', Loop', For', Exit, Raise, RaiseAgain, Block', Return, ReturnValue, ProcedureCall, OwnEntryCall, OperationCall, EntryCall', Delay, Accept', Select', Abort, Requeue, Row_of-Statement, end_of-Statement, more_of-Statement}
use Rattle.aud_typed.specs.declared.program.Tasks.{Tasks}
use Rattle.aud_typed.specs.declared.program.IfStatement.{IfStatement, IfStatement', out-IfStatement, Row_of-Arm, end_of-Arm, more_of-Arm}
use Rattle.aud_typed.specs.declared.program.Arm.{Arm}
use Rattle.aud_typed.specs.declared.program.ForStatement.{ForStatement, out-ForStatement}
use Rattle.aud_typed.specs.declared.program.BlockStatement.{BlockStatement, BlockStatement', out-BlockStatement}
use Rattle.aud_typed.specs.declared.program.EntryCallStatement.{EntryCallStatement, out-EntryCallStatement}
use Rattle.aud_typed.specs.declared.program.AcceptStatement.{AcceptStatement, AcceptStatement', out-AcceptStatement, Held-AcceptStatement-doing, None', Some'}
use Rattle.aud_typed.specs.declared.program.Doing.{Doing, Doing', out-Doing}
use Rattle.aud_typed.specs.declared.program.SelectStatement.{SelectStatement, out-SelectStatement, Row_of-Alternative, end_of-Alternative, more_of-Alternative}
use Rattle.aud_typed.specs.declared.program.Alternative as alternative
use Rattle.aud_typed.specs.declared.program.Alternative.{Alternative}
use Rattle.aud_typed.specs.declared.program.Body.{Body, Body', out-Body, Row_of-Handler, end_of-Handler, more_of-Handler}
use Rattle.aud_typed.specs.declared.program.Handler.{Handler}
use Rattle.aud_typed.specs.declared.program.Statements.{Statements}
use Rattle.aud_typed.specs.declared.program.Subtype.TheVariants.{Boolean}
use Rattle.aud_typed.specs.declared.program.Shown.{Shown}
use Rattle.aud_typed.specs.declared.program.Shown.TheVariants as shown
use Rattle.aud_typed.specs.declared.program.Named.{Named}
use Rattle.aud_typed.specs.declared.program.Unit as declared
use Rattle.aud_typed.specs.declared.program.TaskType.{TaskType}
use Rattle.aud_typed.specs.declared.program.ProtectedObject.{ProtectedObject}
use Rattle.aud_typed.specs.declared.program.Entry.{Entry}
use Rattle.aud_typed.specs.declared.program.EntryBody.{EntryBody}
use Rattle.aud_typed.specs.declared.program.Program.{Program}
use Rattle.aud_typed.specs.Tree as tree
use Rattle.aud_typed.specs.Tree.{before, part_of, activation, Part, some, Handlers, no_handlers, handler}

abbrev mutual
  pub plain_integer : IntegerExpression → tree.IntegerExpression
  plain_integer (Number value) = tree.number value
  plain_integer (Variable v) = tree.variable v
  plain_integer (Element' a _ index) = tree.element a (plain_integer index)
  plain_integer (Unary' operator _ x) = tree.unary operator (plain_integer x)
  plain_integer (Chain' _ x _ rest) = tree.chained (plain_integer x) (plain_operations rest)
  plain_integer (Count v entry) = tree.count v entry

  pub plain_operations : {n : _} → Row_of-Operation n → List tree.Operation
  plain_operations end_of-Operation = []
  plain_operations (more_of-Operation operator right rest) = record { operator = operator; right = plain_integer right } ∷ plain_operations rest

abbrev pub connected : Connective → tree.BooleanExpression → tree.BooleanExpression → tree.BooleanExpression
connected (Logical operator) x y = tree.logical operator x y
connected AndThen x y = tree.and_then x y
connected OrElse x y = tree.or_else x y

-- an operand, and those behind it
abbrev pub all_connected : Connective → tree.BooleanExpression → List tree.BooleanExpression → tree.BooleanExpression
all_connected c left [] = left
all_connected c left (x ∷ xs) = all_connected c (connected c left x) xs

abbrev pub plain_task : TaskName → tree.TaskName
plain_task (named.Single v) = tree.single v
plain_task (named.Element a index) = tree.indexed a (plain_integer index)

abbrev mutual
  pub plain_boolean : BooleanExpression → tree.BooleanExpression
  plain_boolean (boolean.Truth b) = tree.truth b
  plain_boolean (boolean.Variable v) = tree.stored (tree.scalar v Boolean)
  plain_boolean (boolean.Element a index) = tree.stored (tree.component a (plain_integer index) Boolean)
  plain_boolean (boolean.Not' _ x) = tree.negation (plain_boolean x)
  plain_boolean (boolean.Relation operator x y) = tree.relation operator (plain_integer x) (plain_integer y)
  plain_boolean (boolean.Comparison' operator _ x _ y) = tree.comparison operator (plain_boolean x) (plain_boolean y)
  plain_boolean (boolean.Chain' connective _ x _ rest) = all_connected connective (plain_boolean x) (plain_booleans rest)
  plain_boolean (boolean.Callable t) = tree.callable (plain_task t)
  plain_boolean (boolean.Terminated t) = tree.terminated (plain_task t)

  pub plain_booleans : {n : _} → Row_of-BooleanExpression n → List tree.BooleanExpression
  plain_booleans end_of-BooleanExpression = []
  plain_booleans (more_of-BooleanExpression x rest) = plain_boolean x ∷ plain_booleans rest

abbrev pub plain_value : ValueExpression → tree.ValueExpression
plain_value (Whole t e) = tree.whole t (plain_integer e)
plain_value (Truth e) = tree.boolean (plain_boolean e)

abbrev pub plain_reference : Reference → tree.Reference
plain_reference (reference.Scalar v t) = tree.scalar v t
plain_reference (reference.Element a index t) = tree.component a (plain_integer index) t

abbrev pub plain_argument : Argument → tree.Argument
plain_argument (ByValue e) = tree.by_value (plain_value e)
plain_argument (ByCopy is_in t r) = tree.by_copy is_in t (plain_reference r)

abbrev pub plain_arguments : List Argument → List tree.Argument
plain_arguments xs = map plain_argument xs

abbrev pub milliseconds_in : Duration → ℕ
milliseconds_in d = d.seconds * 1000 + d.thousandths

abbrev pub plain_delay : DelayExpression → tree.DelayExpression
plain_delay (delay.Fixed d) = tree.milliseconds (milliseconds_in d)
plain_delay (delay.Seconds e) = tree.seconds (plain_integer e)

abbrev pub plain_form : CallForm → tree.CallForm
plain_form form.Plain = tree.plainly
plain_form form.Conditional = tree.conditionally
plain_form (form.Timed e) = tree.timed (plain_delay e)

abbrev pub plain_into : Option Reference → Option tree.Reference
plain_into None = None
plain_into (Some r) = Some (plain_reference r)

abbrev pub plain_calling : Calling → tree.Calling
plain_calling c = record { unit = c.unit; arguments = plain_arguments c.arguments.items; into = plain_into c.into }

abbrev pub plain_callee : Callee → tree.Callee
plain_callee (callee.Task t) = tree.of_task (plain_task t)
plain_callee (callee.Object v) = tree.of_object v

abbrev pub plain_call : Callee → ℕ → List Argument → CallForm → tree.EntryCall
plain_call called entry arguments form = record { callee = plain_callee called; entry = entry; arguments = plain_arguments arguments; form = plain_form form }

abbrev pub plain_requeue : requeue.Requeue → tree.Requeue
plain_requeue r = record { callee = plain_callee r.callee; entry = r.entry; with_formals = r.with_formals; with_abort = r.with_abort }

abbrev pub plain_values : List ValueExpression → List tree.ValueExpression
plain_values es = map plain_value es

abbrev pub plain_task_names : List TaskName → List tree.TaskName
plain_task_names ts = map plain_task ts

abbrev mutual
  pub plain_text : TextExpression → tree.TextExpression
  plain_text (Literal text) = tree.literal text
  plain_text (Image e) = tree.image (plain_integer e)
  plain_text (ImageTruth e) = tree.image_truth (plain_boolean e)
  plain_text (Join' _ x _ rest) = tree.joined (plain_text x) (plain_texts rest)
  plain_text NewLine = tree.new_line

  pub plain_texts : {n : _} → Row_of-TextExpression n → List tree.TextExpression
  plain_texts end_of-TextExpression = []
  plain_texts (more_of-TextExpression x rest) = plain_text x ∷ plain_texts rest

abbrev pub plain_tasks : Tasks → tree.Tasks
plain_tasks ts = record { task_type = ts.task_type; name = ts.name; low = ts.low; is_array = ts.is_array; length = ts.length }

abbrev mutual
  pub plain_statement : Statement → tree.Statement
  plain_statement (Declare at up_to e) = tree.declare at up_to (plain_value e)
  plain_statement (DeclareArray at t n) = tree.declare_array at t n
  plain_statement (DeclareTasks at ts) = tree.declare_tasks at (plain_tasks ts)
  plain_statement (DeclareObject at n es) = tree.declare_object at n (plain_values es.items)
  plain_statement (Activated at) = tree.activated at
  plain_statement (Null at) = tree.null at
  plain_statement (Assign at r e) = tree.assign at (plain_reference r) (plain_value e)
  plain_statement (Put at t) = tree.put at (plain_text t)
  plain_statement (If' _ s) = plain_if s
  plain_statement (While' at c _ _ first _ others) = tree.while_loop at (plain_boolean c) (before (plain_statement first) (plain_row others))
  plain_statement (Loop' _ _ first _ others) = tree.plain_loop (before (plain_statement first) (plain_row others))
  plain_statement (For' _ at next_at region backward a b _ first _ others) =
      tree.for_loop (record { at = at; next_at = next_at; region = region; backward = backward }) (plain_integer a) (plain_integer b) (before (plain_statement first) (plain_row others))
  plain_statement (Exit at n c) = tree.exit at n (plain_boolean c)
  plain_statement (Raise at x) = tree.raising at x
  plain_statement (RaiseAgain at) = tree.raising_again at
  plain_statement (Block' _ b) = plain_block b
  plain_statement (Return at) = tree.return at
  plain_statement (ReturnValue at e) = tree.return_value at (plain_value e)
  plain_statement (ProcedureCall at c) = tree.procedure_call at (plain_calling c)
  plain_statement (OwnEntryCall at arguments form) = tree.own_entry_call at (plain_arguments arguments.items) (plain_form form)
  plain_statement (OperationCall at v c) = tree.operation_call at v (plain_calling c)
  plain_statement (EntryCall' _ at called entry arguments form _ after _ otherwise) = tree.entry_call at (plain_call called entry arguments.items form) (part_of (plain_row after)) (part_of (plain_row otherwise))
  plain_statement (Delay at e) = tree.delay at (plain_delay e)
  plain_statement (Accept' _ s) = plain_accept s
  plain_statement (Select' _ at _ alternatives _ otherwise) = tree.select at (plain_alternatives alternatives) (part_of (plain_row otherwise))
  plain_statement (Abort at ts) = tree.abort at (plain_task_names ts.items)
  plain_statement (Requeue at r) = tree.requeue at (plain_requeue r.value)

  pub plain_row : {n : _} → Row_of-Statement n → List tree.Statement
  plain_row end_of-Statement = []
  plain_row (more_of-Statement s rest) = plain_statement s ∷ plain_row rest

  pub plain_if : IfStatement → tree.Statement
  plain_if (IfStatement' at c _ first _ others _ arms _ otherwise) = tree.if_then at (plain_boolean c) (before (plain_statement first) (plain_row others)) (plain_arms arms (part_of (plain_row otherwise)))

  -- the arms behind each `elsif`, and what stands behind them
  pub plain_arms : {n : _} → Row_of-Arm n → Part → Part
  plain_arms end_of-Arm otherwise = otherwise
  plain_arms (more_of-Arm at c _ first _ others rest) otherwise = some (tree.if_then at (plain_boolean c) (before (plain_statement first) (plain_row others)) (plain_arms rest otherwise))

  pub plain_block : BlockStatement → tree.Statement
  plain_block (BlockStatement' at region b) = tree.block at region (plain_body b)

  pub plain_accept : AcceptStatement → tree.Statement
  plain_accept (AcceptStatement' at entry doing) = tree.accept at entry (plain_held doing)

  pub plain_held : Held-AcceptStatement-doing → tree.Doing
  plain_held None' = tree.without_do
  plain_held (Some' doing) = plain_doing doing

  pub plain_doing : Doing → tree.Doing
  plain_doing (Doing' region b) = tree.with_do region (plain_body b)

  pub plain_alternatives : {n : _} → Row_of-Alternative n → tree.Alternatives
  plain_alternatives end_of-Alternative = tree.no_alternatives
  plain_alternatives (more_of-Alternative a rest) = plain_alternative a (plain_alternatives rest)

  -- an alternative, and those behind it
  pub plain_alternative : Alternative → tree.Alternatives → tree.Alternatives
  plain_alternative (alternative.Accept' guard accept _ after) rest = plain_accepting accept (plain_boolean guard) (part_of (plain_row after)) rest
  plain_alternative (alternative.Delay' guard e _ after) rest = tree.delaying (plain_boolean guard) (plain_delay e) (part_of (plain_row after)) rest
  plain_alternative (alternative.Terminate guard) rest = tree.terminating (plain_boolean guard) rest

  pub plain_accepting : AcceptStatement → tree.BooleanExpression → Part → tree.Alternatives → tree.Alternatives
  plain_accepting (AcceptStatement' at entry doing) guard after rest = tree.accepting guard at entry (plain_held doing) after rest

  pub plain_handlers : {n : _} → Row_of-Handler n → Handlers
  plain_handlers end_of-Handler = no_handlers
  plain_handlers (more_of-Handler others choices _ first _ more rest) = handler others choices.items (before (plain_statement first) (plain_row more)) (plain_handlers rest)

  pub plain_body : Body → tree.Body
  plain_body (Body' _ declarations begin activates _ first _ others _ handlers end) =
      tree.body (part_of (plain_row declarations ++ activation activates begin)) begin (before (plain_statement first) (plain_row others)) (plain_handlers handlers) end

abbrev pub plain_statements : List Statement → List tree.Statement
plain_statements ss = map plain_statement ss

abbrev pub plain_shown : Shown → tree.Shown
plain_shown shown.Whole = tree.as_whole
plain_shown shown.Truth = tree.as_truth
plain_shown (shown.Wholes n) = tree.as_wholes n
plain_shown (shown.Truths n) = tree.as_truths n
plain_shown (shown.Hidden n) = tree.hidden n

abbrev pub plain_named : Named → tree.Named
plain_named n = record { name = n.name; shown = plain_shown n.shown }

abbrev pub plain_region : Vec Named Global → List tree.Named
plain_region r = map plain_named r.items

abbrev pub plain_unit : declared.Unit → tree.UnitBody
plain_unit u = record { level = u.level; region = u.region; is_function = u.is_function; at = u.at; body = plain_body u.body }

abbrev pub plain_task_type : TaskType → tree.TaskPlan
plain_task_type t = record { unit = t.unit; entries = t.entries.items }

abbrev pub plain_object : ProtectedObject → tree.ObjectPlan
plain_object o = record { name = o.name; level = o.level; components = plain_region o.components; entries = o.entries.items }

abbrev pub entry_with : List ℕ → ℕ → Option EntryBody → tree.EntryBody
entry_with name formals None = tree.task_entry name formals
entry_with name formals (Some b) = record { name = name; formals = formals; unit = b.unit; barrier = plain_boolean b.barrier }

abbrev pub plain_entry : Entry → tree.EntryBody
plain_entry e = entry_with e.name e.formals e.body

abbrev pub plain_program : Program → tree.Program
plain_program p = tree.program_of_units (record {
  name = p.name;
  units = map plain_unit p.units.items;
  tasks = map plain_task_type p.tasks.items;
  objects = map plain_object p.objects.items;
  entries = map plain_entry p.entries.items;
  regions = map plain_region p.regions.items;
  exceptions = p.exceptions.items;
})

-- The same by the parts of what is in memory.

-- a statement, and those behind it
abbrev pub in_order : Statement → List Statement → tree.Statement
in_order s ss = before (plain_statement s) (plain_statements ss)

abbrev pub statements_in : Statements → tree.Statement
statements_in ss = in_order ss.first.value ss.others.items

-- the arms behind each `elsif`, and what stands behind them
abbrev pub part_of_arms : List Arm → Part → Part
part_of_arms [] otherwise = otherwise
part_of_arms (a ∷ more) otherwise = some (tree.if_then a.at (plain_boolean a.condition) (statements_in a.statements) (part_of_arms more otherwise))

abbrev pub if_in : IfStatement → tree.Statement
if_in s =
    let first = (out-IfStatement s).first in
    tree.if_then first.at (plain_boolean first.condition) (statements_in first.statements) (part_of_arms (out-IfStatement s).others.items (part_of (plain_statements (out-IfStatement s).otherwise.items)))

abbrev pub for_in : ForStatement → tree.Statement
for_in s =
    let o = out-ForStatement s in
    tree.for_loop (record { at = o.at; next_at = o.next_at; region = o.region; backward = o.backward }) (plain_integer o.first) (plain_integer o.last) (statements_in o.statements)

abbrev pub handlers_in : List Handler → Handlers
handlers_in [] = no_handlers
handlers_in (h ∷ hs) = handler h.others h.choices.items (statements_in h.statements) (handlers_in hs)

-- what is done before the statements of a body: its declarations, and the activation at its `begin`
abbrev pub elaborations_in : Body → List tree.Statement
elaborations_in body = let b = out-Body body in plain_statements b.declarations.items ++ activation b.activates b.begin

abbrev pub body_in : Body → tree.Body
body_in body =
    let b = out-Body body in
    tree.body (part_of (elaborations_in body)) b.begin (statements_in b.statements) (handlers_in b.handlers.items) b.end

abbrev pub block_in : BlockStatement → tree.Statement
block_in s = tree.block (out-BlockStatement s).at (out-BlockStatement s).region (body_in (out-BlockStatement s).body)

abbrev pub entry_call_in : EntryCallStatement → tree.Statement
entry_call_in s =
    let o = out-EntryCallStatement s in
    tree.entry_call o.at (plain_call o.callee o.entry o.arguments.items o.form) (part_of (plain_statements o.after.items)) (part_of (plain_statements o.otherwise.items))

abbrev pub doing_in : Option Doing → tree.Doing
doing_in None = tree.without_do
doing_in (Some doing) = tree.with_do (out-Doing doing).region (body_in (out-Doing doing).body)

abbrev pub accept_in : AcceptStatement → tree.Statement
accept_in s = let o = out-AcceptStatement s in tree.accept o.at o.entry (doing_in o.doing)

-- an accept as an alternative, with its guard, what stands behind it, and the alternatives behind it
abbrev pub accepting_in : AcceptStatement → tree.BooleanExpression → Part → tree.Alternatives → tree.Alternatives
accepting_in s guard after rest = let o = out-AcceptStatement s in tree.accepting guard o.at o.entry (doing_in o.doing) after rest

abbrev pub alternatives_in : List Alternative → tree.Alternatives
alternatives_in [] = tree.no_alternatives
alternatives_in (a ∷ rest) = plain_alternative a (alternatives_in rest)

abbrev pub select_in : SelectStatement → tree.Statement
select_in s =
    let o = out-SelectStatement s in
    tree.select o.at (alternatives_in o.alternatives.items) (part_of (plain_statements o.otherwise.items))
