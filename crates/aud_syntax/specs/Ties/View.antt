-- The plain tree of a tree in memory.
use Rattle.std.specs.Prelude.{List, [], ◌∷◌, map, Option, Some, None, Box, Vec}
use Rattle.aud_text.specs.declared.place.Pos.{Pos}
use Rattle.aud_syntax.specs.declared.tree.Ident.{Ident}
use Rattle.std.specs.Global.{Global}
use Rattle.aud_syntax.specs.declared.tree.Expression.{Expression, Alone, Connected'}
use Rattle.aud_syntax.specs.declared.tree.Chain.{Chain, Row_of-Relation, end_of-Relation, more_of-Relation}
use Rattle.aud_syntax.specs.declared.tree.Relation.{Relation, Unrelated, Related'}
use Rattle.aud_syntax.specs.declared.tree.Comparison.{Comparison, Comparison'}
use Rattle.aud_syntax.specs.declared.tree.Name.{Row_of-NamePart, end_of-NamePart, more_of-NamePart}
use Rattle.aud_syntax.specs.declared.tree.Name as name
use Rattle.aud_syntax.specs.declared.tree.NamePart.{NamePart, Row_of-Expression, end_of-Expression, more_of-Expression}
use Rattle.aud_syntax.specs.declared.tree.Simple.{Simple, Simple', Row_of-Added, end_of-Added, more_of-Added}
use Rattle.aud_syntax.specs.declared.tree.Added.{Added, Added'}
use Rattle.aud_syntax.specs.declared.tree.Term.{Term, Term', Row_of-Multiplied, end_of-Multiplied, more_of-Multiplied}
use Rattle.aud_syntax.specs.declared.tree.Multiplied.{Multiplied}
use Rattle.aud_syntax.specs.declared.tree.Factor.{Factor}
use Rattle.aud_syntax.specs.declared.tree.Primary.{Primary, Integer, Text, Name', Attribute', Group', Held-Primary-Attribute-2, None', Some'}
use Rattle.aud_syntax.specs.declared.tree.Formal.{Formal}
use Rattle.aud_syntax.specs.declared.tree.Declaration.{Declaration, Object, Constant, Array, Exception, Procedure', Task, TaskBody', Protected, ProtectedBody'}
use Rattle.aud_syntax.specs.declared.tree.ProcedureDeclaration.{ProcedureDeclaration, ProcedureDeclaration', out-ProcedureDeclaration}
use Rattle.aud_syntax.specs.declared.tree.EntryDeclaration.{EntryDeclaration}
use Rattle.aud_syntax.specs.declared.tree.TaskDefinition.{TaskDefinition}
use Rattle.aud_syntax.specs.declared.tree.TaskDeclaration.{TaskDeclaration}
use Rattle.aud_syntax.specs.declared.tree.TaskBody as task
use Rattle.aud_syntax.specs.declared.tree.ProtectedDeclaration.{ProtectedDeclaration}
use Rattle.aud_syntax.specs.declared.tree.Operation.{Operation}
use Rattle.aud_syntax.specs.declared.tree.Operation.TheVariants as operation
use Rattle.aud_syntax.specs.declared.tree.PrivateItem.{PrivateItem}
use Rattle.aud_syntax.specs.declared.tree.PrivateItem.TheVariants as private_item
use Rattle.aud_syntax.specs.declared.tree.ProtectedBody as object
use Rattle.aud_syntax.specs.declared.tree.ProtectedBody.{Row_of-OperationBody, end_of-OperationBody, more_of-OperationBody}
use Rattle.aud_syntax.specs.declared.tree.OperationBody.{OperationBody, OperationBody', out-OperationBody}
use Rattle.aud_syntax.specs.declared.tree.OperationKind.{OperationKind}
use Rattle.aud_syntax.specs.declared.tree.OperationKind.TheVariants as operation_kind
use Rattle.aud_syntax.specs.declared.tree.LoopParameter.{LoopParameter}
use Rattle.aud_syntax.specs.declared.tree.Choices.{Choices}
use Rattle.aud_syntax.specs.declared.tree.Choices.TheVariants as choices
use Rattle.aud_syntax.specs.declared.tree.BlockStatement.{BlockStatement, BlockStatement', out-BlockStatement, Row_of-Declaration, end_of-Declaration, more_of-Declaration}
use Rattle.aud_syntax.specs.declared.tree.Handler.{Handler}
use Rattle.aud_syntax.specs.declared.tree.Statement.{Statement, Null, Assign, Call, If', Loop', Block', Exit, Return, Raise, Accept', Select', SelectCall', Row_of-Statement, end_of-Statement, more_of-Statement}
use Rattle.aud_syntax.specs.declared.tree.Statement as statement
use Rattle.aud_syntax.specs.declared.tree.IfStatement.{IfStatement, IfStatement', out-IfStatement, Row_of-Arm, end_of-Arm, more_of-Arm}
use Rattle.aud_syntax.specs.declared.tree.Arm.{Arm}
use Rattle.aud_syntax.specs.declared.tree.LoopStatement.{LoopStatement}
use Rattle.aud_syntax.specs.declared.tree.Iteration.{Iteration}
use Rattle.aud_syntax.specs.declared.tree.Iteration.TheVariants as iteration
use Rattle.aud_syntax.specs.declared.tree.Statements.{Statements}
use Rattle.aud_syntax.specs.declared.tree.AcceptStatement.{AcceptStatement, AcceptStatement', out-AcceptStatement, Held-AcceptStatement-doing, None', Some'}
use Rattle.aud_syntax.specs.declared.tree.Delay.{Delay}
use Rattle.aud_syntax.specs.declared.tree.AbortStatement.{AbortStatement}
use Rattle.aud_syntax.specs.declared.tree.Delay.TheVariants as delay
use Rattle.aud_syntax.specs.declared.tree.SelectStatement.{SelectStatement, SelectStatement', out-SelectStatement, Row_of-Guarded, end_of-Guarded, more_of-Guarded}
use Rattle.aud_syntax.specs.declared.tree.Guarded.{Guarded}
use Rattle.aud_syntax.specs.declared.tree.Alternative as alternative
use Rattle.aud_syntax.specs.declared.tree.Alternative.{Alternative}
use Rattle.aud_syntax.specs.declared.tree.SelectedCall.{SelectedCall}
use Rattle.aud_syntax.specs.declared.tree.Otherwise as otherwise
use Rattle.aud_syntax.specs.declared.tree.Otherwise.{Otherwise}
use Rattle.aud_syntax.specs.declared.tree.Context.{Context}
use Rattle.aud_syntax.specs.declared.tree.Context.TheVariants as context
use Rattle.aud_syntax.specs.declared.tree.Body.{Body, Body', out-Body, Row_of-Handler, end_of-Handler, more_of-Handler}
use Rattle.aud_syntax.specs.declared.tree.Unit as declared
use Rattle.aud_syntax.specs.Plain as m

-- expressions and names (RM 4.1, 4.4)
abbrev mutual
  pub plain_expression : Expression → m.Expression
  plain_expression (Alone x) = m.alone (plain_relation x)
  plain_expression (Connected' _ connective first second _ others) = m.connected connective (plain_relation first) (plain_relation second) (plain_relations others)

  pub plain_relations : {n : _} → Row_of-Relation n → m.Relations
  plain_relations end_of-Relation = m.no_relations
  plain_relations (more_of-Relation x xs) = m.more_relations (plain_relation x) (plain_relations xs)

  pub plain_relation : Relation → m.Relation
  plain_relation (Unrelated x) = m.unrelated (plain_simple x)
  plain_relation (Related' _ x) = plain_comparison x

  pub plain_comparison : Comparison → m.Relation
  plain_comparison (Comparison' operator left right) = m.related operator (plain_simple left) (plain_simple right)

  pub plain_simple : Simple → m.Simple
  plain_simple (Simple' sign first _ rest) = m.simple sign (plain_term first) (plain_addeds rest)

  pub plain_addeds : {n : _} → Row_of-Added n → m.Addeds
  plain_addeds end_of-Added = m.no_addeds
  plain_addeds (more_of-Added x xs) = m.more_addeds (plain_added x) (plain_addeds xs)

  pub plain_added : Added → m.Added
  plain_added (Added' operator term) = m.added operator (plain_term term)

  pub plain_term : Term → m.Term
  plain_term (Term' operator primary _ rest) = m.term (m.factor operator (plain_primary primary)) (plain_multiplieds rest)

  pub plain_multiplieds : {n : _} → Row_of-Multiplied n → m.Multiplieds
  plain_multiplieds end_of-Multiplied = m.no_multiplieds
  plain_multiplieds (more_of-Multiplied by operator primary xs) = m.more_multiplieds (m.multiplied by (m.factor operator (plain_primary primary))) (plain_multiplieds xs)

  pub plain_primary : Primary → m.Primary
  plain_primary (Integer x) = m.integer x
  plain_primary (Text x) = m.text x
  plain_primary (Name' _ x) = m.name (plain_name x)
  plain_primary (Attribute' _ x y e) = m.attribute (plain_name x) y (plain_argument e)
  plain_primary (Group' at _ e) = m.group at (plain_expression e)

  pub plain_argument : Held-Primary-Attribute-2 → m.MaybeExpression
  plain_argument None' = m.no_expression
  plain_argument (Some' _ e) = m.an_expression (plain_expression e)

  pub plain_name : name.Name → m.Name
  plain_name (name.Name' i _ xs _ others) = m.named (m.part i (plain_args xs)) (plain_parts others)

  pub plain_parts : {n : _} → Row_of-NamePart n → m.Parts
  plain_parts end_of-NamePart = m.no_parts
  plain_parts (more_of-NamePart i _ xs others) = m.more_parts (m.part i (plain_args xs)) (plain_parts others)

  pub plain_args : {n : _} → Row_of-Expression n → m.Args
  plain_args end_of-Expression = m.no_args
  plain_args (more_of-Expression x xs) = m.more_args (plain_expression x) (plain_args xs)

abbrev pub relation_list : List Relation → m.Relations
relation_list [] = m.no_relations
relation_list (x ∷ xs) = m.more_relations (plain_relation x) (relation_list xs)

abbrev pub plain_chain : Chain → m.Expression
plain_chain x = m.connected x.connective (plain_relation x.first) (plain_relation x.second) (relation_list x.others.items)

abbrev pub plain_factor : Factor → m.Factor
plain_factor x = m.factor x.operator (plain_primary x.primary)

abbrev pub plain_multiplied : Multiplied → m.Multiplied
plain_multiplied x = m.multiplied x.operator (plain_factor x.factor)

abbrev pub plain_expressions : List Expression → m.Args
plain_expressions [] = m.no_args
plain_expressions (x ∷ xs) = m.more_args (plain_expression x) (plain_expressions xs)

abbrev pub plain_part : NamePart → m.NamePart
plain_part x = m.part x.ident (plain_expressions x.args.items)

abbrev pub part_list : List NamePart → m.Parts
part_list [] = m.no_parts
part_list (x ∷ xs) = m.more_parts (plain_part x) (part_list xs)

abbrev pub plain_maybe : Option Expression → m.MaybeExpression
plain_maybe None = m.no_expression
plain_maybe (Some e) = m.an_expression (plain_expression e)

abbrev pub plain_boxed : Option (Box Expression Global) → m.MaybeExpression
plain_boxed None = m.no_expression
plain_boxed (Some e) = m.an_expression (plain_expression e.value)

-- RM 6.1
abbrev pub plain_formal : Formal → m.Formal
plain_formal x = m.formal x.names.first x.names.others.items x.mode x.subtype

-- RM 9.5.2(2)
abbrev pub plain_entry : EntryDeclaration → m.EntryDeclaration
plain_entry x = record { name = x.name; formals = map plain_formal x.formals.items }

-- RM 9.1(4)
abbrev pub plain_task_definition : TaskDefinition → m.TaskDefinition
plain_task_definition x = record { entries = map plain_entry x.entries.items; end_name = x.end_name }

abbrev pub plain_definition : Option TaskDefinition → Option m.TaskDefinition
plain_definition None = None
plain_definition (Some x) = Some (plain_task_definition x)

-- RM 9.1
abbrev pub plain_task : TaskDeclaration → m.Declaration
plain_task x = m.task x.at x.is_type x.name (plain_definition x.definition)

-- RM 9.4(5)
abbrev pub plain_operation : Operation → m.Operation
plain_operation (operation.Entry x) = m.entry_operation (plain_entry x)
plain_operation (operation.Procedure i formals) = m.procedure_operation i (map plain_formal formals.items)
plain_operation (operation.Function i formals subtype) = m.function_operation i (map plain_formal formals.items) subtype

-- RM 9.4(6)
abbrev pub plain_private_item : PrivateItem → m.PrivateItem
plain_private_item (private_item.Operation x) = m.private_operation (plain_operation x)
plain_private_item (private_item.Components names subtype value) = m.components names.first names.others.items subtype (plain_maybe value)

abbrev pub plain_private : Option (Vec PrivateItem Global) → Option (List m.PrivateItem)
plain_private None = None
plain_private (Some v) = Some (map plain_private_item v.items)

-- RM 9.4(3, 4)
abbrev pub plain_protected : ProtectedDeclaration → m.Declaration
plain_protected x = m.protected x.at x.name (map plain_operation x.operations.items) (plain_private x.private_items) x.end_name

-- the body of an operation, by its parts (RM 9.4(8))
abbrev pub made_operation_body : OperationKind → Pos → Ident → List m.Formal → m.Declarations → m.Body → m.OperationBody
made_operation_body (operation_kind.Entry barrier) at i formals declarations x = m.entry_body at i formals (plain_expression barrier) declarations x
made_operation_body operation_kind.Procedure at i formals declarations x = m.procedure_body at i formals declarations x
made_operation_body (operation_kind.Function subtype) at i formals declarations x = m.function_body at i formals subtype declarations x

-- RM 5.5(4)
abbrev pub plain_parameter : LoopParameter → m.Iteration
plain_parameter x = m.for x.name x.reverse (plain_simple x.low) (plain_simple x.high)

abbrev pub plain_iteration : Iteration → m.Iteration
plain_iteration iteration.Forever = m.forever
plain_iteration (iteration.While e) = m.while (plain_expression e)
plain_iteration (iteration.For x) = plain_parameter x

-- RM 11.2(5)
abbrev pub plain_choices : Choices → m.Choices
plain_choices (choices.Named names) = m.exceptions names.first names.others.items
plain_choices (choices.Others at) = m.others at

-- RM 9.6
abbrev pub plain_delay : Delay → m.Delay
plain_delay (delay.Seconds at x) = m.delay_real at x
plain_delay (delay.Duration at named e) = m.delay_duration at named (plain_expression e)

-- RM 9.8
abbrev pub plain_names : List name.Name → m.Names
plain_names [] = m.no_names
plain_names (x ∷ xs) = m.more_names (plain_name x) (plain_names xs)

abbrev pub plain_abort : AbortStatement → m.Statement
plain_abort x = m.abort x.at (plain_name x.first) (plain_names x.others.items)

-- declarations, statements and bodies (RM 3.1, 5.1, 11.2)
abbrev mutual
  pub plain_declaration : Declaration → m.Declaration
  plain_declaration (Object names subtype value) = m.object names.first names.others.items subtype (plain_maybe value)
  plain_declaration (Constant names subtype value) = m.constant names.first names.others.items subtype (plain_expression value)
  plain_declaration (Array names low high subtype) = m.array names.first names.others.items low high subtype
  plain_declaration (Exception names) = m.exception names.first names.others.items
  plain_declaration (Procedure' _ x) = plain_procedure x
  plain_declaration (Task x) = plain_task x
  plain_declaration (TaskBody' _ x) = plain_task_body x
  plain_declaration (Protected x) = plain_protected x
  plain_declaration (ProtectedBody' _ x) = plain_protected_body x

  pub plain_declaration_row : {n : _} → Row_of-Declaration n → m.Declarations
  plain_declaration_row end_of-Declaration = m.no_declarations
  plain_declaration_row (more_of-Declaration x xs) = m.more_declarations (plain_declaration x) (plain_declaration_row xs)

  -- RM 6.3
  pub plain_procedure : ProcedureDeclaration → m.Declaration
  plain_procedure (ProcedureDeclaration' at i formals _ declarations x) = m.procedure at i (map plain_formal formals.items) (plain_declaration_row declarations) (plain_body x)

  -- RM 9.1(6)
  pub plain_task_body : task.TaskBody → m.Declaration
  plain_task_body (task.TaskBody' at i _ declarations x) = m.task_body at i (plain_declaration_row declarations) (plain_body x)

  -- RM 9.4(7)
  pub plain_protected_body : object.ProtectedBody → m.Declaration
  plain_protected_body (object.ProtectedBody' at i _ bodies last) = m.protected_body at i (plain_operation_bodies bodies) last

  pub plain_operation_bodies : {n : _} → Row_of-OperationBody n → m.OperationBodies
  plain_operation_bodies end_of-OperationBody = m.no_bodies
  plain_operation_bodies (more_of-OperationBody x xs) = m.more_bodies (plain_operation_body x) (plain_operation_bodies xs)

  pub plain_operation_body : OperationBody → m.OperationBody
  plain_operation_body (OperationBody' kind at i formals _ declarations x) = made_operation_body kind at i (map plain_formal formals.items) (plain_declaration_row declarations) (plain_body x)

  pub plain_statement : Statement → m.Statement
  plain_statement (Null at) = m.null at
  plain_statement (Assign x e) = m.assign (plain_name x) (plain_expression e)
  plain_statement (Call x) = m.call (plain_name x)
  plain_statement (If' _ s) = plain_if s
  plain_statement (Loop' _ label at i _ first _ others name semicolon) = m.loop label at (plain_iteration i) (m.in_order (plain_statement first) (plain_row others)) name semicolon
  plain_statement (Block' _ s) = plain_block s
  plain_statement (Exit at label e) = m.exit at label (plain_maybe e)
  plain_statement (Return at e) = m.return at (plain_maybe e)
  plain_statement (Raise at x) = m.raise at x
  plain_statement (Accept' _ x) = m.accepting (plain_accept x)
  plain_statement (statement.Delay x) = m.delaying (plain_delay x.value)
  plain_statement (Select' _ x) = plain_select x
  plain_statement (SelectCall' _ at x _ behind otherwise) = m.select_call at (plain_name x) (plain_row behind) (plain_other otherwise)
  plain_statement (statement.Abort x) = plain_abort x.value
  plain_statement (statement.Requeue at x with_abort) = m.requeue at (plain_name x.value) with_abort

  pub plain_row : {n : _} → Row_of-Statement n → m.MoreStatements
  plain_row end_of-Statement = m.no_statements
  plain_row (more_of-Statement x xs) = m.more_statements (plain_statement x) (plain_row xs)

  -- RM 5.3
  pub plain_if : IfStatement → m.Statement
  plain_if (IfStatement' at e _ first _ others _ arms _ otherwise) = m.if_then at (plain_expression e) (m.in_order (plain_statement first) (plain_row others)) (plain_arms arms) (plain_row otherwise)

  pub plain_arms : {n : _} → Row_of-Arm n → m.Arms
  plain_arms end_of-Arm = m.no_arms
  plain_arms (more_of-Arm at e _ first _ others arms) = m.more_arms at (plain_expression e) (m.in_order (plain_statement first) (plain_row others)) (plain_arms arms)

  -- RM 5.6
  pub plain_block : BlockStatement → m.Statement
  plain_block (BlockStatement' label at declare _ declarations x) = m.block label at declare (plain_declaration_row declarations) (plain_body x)

  -- RM 11.2
  pub plain_body : Body → m.Body
  plain_body (Body' begin _ first _ others _ handlers end name semicolon) = m.body begin (m.in_order (plain_statement first) (plain_row others)) (plain_handlers handlers) end name semicolon

  pub plain_handlers : {n : _} → Row_of-Handler n → m.Handlers
  plain_handlers end_of-Handler = m.no_handlers
  plain_handlers (more_of-Handler x _ first _ others handlers) = m.more_handlers (plain_choices x) (m.in_order (plain_statement first) (plain_row others)) (plain_handlers handlers)

  -- RM 9.5.2(3)
  pub plain_accept : AcceptStatement → m.Accept
  plain_accept (AcceptStatement' at i formals doing) = m.accept at i (map plain_formal formals.items) (plain_doing doing)

  pub plain_doing : Held-AcceptStatement-doing → m.Doing
  plain_doing None' = m.without_do
  plain_doing (Some' _ x) = m.with_do (plain_body x)

  -- RM 9.7.1
  pub plain_select : SelectStatement → m.Statement
  plain_select (SelectStatement' at guard x _ others _ otherwise) = m.select_accept at (plain_maybe guard) (plain_alternative x) (plain_alternatives others) (plain_row otherwise)

  pub plain_alternatives : {n : _} → Row_of-Guarded n → m.Alternatives
  plain_alternatives end_of-Guarded = m.no_alternatives
  plain_alternatives (more_of-Guarded guard x others) = m.more_alternatives (plain_maybe guard) (plain_alternative x) (plain_alternatives others)

  pub plain_alternative : Alternative → m.Alternative
  plain_alternative (alternative.Accept' x _ behind) = m.accept_alternative (plain_accept x) (plain_row behind)
  plain_alternative (alternative.Delay' x _ behind) = m.delay_alternative (plain_delay x) (plain_row behind)
  plain_alternative alternative.Terminate = m.terminate_alternative

  -- RM 9.7.2, 9.7.3
  pub plain_other : Otherwise → m.Otherwise
  plain_other (otherwise.Delay' x _ behind) = m.or_delay (plain_delay x) (plain_row behind)
  plain_other (otherwise.Else' _ first _ others) = m.or_else (m.in_order (plain_statement first) (plain_row others))

-- The same by the parts of what is in memory.

abbrev pub plain_declarations : List Declaration → m.Declarations
plain_declarations [] = m.no_declarations
plain_declarations (x ∷ xs) = m.more_declarations (plain_declaration x) (plain_declarations xs)

-- RM 6.3
abbrev pub plain_procedure_parts : ProcedureDeclaration → m.Declaration
plain_procedure_parts s =
    let x = out-ProcedureDeclaration s in
    m.procedure x.at x.name (map plain_formal x.formals.items) (plain_declarations x.declarations.items) (plain_body x.body)

-- RM 9.1(6)
abbrev pub plain_task_body_parts : task.TaskBody → m.Declaration
plain_task_body_parts s =
    let x = task.out-TaskBody s in
    m.task_body x.at x.name (plain_declarations x.declarations.items) (plain_body x.body)

-- RM 9.4(8)
abbrev pub plain_operation_body_parts : OperationBody → m.OperationBody
plain_operation_body_parts s =
    let x = out-OperationBody s in
    made_operation_body x.kind x.at x.name (map plain_formal x.formals.items) (plain_declarations x.declarations.items) (plain_body x.body)

abbrev pub operation_body_list : List OperationBody → m.OperationBodies
operation_body_list [] = m.no_bodies
operation_body_list (x ∷ xs) = m.more_bodies (plain_operation_body x) (operation_body_list xs)

-- RM 9.4(7)
abbrev pub plain_protected_body_parts : object.ProtectedBody → m.Declaration
plain_protected_body_parts s =
    let x = object.out-ProtectedBody s in
    m.protected_body x.at x.name (operation_body_list x.bodies.items) x.end_name

abbrev pub plain_others : List Statement → m.MoreStatements
plain_others [] = m.no_statements
plain_others (x ∷ xs) = m.more_statements (plain_statement x) (plain_others xs)

abbrev pub plain_statements : Statements → m.Statements
plain_statements x = m.in_order (plain_statement x.first.value) (plain_others x.others.items)

abbrev pub arm_list : List Arm → m.Arms
arm_list [] = m.no_arms
arm_list (x ∷ xs) = m.more_arms x.at (plain_expression x.condition) (plain_statements x.statements) (arm_list xs)

abbrev pub plain_if_statement : IfStatement → m.Statement
plain_if_statement s =
    let x = out-IfStatement s in
    m.if_then x.first.at (plain_expression x.first.condition) (plain_statements x.first.statements) (arm_list x.others.items) (plain_others x.otherwise.items)

abbrev pub plain_loop_statement : LoopStatement → m.Statement
plain_loop_statement x = m.loop x.label x.at (plain_iteration x.iteration) (plain_statements x.statements) x.name x.semicolon

-- RM 5.6
abbrev pub plain_block_statement : BlockStatement → m.Statement
plain_block_statement s =
    let x = out-BlockStatement s in
    m.block x.label x.at x.declare (plain_declarations x.declarations.items) (plain_body x.body)

-- RM 11.2
abbrev pub handler_list : List Handler → m.Handlers
handler_list [] = m.no_handlers
handler_list (x ∷ xs) = m.more_handlers (plain_choices x.choices) (plain_statements x.statements) (handler_list xs)

abbrev pub plain_body_parts : Body → m.Body
plain_body_parts x =
    let y = out-Body x in
    m.body y.begin (plain_statements y.statements) (handler_list y.handlers.items) y.end y.name y.semicolon

-- RM 9.5.2(3)
abbrev pub plain_done : Option (Box Body Global) → m.Doing
plain_done None = m.without_do
plain_done (Some x) = m.with_do (plain_body x.value)

abbrev pub plain_accept_parts : AcceptStatement → m.Accept
plain_accept_parts s =
    let x = out-AcceptStatement s in
    m.accept x.at x.name (map plain_formal x.formals.items) (plain_done x.doing)

-- RM 9.7.1
abbrev pub guarded_list : List Guarded → m.Alternatives
guarded_list [] = m.no_alternatives
guarded_list (x ∷ xs) = m.more_alternatives (plain_maybe x.guard) (plain_alternative x.alternative) (guarded_list xs)

abbrev pub plain_select_statement : SelectStatement → m.Statement
plain_select_statement s =
    let x = out-SelectStatement s in
    m.select_accept x.at (plain_maybe x.first.guard) (plain_alternative x.first.alternative) (guarded_list x.others.items) (plain_others x.otherwise.items)

-- RM 9.7.2, 9.7.3
abbrev pub plain_selected_call : SelectedCall → m.Statement
plain_selected_call x = m.select_call x.at (plain_name x.call) (plain_others x.behind.items) (plain_other x.otherwise)

-- RM 8.4, 10.1.2
abbrev pub plain_context : Context → m.Context
plain_context (context.With at) = m.with_text_io at
plain_context (context.Use at) = m.use_text_io at

-- RM 10.1.1
abbrev pub plain_unit : declared.Unit → m.Unit
plain_unit x = m.unit (map plain_context x.context.items) x.at x.name (plain_declarations x.declarations.items) (plain_body x.body)
