-- A syntax tree with one place in all positions: two trees have the same bare tree where they differ in places alone.
use Rattle.std.specs.Prelude.{List, map, Option, Some, None}
use Rattle.aud_text.specs.declared.place.Pos.{Pos}
use Rattle.aud_syntax.specs.declared.tree.Ident.{Ident}
use Rattle.aud_syntax.specs.declared.tree.Number.{Number}
use Rattle.aud_syntax.specs.declared.tree.Real.{Real}
use Rattle.aud_syntax.specs.declared.tree.Literal.{Literal}
use Rattle.aud_syntax.specs.declared.tree.Signed.{Signed}
use Rattle.aud_syntax.specs.declared.tree.Operator.{Operator}
use Rattle.aud_syntax.specs.declared.tree.Bound.{Bound}
use Rattle.aud_syntax.specs.declared.tree.Mode.{Mode}
use Rattle.aud_syntax.specs.declared.tree.Mode.TheVariants as mode
use Rattle.aud_syntax.specs.Plain.{Expression, alone, connected, Relations, no_relations, more_relations, Relation, unrelated, related, Simple, simple, Addeds, no_addeds, more_addeds, Added, added, Term, term, Multiplieds, no_multiplieds, more_multiplieds, Multiplied, multiplied, Factor, factor, Primary, integer, text, name, attribute, group, MaybeExpression, no_expression, an_expression, Name, named, Parts, no_parts, more_parts, NamePart, part, Args, no_args, more_args, Formal, formal, EntryDeclaration, TaskDefinition, Operation, entry_operation, procedure_operation, function_operation, PrivateItem, private_operation, components, Delay, delay_real, delay_duration, Names, no_names, more_names, Declaration, object, constant, array, exception, procedure, task, task_body, protected, protected_body, Declarations, no_declarations, more_declarations, Statement, null, assign, call, if_then, loop, exit, block, return, raise, accepting, delaying, select_accept, select_call, abort, requeue, Arms, no_arms, more_arms, Iteration, forever, while, for, Choices, exceptions, others, Statements, in_order, MoreStatements, no_statements, more_statements, Body, body, Handlers, no_handlers, more_handlers, OperationBody, entry_body, procedure_body, function_body, OperationBodies, no_bodies, more_bodies, Accept, accept, Doing, without_do, with_do, Alternative, accept_alternative, delay_alternative, terminate_alternative, Alternatives, no_alternatives, more_alternatives, Otherwise, or_delay, or_else, Context, with_text_io, use_text_io, Unit, unit}

abbrev pub nowhere : Pos
nowhere = record { line = 1; col = 1 }

abbrev pub bare_ident : Ident → Ident
bare_ident x = record { name = x.name; at = nowhere }

abbrev pub bare_number : Number → Number
bare_number x = record { value = x.value; at = nowhere }

abbrev pub bare_real : Real → Real
bare_real x = record { whole = x.whole; thousandths = x.thousandths; at = nowhere }

abbrev pub bare_literal : Literal → Literal
bare_literal x = record { text = x.text; at = nowhere }

abbrev pub bare_signed : Signed → Signed
bare_signed x = record { sign = x.sign; at = nowhere }

abbrev pub bare_operator : Operator → Operator
bare_operator x = record { highest = x.highest; at = nowhere }

abbrev pub bare_sign : Option Signed → Option Signed
bare_sign None = None
bare_sign (Some x) = Some (bare_signed x)

abbrev pub bare_highest : Option Operator → Option Operator
bare_highest None = None
bare_highest (Some x) = Some (bare_operator x)

abbrev pub bare_end : Option Ident → Option Ident
bare_end None = None
bare_end (Some x) = Some (bare_ident x)

abbrev mutual
  pub bare_expression : Expression → Expression
  bare_expression (alone x) = alone (bare_relation x)
  bare_expression (connected connective x y xs) = connected connective (bare_relation x) (bare_relation y) (bare_relations xs)

  pub bare_relations : Relations → Relations
  bare_relations no_relations = no_relations
  bare_relations (more_relations x xs) = more_relations (bare_relation x) (bare_relations xs)

  pub bare_relation : Relation → Relation
  bare_relation (unrelated x) = unrelated (bare_simple x)
  bare_relation (related operator x y) = related operator (bare_simple x) (bare_simple y)

  pub bare_simple : Simple → Simple
  bare_simple (simple s t rest) = simple (bare_sign s) (bare_term t) (bare_addeds rest)

  pub bare_addeds : Addeds → Addeds
  bare_addeds no_addeds = no_addeds
  bare_addeds (more_addeds x xs) = more_addeds (bare_added x) (bare_addeds xs)

  pub bare_added : Added → Added
  bare_added (added operator t) = added operator (bare_term t)

  pub bare_term : Term → Term
  bare_term (term x rest) = term (bare_factor x) (bare_multiplieds rest)

  pub bare_multiplieds : Multiplieds → Multiplieds
  bare_multiplieds no_multiplieds = no_multiplieds
  bare_multiplieds (more_multiplieds x xs) = more_multiplieds (bare_multiplied x) (bare_multiplieds xs)

  pub bare_multiplied : Multiplied → Multiplied
  bare_multiplied (multiplied operator x) = multiplied operator (bare_factor x)

  pub bare_factor : Factor → Factor
  bare_factor (factor operator x) = factor (bare_highest operator) (bare_primary x)

  pub bare_primary : Primary → Primary
  bare_primary (integer x) = integer (bare_number x)
  bare_primary (text x) = text (bare_literal x)
  bare_primary (name x) = name (bare_name x)
  bare_primary (attribute x y e) = attribute (bare_name x) (bare_ident y) (bare_maybe e)
  bare_primary (group at e) = group nowhere (bare_expression e)

  pub bare_maybe : MaybeExpression → MaybeExpression
  bare_maybe no_expression = no_expression
  bare_maybe (an_expression e) = an_expression (bare_expression e)

  pub bare_name : Name → Name
  bare_name (named x xs) = named (bare_part x) (bare_parts xs)

  pub bare_parts : Parts → Parts
  bare_parts no_parts = no_parts
  bare_parts (more_parts x xs) = more_parts (bare_part x) (bare_parts xs)

  pub bare_part : NamePart → NamePart
  bare_part (part i xs) = part (bare_ident i) (bare_args xs)

  pub bare_args : Args → Args
  bare_args no_args = no_args
  bare_args (more_args e xs) = more_args (bare_expression e) (bare_args xs)

abbrev pub bare_bound : Bound → Bound
bare_bound x = record { negative = x.negative; number = bare_number x.number }

-- RM 6.1
abbrev pub bare_mode : Mode → Mode
bare_mode mode.Unstated = mode.Unstated
bare_mode (mode.In at) = mode.In nowhere
bare_mode (mode.Out at) = mode.Out nowhere
bare_mode (mode.InOut at) = mode.InOut nowhere

abbrev pub bare_formal : Formal → Formal
bare_formal (formal x xs how subtype) = formal (bare_ident x) (map bare_ident xs) (bare_mode how) (bare_ident subtype)

-- RM 9.5.2(2)
abbrev pub bare_entry : EntryDeclaration → EntryDeclaration
bare_entry x = record { name = bare_ident x.name; formals = map bare_formal x.formals }

-- RM 9.1(4)
abbrev pub bare_task_definition : TaskDefinition → TaskDefinition
bare_task_definition x = record { entries = map bare_entry x.entries; end_name = bare_end x.end_name }

abbrev pub bare_definition : Option TaskDefinition → Option TaskDefinition
bare_definition None = None
bare_definition (Some x) = Some (bare_task_definition x)

-- RM 9.4
abbrev pub bare_operation : Operation → Operation
bare_operation (entry_operation x) = entry_operation (bare_entry x)
bare_operation (procedure_operation x formals) = procedure_operation (bare_ident x) (map bare_formal formals)
bare_operation (function_operation x formals subtype) = function_operation (bare_ident x) (map bare_formal formals) (bare_ident subtype)

abbrev pub bare_private_item : PrivateItem → PrivateItem
bare_private_item (private_operation x) = private_operation (bare_operation x)
bare_private_item (components x xs subtype value) = components (bare_ident x) (map bare_ident xs) (bare_ident subtype) (bare_maybe value)

abbrev pub bare_private : Option (List PrivateItem) → Option (List PrivateItem)
bare_private None = None
bare_private (Some xs) = Some (map bare_private_item xs)

-- RM 9.6
abbrev pub bare_delay : Delay → Delay
bare_delay (delay_real at x) = delay_real nowhere (bare_real x)
bare_delay (delay_duration at name_at e) = delay_duration nowhere nowhere (bare_expression e)

-- RM 9.8
abbrev pub bare_names : Names → Names
bare_names no_names = no_names
bare_names (more_names x xs) = more_names (bare_name x) (bare_names xs)

abbrev pub bare_iteration : Iteration → Iteration
bare_iteration forever = forever
bare_iteration (while e) = while (bare_expression e)
bare_iteration (for x reverse low high) = for (bare_ident x) reverse (bare_simple low) (bare_simple high)

abbrev pub bare_choices : Choices → Choices
bare_choices (exceptions x xs) = exceptions (bare_ident x) (map bare_ident xs)
bare_choices (others at) = others nowhere

abbrev mutual
  pub bare_declaration : Declaration → Declaration
  bare_declaration (object x xs subtype value) = object (bare_ident x) (map bare_ident xs) (bare_ident subtype) (bare_maybe value)
  bare_declaration (constant x xs subtype value) = constant (bare_ident x) (map bare_ident xs) (bare_ident subtype) (bare_expression value)
  bare_declaration (array x xs low high subtype) = array (bare_ident x) (map bare_ident xs) (bare_bound low) (bare_bound high) (bare_ident subtype)
  bare_declaration (exception x xs) = exception (bare_ident x) (map bare_ident xs)
  bare_declaration (procedure at x formals ds rest) = procedure nowhere (bare_ident x) (map bare_formal formals) (bare_declarations ds) (bare_body rest)
  bare_declaration (task at is_type x definition) = task nowhere is_type (bare_ident x) (bare_definition definition)
  bare_declaration (task_body at x ds rest) = task_body nowhere (bare_ident x) (bare_declarations ds) (bare_body rest)
  bare_declaration (protected at x operations hidden last) = protected nowhere (bare_ident x) (map bare_operation operations) (bare_private hidden) (bare_end last)
  bare_declaration (protected_body at x bodies last) = protected_body nowhere (bare_ident x) (bare_operation_bodies bodies) (bare_end last)

  pub bare_declarations : Declarations → Declarations
  bare_declarations no_declarations = no_declarations
  bare_declarations (more_declarations x xs) = more_declarations (bare_declaration x) (bare_declarations xs)

  pub bare_statement : Statement → Statement
  bare_statement (null at) = null nowhere
  bare_statement (assign x e) = assign (bare_name x) (bare_expression e)
  bare_statement (call x) = call (bare_name x)
  bare_statement (if_then at e statements arms otherwise) = if_then nowhere (bare_expression e) (bare_statements statements) (bare_arms arms) (bare_more_statements otherwise)
  bare_statement (loop label at i statements last semicolon) = loop (bare_end label) nowhere (bare_iteration i) (bare_statements statements) (bare_end last) nowhere
  bare_statement (exit at label e) = exit nowhere (bare_end label) (bare_maybe e)
  bare_statement (block label at declare ds x) = block (bare_end label) nowhere declare (bare_declarations ds) (bare_body x)
  bare_statement (return at e) = return nowhere (bare_maybe e)
  bare_statement (raise at x) = raise nowhere (bare_end x)
  bare_statement (accepting x) = accepting (bare_accept x)
  bare_statement (delaying x) = delaying (bare_delay x)
  bare_statement (select_accept at e x xs otherwise) = select_accept nowhere (bare_maybe e) (bare_alternative x) (bare_alternatives xs) (bare_more_statements otherwise)
  bare_statement (select_call at x behind otherwise) = select_call nowhere (bare_name x) (bare_more_statements behind) (bare_other otherwise)
  bare_statement (abort at x xs) = abort nowhere (bare_name x) (bare_names xs)
  bare_statement (requeue at x with_abort) = requeue nowhere (bare_name x) with_abort

  pub bare_more_statements : MoreStatements → MoreStatements
  bare_more_statements no_statements = no_statements
  bare_more_statements (more_statements x xs) = more_statements (bare_statement x) (bare_more_statements xs)

  pub bare_statements : Statements → Statements
  bare_statements (in_order x xs) = in_order (bare_statement x) (bare_more_statements xs)

  pub bare_arms : Arms → Arms
  bare_arms no_arms = no_arms
  bare_arms (more_arms at e statements arms) = more_arms nowhere (bare_expression e) (bare_statements statements) (bare_arms arms)

  pub bare_body : Body → Body
  bare_body (body begin statements handlers end last semicolon) = body nowhere (bare_statements statements) (bare_handlers handlers) nowhere (bare_end last) nowhere

  pub bare_handlers : Handlers → Handlers
  bare_handlers no_handlers = no_handlers
  bare_handlers (more_handlers x statements xs) = more_handlers (bare_choices x) (bare_statements statements) (bare_handlers xs)

  pub bare_operation_body : OperationBody → OperationBody
  bare_operation_body (entry_body at x formals e ds rest) = entry_body nowhere (bare_ident x) (map bare_formal formals) (bare_expression e) (bare_declarations ds) (bare_body rest)
  bare_operation_body (procedure_body at x formals ds rest) = procedure_body nowhere (bare_ident x) (map bare_formal formals) (bare_declarations ds) (bare_body rest)
  bare_operation_body (function_body at x formals subtype ds rest) = function_body nowhere (bare_ident x) (map bare_formal formals) (bare_ident subtype) (bare_declarations ds) (bare_body rest)

  pub bare_operation_bodies : OperationBodies → OperationBodies
  bare_operation_bodies no_bodies = no_bodies
  bare_operation_bodies (more_bodies x xs) = more_bodies (bare_operation_body x) (bare_operation_bodies xs)

  pub bare_accept : Accept → Accept
  bare_accept (accept at x formals doing) = accept nowhere (bare_ident x) (map bare_formal formals) (bare_doing doing)

  pub bare_doing : Doing → Doing
  bare_doing without_do = without_do
  bare_doing (with_do x) = with_do (bare_body x)

  pub bare_alternative : Alternative → Alternative
  bare_alternative (accept_alternative x behind) = accept_alternative (bare_accept x) (bare_more_statements behind)
  bare_alternative (delay_alternative x behind) = delay_alternative (bare_delay x) (bare_more_statements behind)
  bare_alternative terminate_alternative = terminate_alternative

  pub bare_alternatives : Alternatives → Alternatives
  bare_alternatives no_alternatives = no_alternatives
  bare_alternatives (more_alternatives e x xs) = more_alternatives (bare_maybe e) (bare_alternative x) (bare_alternatives xs)

  pub bare_other : Otherwise → Otherwise
  bare_other (or_delay x behind) = or_delay (bare_delay x) (bare_more_statements behind)
  bare_other (or_else statements) = or_else (bare_statements statements)

abbrev pub bare_context : Context → Context
bare_context (with_text_io at) = with_text_io nowhere
bare_context (use_text_io at) = use_text_io nowhere

abbrev pub bare : Unit → Unit
bare (unit context at x declarations rest) = unit (map bare_context context) nowhere (bare_ident x) (bare_declarations declarations) (bare_body rest)
