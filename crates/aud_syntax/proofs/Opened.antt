-- Trees by their parts.
use Rattle.std.proofs.Common.{◌≡◌, Bool, List, [], ◌∷◌, map, refl, ap, sym, ◌∙◌}
use Rattle.std.specs.Prelude.{Option, Some, None, Vec, Box}
use Rattle.std.specs.Global.{Global}
use mathlib.Core.Former.{list_count, this}
use Rattle.aud_syntax.specs.declared.tree.Signed.{Signed}
use Rattle.aud_syntax.specs.declared.tree.Adding.{Adding}
use Rattle.aud_syntax.specs.declared.tree.Factor.{Factor}
use Rattle.aud_syntax.specs.declared.tree.Multiplied.{Multiplied}
use Rattle.aud_syntax.specs.declared.tree.Simple.{Simple, out-Simple, roll-Simple, roll-out-Simple, rolls-Simple', Row_of-Added, end_of-Added, more_of-Added, items-the_row-Added, items_hidden-the_row-Added-3}
use Rattle.aud_syntax.specs.declared.tree.Added.{Added, out-Added, roll-Added, roll-out-Added, rolls-Added'}
use Rattle.aud_syntax.specs.declared.tree.Term.{Term, out-Term, roll-Term, roll-out-Term, rolls-Term', Row_of-Multiplied, end_of-Multiplied, more_of-Multiplied, items-the_row-Multiplied, items_hidden-the_row-Multiplied-4}
use Rattle.aud_syntax.specs.declared.tree.Expression.TheBlock.{hidden-the_row-Relation-0, hidden-the_row-Expression-1, shown-the_row-Expression-1, hidden-the_row-NamePart-2, hidden-the_row-Added-3, hidden-the_row-Multiplied-4}
use Rattle.aud_syntax.specs.declared.tree.Expression.{Expression}
use Rattle.aud_syntax.specs.declared.tree.Expression.TheVariants.{Connected}
use Rattle.aud_syntax.specs.declared.tree.Chain.{Chain, Row_of-Relation, end_of-Relation, more_of-Relation, items-the_row-Relation, items_hidden-the_row-Relation-0}
use Rattle.aud_syntax.specs.declared.tree.Relational.{Relational}
use Rattle.aud_syntax.specs.declared.tree.Comparison.{Comparison, out-Comparison, roll-Comparison, roll-out-Comparison, rolls-Comparison'}
use Rattle.aud_syntax.specs.declared.tree.NamePart.{NamePart, Row_of-Expression, end_of-Expression, more_of-Expression, items-the_row-Expression, items_hidden-the_row-Expression-1, items_shown-the_row-Expression-1}
use Rattle.aud_syntax.specs.declared.tree.Ident.{Ident}
use Rattle.aud_syntax.specs.declared.tree.Name as name
use Rattle.aud_syntax.specs.declared.tree.Name.{out-Name, roll-Name, roll-out-Name, rolls-Name', Row_of-NamePart, end_of-NamePart, more_of-NamePart, items-the_row-NamePart, items_hidden-the_row-NamePart-2}
use Rattle.aud_syntax.specs.declared.tree.Primary as primary
use Rattle.aud_syntax.specs.declared.tree.Statement.{Statement, Row_of-Statement, end_of-Statement, more_of-Statement, items-the_row-Statement, items_hidden-the_row-Statement-0, items_shown-the_row-Statement-0}
use Rattle.aud_syntax.specs.declared.tree.Statement.TheVariants.{Loop, SelectCall}
use Rattle.aud_syntax.specs.declared.tree.Alternative.TheBlock.{hidden-the_row-Statement-0, shown-the_row-Statement-0, shown-the_row-Declaration-1, shown-the_row-Handler-2, shown-the_row-Arm-3, shown-the_row-OperationBody-4, shown-the_row-Guarded-5}
use Rattle.aud_syntax.specs.declared.tree.IfStatement.{IfStatement, IfStatement', out-IfStatement, roll-IfStatement, out-roll-IfStatement, Row_of-Arm, end_of-Arm, more_of-Arm, items-the_row-Arm, items_shown-the_row-Arm-3}
use Rattle.aud_syntax.specs.declared.tree.Arm.{Arm}
use Rattle.aud_syntax.specs.declared.tree.Handler.{Handler}
use Rattle.aud_syntax.specs.declared.tree.Statements.{Statements}
use Rattle.aud_syntax.specs.declared.tree.AcceptStatement.{AcceptStatement, AcceptStatement', out-AcceptStatement, roll-AcceptStatement, out-roll-AcceptStatement, None', Some'}
use Rattle.aud_syntax.specs.declared.tree.Delay.{Delay}
use Rattle.aud_syntax.specs.declared.tree.SelectStatement.{SelectStatement, SelectStatement', out-SelectStatement, Row_of-Guarded, end_of-Guarded, more_of-Guarded, items-the_row-Guarded, items_shown-the_row-Guarded-5}
use Rattle.aud_syntax.specs.declared.tree.SelectedCall.{SelectedCall}
use Rattle.aud_syntax.specs.declared.tree.Alternative.TheVariants as alternative
use Rattle.aud_syntax.specs.declared.tree.Otherwise.TheVariants as otherwise
use Rattle.aud_syntax.specs.declared.tree.Formal.{Formal}
use Rattle.aud_syntax.specs.declared.tree.Declaration.{Declaration}
use Rattle.aud_syntax.specs.declared.tree.ProcedureDeclaration.{ProcedureDeclaration, ProcedureDeclaration', out-ProcedureDeclaration, roll-ProcedureDeclaration, out-roll-ProcedureDeclaration}
use Rattle.aud_syntax.specs.declared.tree.TaskBody.{TaskBody, TaskBody', out-TaskBody, roll-TaskBody, out-roll-TaskBody}
use Rattle.aud_syntax.specs.declared.tree.ProtectedBody.{ProtectedBody, ProtectedBody', out-ProtectedBody, roll-ProtectedBody, out-roll-ProtectedBody, Row_of-OperationBody, end_of-OperationBody, more_of-OperationBody, items-the_row-OperationBody, items_shown-the_row-OperationBody-4}
use Rattle.aud_syntax.specs.declared.tree.OperationBody.{OperationBody, OperationBody', out-OperationBody, roll-OperationBody, out-roll-OperationBody}
use Rattle.aud_syntax.specs.declared.tree.OperationKind.{OperationKind}
use Rattle.aud_text.specs.declared.place.Pos.{Pos}
use Rattle.aud_syntax.specs.declared.tree.LoopStatement.{LoopStatement}
use Rattle.aud_syntax.specs.declared.tree.BlockStatement.{BlockStatement, BlockStatement', out-BlockStatement, roll-BlockStatement, out-roll-BlockStatement, Row_of-Declaration, end_of-Declaration, more_of-Declaration, items-the_row-Declaration, items_shown-the_row-Declaration-1}
use Rattle.aud_syntax.specs.declared.tree.Body.{Body, Body', out-Body, roll-Body, out-roll-Body, Row_of-Handler, end_of-Handler, more_of-Handler, items-the_row-Handler, items_shown-the_row-Handler-2}
use Rattle.aud_syntax.specs.Ties.View.{plain_expression, plain_boxed, plain_expressions, plain_args, plain_name, plain_part, plain_parts, part_list, plain_primary, plain_relation, plain_relations, relation_list, plain_chain, plain_comparison, plain_simple, plain_addeds, plain_added, plain_term, plain_multiplieds, plain_multiplied, plain_factor, plain_statement, plain_row, plain_others, plain_statements, plain_if, plain_arms, arm_list, plain_iteration, plain_if_statement, plain_loop_statement, plain_choices, plain_body, plain_handlers, handler_list, plain_body_parts, plain_block, plain_block_statement, plain_formal, plain_declaration, plain_declaration_row, plain_declarations, plain_procedure, plain_procedure_parts, plain_task_body, plain_task_body_parts, made_operation_body, plain_operation_body, plain_operation_body_parts, plain_operation_bodies, operation_body_list, plain_protected_body, plain_protected_body_parts, plain_maybe, plain_delay, plain_accept, plain_accept_parts, plain_done, plain_select, plain_select_statement, plain_alternative, plain_alternatives, guarded_list, plain_selected_call, plain_other}
use Rattle.aud_syntax.specs.Plain as m

abbrev pub multiplied_list : List Multiplied → m.Multiplieds
multiplied_list [] = m.no_multiplieds
multiplied_list (x ∷ xs) = m.more_multiplieds (plain_multiplied x) (multiplied_list xs)

abbrev pub added_list : List Added → m.Addeds
added_list [] = m.no_addeds
added_list (x ∷ xs) = m.more_addeds (plain_added x) (added_list xs)

multiplied_rows : (n : _) (row : Row_of-Multiplied n) → plain_multiplieds row ≡ multiplied_list (items-the_row-Multiplied n row)
multiplied_rows n end_of-Multiplied = refl
multiplied_rows n (more_of-Multiplied operator highest primary row) = ap (λ z. m.more_multiplieds (plain_multiplied (record { operator = operator; factor = record { operator = highest; primary = primary } })) z) (multiplied_rows _ row)

added_rows : (n : _) (row : Row_of-Added n) → plain_addeds row ≡ added_list (items-the_row-Added n row)
added_rows n end_of-Added = refl
added_rows n (more_of-Added x row) = ap (λ z. m.more_addeds (plain_added x) z) (added_rows _ row)

added_roll : (operator : Adding) (t : Term) → plain_added (roll-Added (record { operator = operator; term = t })) ≡ m.added operator (plain_term t)
added_roll operator t = ap plain_added (rolls-Added' _)

pub added_open : (x : Added) → plain_added x ≡ m.added (out-Added x).operator (plain_term (out-Added x).term)
added_open x = ap plain_added (sym (roll-out-Added x)) ∙ added_roll (out-Added x).operator (out-Added x).term

term_roll : (f : Factor) (v : Vec Multiplied Global) → plain_term (roll-Term (record { first = f; rest = v })) ≡ m.term (plain_factor f) (multiplied_list v.items)
term_roll f v = ap plain_term (rolls-Term' _) ∙ ap (λ z. m.term (plain_factor f) z) (multiplied_rows _ (hidden-the_row-Multiplied-4 v) ∙ ap multiplied_list (items_hidden-the_row-Multiplied-4 v))

pub term_open : (t : Term) → plain_term t ≡ m.term (plain_factor (out-Term t).first) (multiplied_list (out-Term t).rest.items)
term_open t = ap plain_term (sym (roll-out-Term t)) ∙ term_roll (out-Term t).first (out-Term t).rest

simple_roll : (s : Option Signed) (t : Term) (v : Vec Added Global) → plain_simple (roll-Simple (record { sign = s; first = t; rest = v })) ≡ m.simple s (plain_term t) (added_list v.items)
simple_roll s t v = ap plain_simple (rolls-Simple' _) ∙ ap (λ z. m.simple s (plain_term t) z) (added_rows _ (hidden-the_row-Added-3 v) ∙ ap added_list (items_hidden-the_row-Added-3 v))

pub simple_open : (e : Simple) → plain_simple e ≡ m.simple (out-Simple e).sign (plain_term (out-Simple e).first) (added_list (out-Simple e).rest.items)
simple_open e = ap plain_simple (sym (roll-out-Simple e)) ∙ simple_roll (out-Simple e).sign (out-Simple e).first (out-Simple e).rest

comparison_roll : (operator : Relational) (x y : Simple) → plain_comparison (roll-Comparison (record { operator = operator; left = x; right = y })) ≡ m.related operator (plain_simple x) (plain_simple y)
comparison_roll operator x y = ap plain_comparison (rolls-Comparison' _)

pub comparison_open : (x : Comparison) → plain_comparison x ≡ m.related (out-Comparison x).operator (plain_simple (out-Comparison x).left) (plain_simple (out-Comparison x).right)
comparison_open x = ap plain_comparison (sym (roll-out-Comparison x)) ∙ comparison_roll (out-Comparison x).operator (out-Comparison x).left (out-Comparison x).right

relation_rows : (n : _) (row : Row_of-Relation n) → plain_relations row ≡ relation_list (items-the_row-Relation n row)
relation_rows n end_of-Relation = refl
relation_rows n (more_of-Relation x row) = ap (λ z. m.more_relations (plain_relation x) z) (relation_rows _ row)

pub chain_open : (x : Box Chain Global) → plain_expression (Connected x) ≡ plain_chain x.value
chain_open x = ap (λ z. m.connected x.value.connective (plain_relation x.value.first) (plain_relation x.value.second) z) (relation_rows _ (hidden-the_row-Relation-0 x.value.others) ∙ ap relation_list (items_hidden-the_row-Relation-0 x.value.others))

expression_rows : (n : _) (row : Row_of-Expression n) → plain_args row ≡ plain_expressions (items-the_row-Expression n row)
expression_rows n end_of-Expression = refl
expression_rows n (more_of-Expression x row) = ap (λ z. m.more_args (plain_expression x) z) (expression_rows _ row)

arguments : (v : Vec Expression Global) → plain_args (hidden-the_row-Expression-1 v) ≡ plain_expressions v.items
arguments v = expression_rows _ (hidden-the_row-Expression-1 v) ∙ ap plain_expressions (items_hidden-the_row-Expression-1 v)

arguments_shown : (shape : Vec (Unit {0}) Global) (row : Row_of-Expression (list_count (this {0}) shape.items 0)) → plain_args row ≡ plain_expressions (shown-the_row-Expression-1 shape row).items
arguments_shown shape row = expression_rows _ row ∙ ap plain_expressions (sym (items_shown-the_row-Expression-1 shape row))

part_rows : (n : _) (row : Row_of-NamePart n) → plain_parts row ≡ part_list (items-the_row-NamePart n row)
part_rows n end_of-NamePart = refl
part_rows n (more_of-NamePart i shape xs row) = cc (arguments_shown shape xs, part_rows _ row)

-- a name as it is made of its parts, and as it is taken apart
pub name_roll : (first : NamePart) (others : Vec NamePart Global) → plain_name (roll-Name (record { first = first; others = others })) ≡ m.named (plain_part first) (part_list others.items)
name_roll first others = ap plain_name (rolls-Name' _) ∙ cc (arguments first.args, part_rows _ (hidden-the_row-NamePart-2 others) ∙ ap part_list (items_hidden-the_row-NamePart-2 others))

pub name_open : (x : name.Name) → plain_name x ≡ m.named (plain_part (out-Name x).first) (part_list (out-Name x).others.items)
name_open x = ap plain_name (sym (roll-out-Name x)) ∙ name_roll (out-Name x).first (out-Name x).others

pub attribute_open : (x : Box name.Name Global) (i : Ident) (e : Option (Box Expression Global)) → plain_primary (primary.Attribute x i e) ≡ m.attribute (plain_name x.value) i (plain_boxed e)
attribute_open x i None = refl
attribute_open x i (Some e) = refl

-- statements

statement_rows : (n : _) (row : Row_of-Statement n) → plain_row row ≡ plain_others (items-the_row-Statement n row)
statement_rows n end_of-Statement = refl
statement_rows n (more_of-Statement x row) = ap (λ z. m.more_statements (plain_statement x) z) (statement_rows _ row)

others_are : (v : Vec Statement Global) → plain_row (hidden-the_row-Statement-0 v) ≡ plain_others v.items
others_are v = statement_rows _ (hidden-the_row-Statement-0 v) ∙ ap plain_others (items_hidden-the_row-Statement-0 v)

pub loop_open : (x : Box LoopStatement Global) → plain_statement (Loop x) ≡ plain_loop_statement x.value
loop_open x = ap (λ z. m.loop x.value.label x.value.at (plain_iteration x.value.iteration) (m.in_order (plain_statement x.value.statements.first.value) z) x.value.name x.value.semicolon) (others_are x.value.statements.others)

statements_shown : (shape : Vec (Unit {0}) Global) (row : Row_of-Statement (list_count (this {0}) shape.items 0)) → plain_row row ≡ plain_others (shown-the_row-Statement-0 shape row).items
statements_shown shape row = statement_rows _ row ∙ ap plain_others (sym (items_shown-the_row-Statement-0 shape row))

arm_rows : (n : _) (row : Row_of-Arm n) → plain_arms row ≡ arm_list (items-the_row-Arm n row)
arm_rows n end_of-Arm = refl
arm_rows n (more_of-Arm at e _ first shape others row) =
    ap (λ z. m.more_arms at (plain_expression e) (m.in_order (plain_statement first) z) (plain_arms row)) (statements_shown shape others)
    ∙ ap (λ z. m.more_arms at (plain_expression e) (m.in_order (plain_statement first) (plain_others (shown-the_row-Statement-0 shape others).items)) z) (arm_rows _ row)

arms_shown : (shape : Vec (Unit {0}) Global) (row : Row_of-Arm (list_count (this {0}) shape.items 0)) → plain_arms row ≡ arm_list (shown-the_row-Arm-3 shape row).items
arms_shown shape row = arm_rows _ row ∙ ap arm_list (sym (items_shown-the_row-Arm-3 shape row))

pub if_open : (x : IfStatement) → plain_if x ≡ plain_if_statement x
unfolding out-IfStatement shown-the_row-Statement-0 shown-the_row-Arm-3 denote.Hole.Carrier.out
if_open (IfStatement' at e _ first shape others arms_shape arms else_shape otherwise) =
    let statements = m.in_order (plain_statement first) (plain_others (shown-the_row-Statement-0 shape others).items) in
    ap (λ z. m.if_then at (plain_expression e) (m.in_order (plain_statement first) z) (plain_arms arms) (plain_row otherwise)) (statements_shown shape others)
    ∙ ap (λ z. m.if_then at (plain_expression e) statements z (plain_row otherwise)) (arms_shown arms_shape arms)
    ∙ ap (λ z. m.if_then at (plain_expression e) statements (arm_list (shown-the_row-Arm-3 arms_shape arms).items) z) (statements_shown else_shape otherwise)

-- an if statement as it is made of its parts
pub if_roll : (first : Arm) (others : Vec Arm Global) (otherwise : Vec Statement Global) →
    plain_if (roll-IfStatement (record { first = first; others = others; otherwise = otherwise })) ≡ m.if_then first.at (plain_expression first.condition) (plain_statements first.statements) (arm_list others.items) (plain_others otherwise.items)
if_roll first others otherwise =
    if_open (roll-IfStatement (record { first = first; others = others; otherwise = otherwise }))
    ∙ ap (λ x. m.if_then x.first.at (plain_expression x.first.condition) (plain_statements x.first.statements) (arm_list x.others.items) (plain_others x.otherwise.items)) (out-roll-IfStatement (record { first = first; others = others; otherwise = otherwise }))

-- RM 9.5.2, 9.7

pub accept_open : (x : AcceptStatement) → plain_accept x ≡ plain_accept_parts x
unfolding out-AcceptStatement denote.Hole.Carrier.out
accept_open (AcceptStatement' at i formals None') = refl
accept_open (AcceptStatement' at i formals (Some' p x)) = refl

-- an accept statement as it is made of its parts
pub accept_roll : (at : Pos) (i : Ident) (formals : Vec Formal Global) (doing : Option (Box Body Global)) →
    plain_accept (roll-AcceptStatement (record { at = at; name = i; formals = formals; doing = doing })) ≡ m.accept at i (map plain_formal formals.items) (plain_done doing)
accept_roll at i formals doing =
    accept_open (roll-AcceptStatement (record { at = at; name = i; formals = formals; doing = doing })) ∙ ap (λ y. m.accept y.at y.name (map plain_formal y.formals.items) (plain_done y.doing)) (out-roll-AcceptStatement (record { at = at; name = i; formals = formals; doing = doing }))

guarded_rows : (n : _) (row : Row_of-Guarded n) → plain_alternatives row ≡ guarded_list (items-the_row-Guarded n row)
guarded_rows n end_of-Guarded = refl
guarded_rows n (more_of-Guarded guard x row) = ap (λ z. m.more_alternatives (plain_maybe guard) (plain_alternative x) z) (guarded_rows _ row)

guarded_shown : (shape : Vec (Unit {0}) Global) (row : Row_of-Guarded (list_count (this {0}) shape.items 0)) → plain_alternatives row ≡ guarded_list (shown-the_row-Guarded-5 shape row).items
guarded_shown shape row = guarded_rows _ row ∙ ap guarded_list (sym (items_shown-the_row-Guarded-5 shape row))

pub select_open : (x : SelectStatement) → plain_select x ≡ plain_select_statement x
unfolding out-SelectStatement shown-the_row-Statement-0 shown-the_row-Guarded-5 denote.Hole.Carrier.out
select_open (SelectStatement' at guard x shape others else_shape otherwise) =
    ap (λ z. m.select_accept at (plain_maybe guard) (plain_alternative x) z (plain_row otherwise)) (guarded_shown shape others)
    ∙ ap (λ z. m.select_accept at (plain_maybe guard) (plain_alternative x) (guarded_list (shown-the_row-Guarded-5 shape others).items) z) (statements_shown else_shape otherwise)

pub selected_call_open : (x : Box SelectedCall Global) → plain_statement (SelectCall x) ≡ plain_selected_call x.value
selected_call_open x = ap (λ z. m.select_call x.value.at (plain_name x.value.call) z (plain_other x.value.otherwise)) (others_are x.value.behind)

pub accept_alternative_open : (x : AcceptStatement) (v : Vec Statement Global) → plain_alternative (alternative.Accept x v) ≡ m.accept_alternative (plain_accept x) (plain_others v.items)
accept_alternative_open x v = ap (λ z. m.accept_alternative (plain_accept x) z) (others_are v)

pub delay_alternative_open : (x : Delay) (v : Vec Statement Global) → plain_alternative (alternative.Delay x v) ≡ m.delay_alternative (plain_delay x) (plain_others v.items)
delay_alternative_open x v = ap (λ z. m.delay_alternative (plain_delay x) z) (others_are v)

pub or_delay_open : (x : Delay) (v : Vec Statement Global) → plain_other (otherwise.Delay x v) ≡ m.or_delay (plain_delay x) (plain_others v.items)
or_delay_open x v = ap (λ z. m.or_delay (plain_delay x) z) (others_are v)

pub or_else_open : (x : Statements) → plain_other (otherwise.Else x) ≡ m.or_else (plain_statements x)
or_else_open x = ap (λ z. m.or_else (m.in_order (plain_statement x.first.value) z)) (others_are x.others)

handler_rows : (n : _) (row : Row_of-Handler n) → plain_handlers row ≡ handler_list (items-the_row-Handler n row)
handler_rows n end_of-Handler = refl
handler_rows n (more_of-Handler x _ first shape others row) =
    ap (λ z. m.more_handlers (plain_choices x) (m.in_order (plain_statement first) z) (plain_handlers row)) (statements_shown shape others)
    ∙ ap (λ z. m.more_handlers (plain_choices x) (m.in_order (plain_statement first) (plain_others (shown-the_row-Statement-0 shape others).items)) z) (handler_rows _ row)

handlers_shown : (shape : Vec (Unit {0}) Global) (row : Row_of-Handler (list_count (this {0}) shape.items 0)) → plain_handlers row ≡ handler_list (shown-the_row-Handler-2 shape row).items
handlers_shown shape row = handler_rows _ row ∙ ap handler_list (sym (items_shown-the_row-Handler-2 shape row))

pub body_open : (x : Body) → plain_body x ≡ plain_body_parts x
unfolding out-Body shown-the_row-Statement-0 shown-the_row-Handler-2 denote.Hole.Carrier.out
body_open (Body' begin _ first shape others handler_shape handlers end name semicolon) =
    ap (λ z. m.body begin (m.in_order (plain_statement first) z) (plain_handlers handlers) end name semicolon) (statements_shown shape others)
    ∙ ap (λ z. m.body begin (m.in_order (plain_statement first) (plain_others (shown-the_row-Statement-0 shape others).items)) z end name semicolon) (handlers_shown handler_shape handlers)

declaration_rows : (n : _) (row : Row_of-Declaration n) → plain_declaration_row row ≡ plain_declarations (items-the_row-Declaration n row)
declaration_rows n end_of-Declaration = refl
declaration_rows n (more_of-Declaration x row) = ap (λ z. m.more_declarations (plain_declaration x) z) (declaration_rows _ row)

declarations_shown : (shape : Vec (Unit {0}) Global) (row : Row_of-Declaration (list_count (this {0}) shape.items 0)) → plain_declaration_row row ≡ plain_declarations (shown-the_row-Declaration-1 shape row).items
declarations_shown shape row = declaration_rows _ row ∙ ap plain_declarations (sym (items_shown-the_row-Declaration-1 shape row))

pub block_open : (x : BlockStatement) → plain_block x ≡ plain_block_statement x
unfolding out-BlockStatement shown-the_row-Declaration-1 denote.Hole.Carrier.out
block_open (BlockStatement' label at declare shape declarations x) = ap (λ z. m.block label at declare z (plain_body x)) (declarations_shown shape declarations)

pub procedure_open : (x : ProcedureDeclaration) → plain_procedure x ≡ plain_procedure_parts x
unfolding out-ProcedureDeclaration shown-the_row-Declaration-1 denote.Hole.Carrier.out
procedure_open (ProcedureDeclaration' at i formals shape declarations x) = ap (λ z. m.procedure at i (map plain_formal formals.items) z (plain_body x)) (declarations_shown shape declarations)

pub task_body_open : (x : TaskBody) → plain_task_body x ≡ plain_task_body_parts x
unfolding out-TaskBody shown-the_row-Declaration-1 denote.Hole.Carrier.out
task_body_open (TaskBody' at i shape declarations x) = ap (λ z. m.task_body at i z (plain_body x)) (declarations_shown shape declarations)

pub operation_body_open : (x : OperationBody) → plain_operation_body x ≡ plain_operation_body_parts x
unfolding out-OperationBody shown-the_row-Declaration-1 denote.Hole.Carrier.out
operation_body_open (OperationBody' kind at i formals shape declarations x) = ap (λ z. made_operation_body kind at i (map plain_formal formals.items) z (plain_body x)) (declarations_shown shape declarations)

operation_rows : (n : _) (row : Row_of-OperationBody n) → plain_operation_bodies row ≡ operation_body_list (items-the_row-OperationBody n row)
operation_rows n end_of-OperationBody = refl
operation_rows n (more_of-OperationBody x row) = ap (λ z. m.more_bodies (plain_operation_body x) z) (operation_rows _ row)

operations_shown : (shape : Vec (Unit {0}) Global) (row : Row_of-OperationBody (list_count (this {0}) shape.items 0)) → plain_operation_bodies row ≡ operation_body_list (shown-the_row-OperationBody-4 shape row).items
operations_shown shape row = operation_rows _ row ∙ ap operation_body_list (sym (items_shown-the_row-OperationBody-4 shape row))

pub protected_body_open : (x : ProtectedBody) → plain_protected_body x ≡ plain_protected_body_parts x
unfolding out-ProtectedBody shown-the_row-OperationBody-4 denote.Hole.Carrier.out
protected_body_open (ProtectedBody' at i shape bodies last) = ap (λ z. m.protected_body at i z last) (operations_shown shape bodies)

-- statements with handlers, a block, a procedure, and the bodies of tasks, operations and protected objects as they are made of their parts

pub body_roll : (begin : Pos) (x : Statements) (handlers : Vec Handler Global) (end : Pos) (i : Option Ident) (semicolon : Pos) →
    plain_body (roll-Body (record { begin = begin; statements = x; handlers = handlers; end = end; name = i; semicolon = semicolon })) ≡ m.body begin (plain_statements x) (handler_list handlers.items) end i semicolon
body_roll begin x handlers end i semicolon =
    body_open (roll-Body (record { begin = begin; statements = x; handlers = handlers; end = end; name = i; semicolon = semicolon })) ∙ ap (λ y. m.body y.begin (plain_statements y.statements) (handler_list y.handlers.items) y.end y.name y.semicolon) (out-roll-Body (record { begin = begin; statements = x; handlers = handlers; end = end; name = i; semicolon = semicolon }))

pub block_roll : (label : Option Ident) (at : Pos) (declare : Bool) (ds : Vec Declaration Global) (x : Body) →
    plain_block (roll-BlockStatement (record { label = label; at = at; declare = declare; declarations = ds; body = x })) ≡ m.block label at declare (plain_declarations ds.items) (plain_body x)
block_roll label at declare ds x =
    block_open (roll-BlockStatement (record { label = label; at = at; declare = declare; declarations = ds; body = x })) ∙ ap (λ y. m.block y.label y.at y.declare (plain_declarations y.declarations.items) (plain_body y.body)) (out-roll-BlockStatement (record { label = label; at = at; declare = declare; declarations = ds; body = x }))

pub procedure_roll : (at : Pos) (i : Ident) (formals : Vec Formal Global) (ds : Vec Declaration Global) (x : Body) →
    plain_procedure (roll-ProcedureDeclaration (record { at = at; name = i; formals = formals; declarations = ds; body = x })) ≡ m.procedure at i (map plain_formal formals.items) (plain_declarations ds.items) (plain_body x)
procedure_roll at i formals ds x =
    procedure_open (roll-ProcedureDeclaration (record { at = at; name = i; formals = formals; declarations = ds; body = x }))
    ∙ ap (λ y. m.procedure y.at y.name (map plain_formal y.formals.items) (plain_declarations y.declarations.items) (plain_body y.body)) (out-roll-ProcedureDeclaration (record { at = at; name = i; formals = formals; declarations = ds; body = x }))

pub task_body_roll : (at : Pos) (i : Ident) (ds : Vec Declaration Global) (x : Body) → plain_task_body (roll-TaskBody (record { at = at; name = i; declarations = ds; body = x })) ≡ m.task_body at i (plain_declarations ds.items) (plain_body x)
task_body_roll at i ds x =
    task_body_open (roll-TaskBody (record { at = at; name = i; declarations = ds; body = x })) ∙ ap (λ y. m.task_body y.at y.name (plain_declarations y.declarations.items) (plain_body y.body)) (out-roll-TaskBody (record { at = at; name = i; declarations = ds; body = x }))

pub operation_body_roll : (kind : OperationKind) (at : Pos) (i : Ident) (formals : Vec Formal Global) (ds : Vec Declaration Global) (x : Body) →
    plain_operation_body (roll-OperationBody (record { kind = kind; at = at; name = i; formals = formals; declarations = ds; body = x })) ≡ made_operation_body kind at i (map plain_formal formals.items) (plain_declarations ds.items) (plain_body x)
operation_body_roll kind at i formals ds x =
    operation_body_open (roll-OperationBody (record { kind = kind; at = at; name = i; formals = formals; declarations = ds; body = x }))
    ∙ ap (λ y. made_operation_body y.kind y.at y.name (map plain_formal y.formals.items) (plain_declarations y.declarations.items) (plain_body y.body)) (out-roll-OperationBody (record { kind = kind; at = at; name = i; formals = formals; declarations = ds; body = x }))

pub protected_body_roll : (at : Pos) (i : Ident) (bodies : Vec OperationBody Global) (last : Option Ident) →
    plain_protected_body (roll-ProtectedBody (record { at = at; name = i; bodies = bodies; end_name = last })) ≡ m.protected_body at i (operation_body_list bodies.items) last
protected_body_roll at i bodies last =
    protected_body_open (roll-ProtectedBody (record { at = at; name = i; bodies = bodies; end_name = last })) ∙ ap (λ y. m.protected_body y.at y.name (operation_body_list y.bodies.items) y.end_name) (out-roll-ProtectedBody (record { at = at; name = i; bodies = bodies; end_name = last }))
