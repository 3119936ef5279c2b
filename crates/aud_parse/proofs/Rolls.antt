-- The items of declarations and statements that are built from their phrases.
use Rattle.std.proofs.Common.{◌≡◌, Bool, true, false, List, [], ◌∷◌, map, refl, sym, ap, ◌∙◌}
use Rattle.std.specs.Prelude.{Option, Some, None, Vec}
use Rattle.std.specs.Global.{Global}
use Rattle.std.specs.Prelude.{Box}
use Rattle.aud_syntax.specs.declared.tree.Ident.{Ident}
use Rattle.aud_syntax.specs.declared.tree.Simple.{Simple}
use Rattle.aud_syntax.specs.declared.tree.Expression.{Expression}
use Rattle.aud_syntax.specs.declared.tree.Name.{Name, roll-Name}
use Rattle.aud_syntax.specs.declared.tree.NamePart.{NamePart}
use Rattle.aud_syntax.proofs.Opened.{name_roll}
use Rattle.aud_syntax.specs.declared.tree.Identifiers.{Identifiers}
use Rattle.aud_syntax.specs.declared.tree.Mode.{Mode}
use Rattle.aud_syntax.specs.declared.tree.Mode.TheVariants as mode
use Rattle.aud_syntax.specs.declared.tree.Formal.{Formal}
use Rattle.aud_syntax.specs.declared.tree.EntryDeclaration.{EntryDeclaration}
use Rattle.aud_syntax.specs.declared.tree.TaskDefinition.{TaskDefinition}
use Rattle.aud_syntax.specs.declared.tree.Declaration.{Declaration}
use Rattle.aud_syntax.specs.declared.tree.Declaration.TheVariants as declaration
use Rattle.aud_syntax.specs.declared.tree.Statement.{Statement}
use Rattle.aud_syntax.specs.declared.tree.Statements.{Statements}
use Rattle.aud_syntax.specs.declared.tree.Statement.TheVariants as statement
use Rattle.aud_syntax.specs.declared.tree.AcceptStatement.{AcceptStatement}
use Rattle.aud_syntax.specs.declared.tree.Arm.{Arm}
use Rattle.aud_text.specs.declared.place.Pos.{Pos}
use Rattle.aud_syntax.specs.declared.tree.Body.{Body}
use Rattle.aud_syntax.specs.declared.tree.Number.{Number}
use Rattle.aud_syntax.specs.declared.tree.Bound.{Bound}
use Rattle.aud_syntax.specs.declared.tree.Iteration.{Iteration}
use Rattle.aud_syntax.specs.declared.tree.Iteration.TheVariants as iteration
use Rattle.aud_syntax.specs.declared.tree.Choices.{Choices}
use Rattle.aud_syntax.specs.declared.tree.Handler.{Handler}
use Rattle.aud_syntax.specs.declared.tree.Context.{Context}
use Rattle.aud_syntax.specs.Plain as m
use Rattle.aud_syntax.specs.Ties.View.{plain_name, plain_names, plain_simple, plain_expression, plain_maybe, plain_formal, plain_entry, plain_definition, plain_declaration, plain_declarations, plain_others, plain_statements, plain_statement, plain_context, plain_body, plain_done, plain_accept, plain_expressions, arm_list, plain_iteration, plain_choices, handler_list}
use Rattle.aud_grammar.specs.Grammar as g
use Rattle.aud_grammar.specs.Actions.{Item, made, place, an_ident, some_names, some_statements, a_body, a_unit, the_declarations, more_statements, opt_ident, opt_expression, a_statement, the_args, the_parts, a_variable, the_contexts, an_arm, the_arms, otherwise, the_iteration, loop_place, is_there, number_of, a_bound, an_iteration, a_declare, begin_of, the_handlers, the_formals, a_definition, a_task, opt_definition, a_declaration, an_entry, the_entries, an_accept, a_doing, the_body, the_names, top, pop}
use Rattle.aud_cursor.specs.Ties.Items.{list_item, opt_item, boxed_item, mode_item, context_item, choices_item}
use Rattle.aud_parse_expr.specs.Ties.Items.{simple_item, expression_item, args_item, part_item, name_item}
use Rattle.aud_parse.specs.Ties.Items.{names_item, task_name_item, formal_item, entry_item, definition_item, doing_item, done_item, boxed_accept_item, task_item, declaration_item, boxed_declaration_item, statement_item, statements_item, body_item, boxed_body_item, unit_item, rest_item, variable_item, boxed_statement_item, boxed_statements_item, arm_item, boxed_arm_item, scheme_item, bound_item, declare_item, handler_item, boxed_handler_item}
use Rattle.aud_cursor.specs.Ties.Parts.{mark_item}
use Rattle.aud_parse.specs.Ties.Parts.{assigned_or_called, else_statements, iteration_of, begins_at, declared_in, is_declared, declares_at, behind_label}
use Rattle.aud_cursor.proofs.Rolls.{idents_items}
use Rattle.aud_parse_expr.proofs.Rolls.{the_args_are, parts_are}

name_is : (x : Name) (i : Ident) (args : Vec Expression Global) (v : Vec NamePart Global) → x ≡ roll-Name (record { first = record { ident = i; args = args }; others = v }) → m.named (m.part i (the_args (args_item args))) (the_parts (list_item part_item v.items)) ≡ plain_name x
name_is x i args v h =
    ap (λ z. m.named (m.part i z) (the_parts (list_item part_item v.items))) (the_args_are args.items)
    ∙ ap (λ z. m.named (m.part i (plain_expressions args.items)) z) (parts_are v.items)
    ∙ sym (name_roll (record { ident = i; args = args }) v)
    ∙ ap plain_name (sym h)

begun_is : (i : Ident) (x y : Item) (value : Option Expression) (ds : List Item) →
    made g.NameStatement (an_ident i ∷ made g.NamedStatement (x ∷ y ∷ rest_item value ∷ ds)) ≡ a_statement (assigned_or_called (m.named (m.part i (the_args x)) (the_parts y)) value) ∷ ds
begun_is i x y None ds = refl
begun_is i x y (Some e) ds = refl

pub begun_items : (b : Box Statement Global) (x : Name) (i : Ident) (args : Vec Expression Global) (v : Vec NamePart Global) (value : Option Expression) (ds : List Item) →
    plain_statement b.value ≡ assigned_or_called (plain_name x) value → x ≡ roll-Name (record { first = record { ident = i; args = args }; others = v }) →
    made g.NameStatement (an_ident i ∷ made g.NamedStatement (args_item args ∷ list_item part_item v.items ∷ rest_item value ∷ ds)) ≡ boxed_statement_item b ∷ ds
begun_items b x i args v value ds h e =
    begun_is i (args_item args) (list_item part_item v.items) value ds
    ∙ ap (λ z. a_statement (assigned_or_called z value) ∷ ds) (name_is x i args v e)
    ∙ ap (λ z. a_statement z ∷ ds) (sym h)

pub opt_ident_is : (s : Option Ident) → opt_ident (opt_item an_ident s) ≡ s
opt_ident_is None = refl
opt_ident_is (Some x) = refl

pub opt_expression_is : (e : Option Expression) → opt_expression (opt_item expression_item e) ≡ plain_maybe e
opt_expression_is None = refl
opt_expression_is (Some e) = refl

pub names_items : (x : Ident) (v : Vec Ident Global) (ds : List Item) → made g.Identifiers (an_ident x ∷ list_item an_ident v.items ∷ ds) ≡ names_item (record { first = x; others = v }) ∷ ds
names_items x v ds = ap (λ z. some_names x z ∷ ds) (idents_items v.items)

pub variable_items : (i : Ident) (e : Option Expression) (ds : List Item) → made g.Variable (an_ident i ∷ opt_item expression_item e ∷ ds) ≡ variable_item (i, e) ∷ ds
variable_items i e ds = ap (λ z. a_variable i z ∷ ds) (opt_expression_is e)

pub declarations_items : (xs : List Declaration) → the_declarations (list_item declaration_item xs) ≡ plain_declarations xs
declarations_items [] = refl
declarations_items (x ∷ xs) = ap (λ z. m.more_declarations (plain_declaration x) z) (declarations_items xs)

others_items : (xs : List Statement) → more_statements (list_item statement_item xs) ≡ plain_others xs
others_items [] = refl
others_items (x ∷ xs) = ap (λ z. m.more_statements (plain_statement x) z) (others_items xs)

pub statements_items : (x : Box Statement Global) (v : Vec Statement Global) (ds : List Item) → made g.StatementList (boxed_statement_item x ∷ list_item statement_item v.items ∷ ds) ≡ statements_item (record { first = x; others = v }) ∷ ds
statements_items x v ds = ap (λ z. some_statements (m.in_order (plain_statement x.value) z) ∷ ds) (others_items v.items)

-- statements of the parts that were read

pub boxed_items : (b : Box Statement Global) (x : Statement) (ds : List Item) → b.value ≡ x → statement_item x ∷ ds ≡ boxed_statement_item b ∷ ds
boxed_items b x ds h = ap (λ z. statement_item z ∷ ds) (sym h)

pub in_order_items : (b : Box Statements Global) (first : Box Statement Global) (others : Vec Statement Global) (ds : List Item) → b.value ≡ record { first = first; others = others } →
    made g.StatementList (boxed_statement_item first ∷ list_item statement_item others.items ∷ ds) ≡ boxed_statements_item b ∷ ds
in_order_items b first others ds h = statements_items first others ds ∙ ap (λ z. statements_item z ∷ ds) (sym h)

pub arm_items : (b : Box Arm Global) (at : Pos) (first : Item) (e : Box Expression Global) (x : Box Statements Global) (ds : List Item) → b.value ≡ record { at = at; condition = e.value; statements = x.value } → at ≡ place first →
    made g.Elsif (first ∷ boxed_item expression_item e ∷ boxed_statements_item x ∷ ds) ≡ boxed_arm_item b ∷ ds
arm_items b at first e x ds h i = ap (λ z. an_arm z (plain_expression e.value) (plain_statements x.value) ∷ ds) (sym i) ∙ ap (λ z. arm_item z ∷ ds) (sym h)

arms_are : (xs : List Arm) → the_arms (list_item arm_item xs) ≡ arm_list xs
arms_are [] = refl
arms_are (x ∷ xs) = ap (λ z. m.more_arms x.at (plain_expression x.condition) (plain_statements x.statements) z) (arms_are xs)

pub else_is : (x : Option (Box Statements Global)) → otherwise (opt_item boxed_statements_item x) ≡ plain_others (else_statements x)
else_is None = refl
else_is (Some b) = refl

pub if_items : (b : Box Statement Global) (begin : Item) (e : Box Expression Global) (x : Box Statements Global) (arms : Vec Arm Global) (others : Option (Box Statements Global)) (ds : List Item) →
    plain_statement b.value ≡ m.if_then (place begin) (plain_expression e.value) (plain_statements x.value) (arm_list arms.items) (plain_others (else_statements others)) →
    made g.If (begin ∷ boxed_item expression_item e ∷ boxed_statements_item x ∷ list_item arm_item arms.items ∷ opt_item boxed_statements_item others ∷ ds) ≡ boxed_statement_item b ∷ ds
if_items b begin e x arms others ds h =
    ap (λ z. a_statement (m.if_then (place begin) (plain_expression e.value) (plain_statements x.value) z (otherwise (opt_item boxed_statements_item others))) ∷ ds) (arms_are arms.items)
    ∙ ap (λ z. a_statement (m.if_then (place begin) (plain_expression e.value) (plain_statements x.value) (arm_list arms.items) z) ∷ ds) (else_is others)
    ∙ ap (λ z. a_statement z ∷ ds) (sym h)

labelled_is : (label : Option Ident) (at : Pos) (i : m.Iteration) (x : m.Statements) (last : Option Ident) (semicolon : Pos) (ds : List Item) →
    behind_label label (a_statement (m.loop None at i x last semicolon) ∷ ds) ≡ a_statement (m.loop label at i x last semicolon) ∷ ds
labelled_is None at i x last semicolon ds = refl
labelled_is (Some j) at i x last semicolon ds = refl

scheme_is : (scheme : Option (Pos × Box Iteration Global)) (begin : Item) (label last : Option Ident) (x : m.Statements) (semicolon : Pos) →
    m.loop label (loop_place (opt_item scheme_item scheme) begin) (the_iteration (opt_item scheme_item scheme)) x last semicolon ≡ m.loop label (begins_at scheme (place begin)) (iteration_of scheme) x last semicolon
scheme_is None begin label last x semicolon = refl
scheme_is (Some y) begin label last x semicolon = refl

pub loop_items : (b : Box Statement Global) (label : Option Ident) (scheme : Option (Pos × Box Iteration Global)) (begin : Item) (x : Box Statements Global) (last : Option Ident) (semicolon : Item) (ds : List Item) →
    plain_statement b.value ≡ m.loop label (begins_at scheme (place begin)) (iteration_of scheme) (plain_statements x.value) last (place semicolon) →
    behind_label label (made g.Loop (opt_item scheme_item scheme ∷ begin ∷ boxed_statements_item x ∷ opt_item an_ident last ∷ semicolon ∷ ds)) ≡ boxed_statement_item b ∷ ds
loop_items b label scheme begin x last semicolon ds h =
    ap (λ z. behind_label label (a_statement (m.loop None (loop_place (opt_item scheme_item scheme) begin) (the_iteration (opt_item scheme_item scheme)) (plain_statements x.value) z (place semicolon)) ∷ ds)) (opt_ident_is last)
    ∙ labelled_is label (loop_place (opt_item scheme_item scheme) begin) (the_iteration (opt_item scheme_item scheme)) (plain_statements x.value) last (place semicolon) ds
    ∙ ap (λ z. a_statement z ∷ ds) (scheme_is scheme begin label last (plain_statements x.value) (place semicolon))
    ∙ ap (λ z. a_statement z ∷ ds) (sym h)

exit_items : (at : Pos) (label : Option Ident) (e : Option Expression) (ds : List Item) → a_statement (m.exit at (opt_ident (opt_item an_ident label)) (opt_expression (opt_item expression_item e))) ∷ ds ≡ statement_item (statement.Exit at label e) ∷ ds
exit_items at label e ds =
    ap (λ z. a_statement (m.exit at z (opt_expression (opt_item expression_item e))) ∷ ds) (opt_ident_is label)
    ∙ ap (λ z. a_statement (m.exit at label z) ∷ ds) (opt_expression_is e)

pub boxed_exit_items : (b : Box Statement Global) (at : Item) (label : Option Ident) (e : Option Expression) (ds : List Item) → b.value ≡ statement.Exit (place at) label e →
    made g.Exit (at ∷ opt_item an_ident label ∷ opt_item expression_item e ∷ ds) ≡ boxed_statement_item b ∷ ds
boxed_exit_items b at label e ds h = exit_items (place at) label e ds ∙ boxed_items b (statement.Exit (place at) label e) ds h

pub raise_items : (b : Box Statement Global) (at : Item) (i : Option Ident) (ds : List Item) → b.value ≡ statement.Raise (place at) i → made g.Raise (at ∷ opt_item an_ident i ∷ ds) ≡ boxed_statement_item b ∷ ds
raise_items b at i ds h = ap (λ z. a_statement (m.raise (place at) z) ∷ ds) (opt_ident_is i) ∙ boxed_items b (statement.Raise (place at) i) ds h

pub return_items : (b : Box Statement Global) (at : Item) (e : Option Expression) (ds : List Item) → b.value ≡ statement.Return (place at) e → made g.Return (at ∷ opt_item expression_item e ∷ ds) ≡ boxed_statement_item b ∷ ds
return_items b at e ds h = ap (λ z. a_statement (m.return (place at) z) ∷ ds) (opt_expression_is e) ∙ boxed_items b (statement.Return (place at) e) ds h

mark_is : (x : Bool) → is_there (mark_item x) ≡ x
mark_is true = refl
mark_is false = refl

pub bound_items : (b : Box Bound Global) (negative : Bool) (t : Item) (x : Number) (ds : List Item) → b.value ≡ record { negative = negative; number = x } → x ≡ number_of t → made g.Bound (mark_item negative ∷ made g.Number (t ∷ ds)) ≡ bound_item b ∷ ds
bound_items b negative t x ds h i =
    ap (λ (z : Bool). a_bound (record { negative = z; number = number_of t }) ∷ ds) (mark_is negative)
    ∙ ap (λ (z : Number). a_bound (record { negative = negative; number = z }) ∷ ds) (sym i)
    ∙ ap (λ (z : Bound). a_bound z ∷ ds) (sym h)

pub declare_items : (at : Item) (v : Vec Declaration Global) (ds : List Item) → made g.Declare (at ∷ list_item declaration_item v.items ∷ ds) ≡ declare_item (place at, v) ∷ ds
declare_items at v ds = ap (λ z. a_declare (place at) z ∷ ds) (declarations_items v.items)

-- iteration schemes

pub while_items : (b : Box Iteration Global) (at : Item) (e : Box Expression Global) (x : Expression) (ds : List Item) → b.value ≡ iteration.While x → x ≡ e.value → made g.While (at ∷ boxed_item expression_item e ∷ ds) ≡ scheme_item (place at, b) ∷ ds
while_items b at e x ds h i = ap (λ z. an_iteration (place at) (m.while (plain_expression z)) ∷ ds) (sym i) ∙ ap (λ z. an_iteration (place at) (plain_iteration z) ∷ ds) (sym h)

pub for_items : (b : Box Iteration Global) (at : Item) (i : Ident) (reverse : Bool) (low high : Box Simple Global) (x y : Simple) (ds : List Item) → b.value ≡ iteration.For (record { name = i; reverse = reverse; low = x; high = y }) → x ≡ low.value → y ≡ high.value →
    made g.For (at ∷ an_ident i ∷ mark_item reverse ∷ boxed_item simple_item low ∷ boxed_item simple_item high ∷ ds) ≡ scheme_item (place at, b) ∷ ds
for_items b at i reverse low high x y ds h j k =
    ap (λ z. an_iteration (place at) (m.for i z (plain_simple low.value) (plain_simple high.value)) ∷ ds) (mark_is reverse)
    ∙ ap (λ z. an_iteration (place at) (m.for i reverse (plain_simple z) (plain_simple high.value)) ∷ ds) (sym j)
    ∙ ap (λ z. an_iteration (place at) (m.for i reverse (plain_simple x) (plain_simple z)) ∷ ds) (sym k)
    ∙ ap (λ z. an_iteration (place at) (plain_iteration z) ∷ ds) (sym h)

-- handlers

pub handler_items : (b : Box Handler Global) (c : Box Choices Global) (x : Box Statements Global) (ds : List Item) → b.value ≡ record { choices = c.value; statements = x.value } → made g.Handler (choices_item c ∷ boxed_statements_item x ∷ ds) ≡ boxed_handler_item b ∷ ds
handler_items b c x ds h = ap (λ (z : Handler). handler_item z ∷ ds) (sym h)

handlers_are : (xs : List Handler) → the_handlers (list_item handler_item xs) ≡ handler_list xs
handlers_are [] = refl
handlers_are (x ∷ xs) = ap (λ z. m.more_handlers (plain_choices x.choices) (plain_statements x.statements) z) (handlers_are xs)

pub body_items : (b : Box Body Global) (begin end : Item) (x : Box Statements Global) (v : Vec Handler Global) (i : Option Ident) (semicolon : Item) (ds : List Item) →
    plain_body b.value ≡ m.body (place begin) (plain_statements x.value) (handler_list v.items) (place end) i (place semicolon) →
    made g.Body (begin ∷ boxed_statements_item x ∷ list_item handler_item v.items ∷ end ∷ opt_item an_ident i ∷ semicolon ∷ ds) ≡ boxed_body_item b ∷ ds
body_items b begin end x v i semicolon ds h =
    ap (λ z. a_body (m.body (place begin) (plain_statements x.value) z (place end) (opt_ident (opt_item an_ident i)) (place semicolon)) ∷ ds) (handlers_are v.items)
    ∙ ap (λ z. a_body (m.body (place begin) (plain_statements x.value) (handler_list v.items) (place end) z (place semicolon)) ∷ ds) (opt_ident_is i)
    ∙ ap (λ z. a_body z ∷ ds) (sym h)

block_is : (label : Option Ident) (d : Option (Pos × Vec Declaration Global)) (x : Box Body Global) (ds : List Item) →
    behind_label label (made g.Block (opt_item declare_item d ∷ boxed_body_item x ∷ ds)) ≡ a_statement (m.block label (declares_at d (begin_of (plain_body x.value))) (is_declared d) (declared_in d) (plain_body x.value)) ∷ ds
block_is None None x ds = refl
block_is None (Some d) x ds = refl
block_is (Some i) None x ds = refl
block_is (Some i) (Some d) x ds = refl

pub block_items : (b : Box Statement Global) (label : Option Ident) (d : Option (Pos × Vec Declaration Global)) (x : Box Body Global) (ds : List Item) →
    plain_statement b.value ≡ m.block label (declares_at d (begin_of (plain_body x.value))) (is_declared d) (declared_in d) (plain_body x.value) →
    behind_label label (made g.Block (opt_item declare_item d ∷ boxed_body_item x ∷ ds)) ≡ boxed_statement_item b ∷ ds
block_items b label d x ds h = block_is label d x ds ∙ ap (λ z. a_statement z ∷ ds) (sym h)

-- procedures

pub formal_items : (names : Identifiers) (how : Mode) (i : Ident) (ds : List Item) → made g.Formal (names_item names ∷ mode_item how ∷ an_ident i ∷ ds) ≡ formal_item (record { names = names; mode = how; subtype = i }) ∷ ds
formal_items names mode.Unstated i ds = refl
formal_items names (mode.In at) i ds = refl
formal_items names (mode.Out at) i ds = refl
formal_items names (mode.InOut at) i ds = refl

pub formals_are : (xs : List Formal) → the_formals (list_item formal_item xs) ≡ map plain_formal xs
formals_are [] = refl
formals_are (x ∷ xs) = ap (λ z. plain_formal x ∷ z) (formals_are xs)

pub procedure_items : (b : Box Declaration Global) (begin : Item) (p : Ident × Vec Formal Global) (v : Vec Declaration Global) (x : Box Body Global) (ds : List Item) →
    plain_declaration b.value ≡ m.procedure (place begin) p.0 (map plain_formal p.1.items) (plain_declarations v.items) (plain_body x.value) →
    made g.Procedure (begin ∷ an_ident p.0 ∷ list_item formal_item p.1.items ∷ list_item declaration_item v.items ∷ boxed_body_item x ∷ ds) ≡ boxed_declaration_item b ∷ ds
procedure_items b begin p v x ds h =
    ap (λ z. a_declaration (m.procedure (place begin) p.0 z (the_declarations (list_item declaration_item v.items)) (plain_body x.value)) ∷ ds) (formals_are p.1.items)
    ∙ ap (λ z. a_declaration (m.procedure (place begin) p.0 (map plain_formal p.1.items) z (plain_body x.value)) ∷ ds) (declarations_items v.items)
    ∙ ap (λ z. a_declaration z ∷ ds) (sym h)

-- entries and accept statements

-- the item of a body, as what is done in an accept statement
abbrev done_of : List Item → List Item
done_of st = a_doing (m.with_do (the_body (top st))) ∷ pop st

pub entry_items : (i : Ident) (v : Vec Formal Global) (ds : List Item) → made g.EntryDeclaration (an_ident i ∷ list_item formal_item v.items ∷ ds) ≡ entry_item (record { name = i; formals = v }) ∷ ds
entry_items i v ds = ap (λ (z : List m.Formal). an_entry (record { name = i; formals = z }) ∷ ds) (formals_are v.items)

entries_are : (xs : List EntryDeclaration) → the_entries (list_item entry_item xs) ≡ map plain_entry xs
entries_are [] = refl
entries_are (x ∷ xs) = ap (λ z. plain_entry x ∷ z) (entries_are xs)

pub definition_items : (v : Vec EntryDeclaration Global) (i : Option Ident) (ds : List Item) → made g.TaskDefinition (list_item entry_item v.items ∷ opt_item an_ident i ∷ ds) ≡ definition_item (record { entries = v; end_name = i }) ∷ ds
definition_items v i ds =
    ap (λ (z : List m.EntryDeclaration). a_definition (record { entries = z; end_name = opt_ident (opt_item an_ident i) }) ∷ ds) (entries_are v.items)
    ∙ ap (λ (z : Option Ident). a_definition (record { entries = map plain_entry v.items; end_name = z }) ∷ ds) (opt_ident_is i)

-- statements with handlers, as what is done in an accept statement
pub done_as : (st : List Item) (b : Box Body Global) (ds : List Item) → made g.Body st ≡ boxed_body_item b ∷ ds → made g.Do st ≡ done_item b ∷ ds
done_as st b ds h = ap done_of h

pub accept_items : (b : Box AcceptStatement Global) (begin : Item) (p : Ident × Vec Formal Global) (x : Option (Box Body Global)) (ds : List Item) →
    plain_accept b.value ≡ m.accept (place begin) p.0 (map plain_formal p.1.items) (plain_done x) →
    made g.Accept (begin ∷ an_ident p.0 ∷ list_item formal_item p.1.items ∷ doing_item x ∷ ds) ≡ boxed_accept_item b ∷ ds
accept_items b begin p x ds h = ap (λ z. an_accept (m.accept (place begin) p.0 z (plain_done x)) ∷ ds) (formals_are p.1.items) ∙ ap (λ z. an_accept z ∷ ds) (sym h)

-- abort statements

names_are : (xs : List Name) → the_names (list_item task_name_item xs) ≡ plain_names xs
names_are [] = refl
names_are (x ∷ xs) = ap (λ z. m.more_names (plain_name x) z) (names_are xs)

pub abort_items : (b : Box Statement Global) (begin : Item) (first : Box Name Global) (v : Vec Name Global) (ds : List Item) →
    plain_statement b.value ≡ m.abort (place begin) (plain_name first.value) (plain_names v.items) →
    made g.Abort (begin ∷ name_item first ∷ list_item task_name_item v.items ∷ ds) ≡ boxed_statement_item b ∷ ds
abort_items b begin first v ds h =
    ap (λ z. a_statement (m.abort (place begin) (plain_name first.value) z) ∷ ds) (names_are v.items)
    ∙ ap (λ z. a_statement z ∷ ds) (sym h)

-- requeue statements

pub requeue_items : (b : Box Statement Global) (begin : Item) (x : Box Name Global) (with_abort : Bool) (ds : List Item) →
    b.value ≡ statement.Requeue (place begin) x with_abort →
    made g.Requeue (begin ∷ name_item x ∷ mark_item with_abort ∷ ds) ≡ boxed_statement_item b ∷ ds
requeue_items b begin x with_abort ds h =
    ap (λ z. a_statement (m.requeue (place begin) (plain_name x.value) z) ∷ ds) (mark_is with_abort)
    ∙ boxed_items b (statement.Requeue (place begin) x with_abort) ds h

-- tasks

definition_is : (x : Option TaskDefinition) → opt_definition (opt_item definition_item x) ≡ plain_definition x
definition_is None = refl
definition_is (Some x) = refl

pub task_items : (is_type : Bool) (i : Ident) (x : Option TaskDefinition) (ds : List Item) → made g.TaskDeclaration (mark_item is_type ∷ an_ident i ∷ opt_item definition_item x ∷ ds) ≡ task_item (is_type, i, x) ∷ ds
task_items is_type i x ds = ap (λ z. a_task z i (opt_definition (opt_item definition_item x)) ∷ ds) (mark_is is_type) ∙ ap (λ z. a_task is_type i z ∷ ds) (definition_is x)

pub declared_task_items : (b : Box Declaration Global) (begin : Item) (at : Pos) (is_type : Bool) (i : Ident) (x : Option TaskDefinition) (ds : List Item) → b.value ≡ declaration.Task (record { at = at; is_type = is_type; name = i; definition = x }) → at ≡ place begin →
    made g.Task (begin ∷ task_item (is_type, i, x) ∷ ds) ≡ boxed_declaration_item b ∷ ds
declared_task_items b begin at is_type i x ds h e = ap (λ z. a_declaration (m.task z is_type i (plain_definition x)) ∷ ds) (sym e) ∙ ap (λ z. declaration_item z ∷ ds) (sym h)

pub task_body_items : (b : Box Declaration Global) (begin : Item) (i : Ident) (v : Vec Declaration Global) (x : Box Body Global) (ds : List Item) → plain_declaration b.value ≡ m.task_body (place begin) i (plain_declarations v.items) (plain_body x.value) →
    made g.Task (begin ∷ made g.TaskBody (an_ident i ∷ list_item declaration_item v.items ∷ boxed_body_item x ∷ ds)) ≡ boxed_declaration_item b ∷ ds
task_body_items b begin i v x ds h = ap (λ z. a_declaration (m.task_body (place begin) i z (plain_body x.value)) ∷ ds) (declarations_items v.items) ∙ ap (λ z. a_declaration z ∷ ds) (sym h)

contexts_items : (xs : List Context) → the_contexts (list_item context_item xs) ≡ map plain_context xs
contexts_items [] = refl
contexts_items (x ∷ xs) = ap (λ z. plain_context x ∷ z) (contexts_items xs)

pub unit_items : (context : Vec Context Global) (first : Item) (i : Ident) (v : Vec Declaration Global) (b : Body) (ds : List Item) →
    made g.Unit (list_item context_item context.items ∷ first ∷ an_ident i ∷ list_item declaration_item v.items ∷ body_item b ∷ ds) ≡ unit_item (record { context = context; at = place first; name = i; declarations = v; body = b }) ∷ ds
unit_items context first i v b ds = ap (λ z. a_unit (m.unit z (place first) i (the_declarations (list_item declaration_item v.items)) (plain_body b)) ∷ ds) (contexts_items context.items)
    ∙ ap (λ z. a_unit (m.unit (map plain_context context.items) (place first) i z (plain_body b)) ∷ ds) (declarations_items v.items)
