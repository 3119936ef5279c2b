-- Trees of declarations and statements in memory, as items of the reading.
use Rattle.std.specs.Prelude.{List, [], ◌∷◌, map, Bool, Option, Some, None, Box, Vec}
use Rattle.std.specs.Global.{Global}
use Rattle.aud_text.specs.declared.place.Pos.{Pos}
use Rattle.aud_syntax.specs.declared.tree.Ident.{Ident}
use Rattle.aud_syntax.specs.declared.tree.Identifiers.{Identifiers}
use Rattle.aud_syntax.specs.declared.tree.Simple.{Simple}
use Rattle.aud_syntax.specs.declared.tree.Expression.{Expression}
use Rattle.aud_syntax.specs.declared.tree.Name.{Name}
use Rattle.aud_syntax.specs.declared.tree.Formal.{Formal}
use Rattle.aud_syntax.specs.declared.tree.EntryDeclaration.{EntryDeclaration}
use Rattle.aud_syntax.specs.declared.tree.TaskDefinition.{TaskDefinition}
use Rattle.aud_syntax.specs.declared.tree.Operation.{Operation}
use Rattle.aud_syntax.specs.declared.tree.PrivateItem.{PrivateItem}
use Rattle.aud_syntax.specs.declared.tree.OperationBody.{OperationBody}
use Rattle.aud_syntax.specs.declared.tree.AcceptStatement.{AcceptStatement}
use Rattle.aud_syntax.specs.declared.tree.Delay.{Delay}
use Rattle.aud_syntax.specs.declared.tree.Alternative.{Alternative}
use Rattle.aud_syntax.specs.declared.tree.Guarded.{Guarded}
use Rattle.aud_syntax.specs.declared.tree.Otherwise.{Otherwise}
use Rattle.aud_syntax.specs.declared.tree.Declaration.{Declaration}
use Rattle.aud_syntax.specs.declared.tree.Statement.{Statement}
use Rattle.aud_syntax.specs.declared.tree.Statements.{Statements}
use Rattle.aud_syntax.specs.declared.tree.Arm.{Arm}
use Rattle.aud_syntax.specs.declared.tree.Iteration.{Iteration}
use Rattle.aud_syntax.specs.declared.tree.Bound.{Bound}
use Rattle.aud_syntax.specs.declared.tree.Handler.{Handler}
use Rattle.aud_syntax.specs.declared.tree.Body.{Body}
use Rattle.aud_syntax.specs.declared.tree.Unit as declared
use Rattle.aud_syntax.specs.Plain as m
use Rattle.aud_syntax.specs.Ties.View.{plain_expression, plain_name, plain_maybe, plain_formal, plain_entry, plain_task_definition, plain_definition, plain_operation, plain_private_item, plain_private, plain_operation_body, plain_declaration, plain_declarations, plain_statement, plain_statements, plain_iteration, plain_choices, plain_body, plain_done, plain_accept, plain_others, plain_delay, plain_alternative, guarded_list, plain_other, plain_unit}
use Rattle.aud_grammar.specs.Actions.{Item, an_ident, a_name, assigned, called, some_names, a_variable, a_constant, a_declaration, a_statement, some_statements, a_body, a_unit, an_arm, an_iteration, a_bound, an_index, an_array, a_formal, a_definition, a_task, a_declare, a_handler, an_entry, an_operation, a_private_item, some_private, a_protected, an_operation_body, a_doing, an_accept, a_delay, an_alternative, further, an_otherwise}
use Rattle.aud_cursor.specs.Ties.Items.{vec_item, opt_item, boxed_item}
use Rattle.aud_parse_expr.specs.Ties.Items.{simple_item, expression_item}
use Rattle.aud_parse.specs.Ties.Parts.{else_statements, unboxed}

abbrev pub assigned_item : Expression → Item
assigned_item x = assigned (plain_expression x)

-- the value that is assigned, none where there is a call
abbrev pub rest_item : Option Expression → Item
rest_item None = called
rest_item (Some e) = assigned_item e

abbrev pub names_item : Identifiers → Item
names_item x = some_names x.first x.others.items

abbrev pub variable_item : Ident × Option Expression → Item
variable_item x = a_variable x.0 (plain_maybe x.1)

abbrev pub constant_item : Ident × Expression → Item
constant_item x = a_constant x.0 (plain_expression x.1)

abbrev pub bound_item : Box Bound Global → Item
bound_item x = a_bound x.value

abbrev pub index_item : Box Bound Global × Box Bound Global → Item
index_item x = an_index x.0.value x.1.value

abbrev pub array_item : (Box Bound Global × Box Bound Global) × Ident → Item
array_item x = an_array x.0.0.value x.0.1.value x.1

abbrev pub formal_item : Formal → Item
formal_item x = a_formal (plain_formal x)

-- a name and the formal parameters behind it
abbrev pub specification_items : Ident × Vec Formal Global → List Item
specification_items x = an_ident x.0 ∷ vec_item formal_item x.1 ∷ []

abbrev pub entry_item : EntryDeclaration → Item
entry_item x = an_entry (plain_entry x)

abbrev pub definition_item : TaskDefinition → Item
definition_item x = a_definition (plain_task_definition x)

-- whether a task type is declared, the name, and the definition, if there is one
abbrev pub task_item : Bool × Ident × Option TaskDefinition → Item
task_item x = a_task x.0 x.1 (plain_definition x.2)

abbrev pub operation_item : Operation → Item
operation_item x = an_operation (plain_operation x)

abbrev pub private_item : PrivateItem → Item
private_item x = a_private_item (plain_private_item x)

-- what stands behind `private`
abbrev pub hidden_item : Vec PrivateItem Global → Item
hidden_item v = some_private (map plain_private_item v.items)

-- the name of a protected object, its operations, what stands behind `private`, if it does, and the name behind `end`
abbrev pub protected_item : ((Ident × Vec Operation Global) × Option (Vec PrivateItem Global)) × Option Ident → Item
protected_item x = a_protected x.0.0.0 (map plain_operation x.0.0.1.items) (plain_private x.0.1) x.1

abbrev pub operation_body_item : OperationBody → Item
operation_body_item x = an_operation_body (plain_operation_body x)

abbrev pub boxed_operation_body_item : Box OperationBody Global → Item
boxed_operation_body_item b = operation_body_item b.value

abbrev pub declaration_item : Declaration → Item
declaration_item x = a_declaration (plain_declaration x)

abbrev pub boxed_declaration_item : Box Declaration Global → Item
boxed_declaration_item b = declaration_item b.value

abbrev pub statement_item : Statement → Item
statement_item x = a_statement (plain_statement x)

abbrev pub statements_item : Statements → Item
statements_item x = some_statements (plain_statements x)

abbrev pub boxed_statement_item : Box Statement Global → Item
boxed_statement_item b = statement_item b.value

abbrev pub boxed_statements_item : Box Statements Global → Item
boxed_statements_item b = statements_item b.value

abbrev pub arm_item : Arm → Item
arm_item x = an_arm x.at (plain_expression x.condition) (plain_statements x.statements)

abbrev pub boxed_arm_item : Box Arm Global → Item
boxed_arm_item b = arm_item b.value

abbrev pub scheme_item : Pos × Box Iteration Global → Item
scheme_item x = an_iteration x.0 (plain_iteration x.1.value)

-- two bounds
abbrev pub range_items : Box Simple Global × Box Simple Global → List Item
range_items x = boxed_item simple_item x.0 ∷ boxed_item simple_item x.1 ∷ []

-- the declarations of a block, and where `declare` stands
abbrev pub declare_item : Pos × Vec Declaration Global → Item
declare_item x = a_declare x.0 (plain_declarations x.1.items)

abbrev pub handler_item : Handler → Item
handler_item x = a_handler (plain_choices x.choices) (plain_statements x.statements)

abbrev pub boxed_handler_item : Box Handler Global → Item
boxed_handler_item b = handler_item b.value

-- a condition and the statements behind it
abbrev pub guarded_items : Box Expression Global × Box Statements Global → List Item
guarded_items x = boxed_item expression_item x.0 ∷ boxed_statements_item x.1 ∷ []

abbrev pub body_item : Body → Item
body_item x = a_body (plain_body x)

abbrev pub boxed_body_item : Box Body Global → Item
boxed_body_item b = body_item b.value

-- what is done in an accept statement, if anything is
abbrev pub doing_item : Option (Box Body Global) → Item
doing_item x = a_doing (plain_done x)

abbrev pub done_item : Box Body Global → Item
done_item b = doing_item (Some b)

abbrev pub boxed_accept_item : Box AcceptStatement Global → Item
boxed_accept_item b = an_accept (plain_accept b.value)

abbrev pub boxed_delay_item : Box Delay Global → Item
boxed_delay_item b = a_delay (plain_delay b.value)

-- the condition of a guard, if there is one
abbrev pub guard_item : Option (Box Expression Global) → Item
guard_item x = opt_item expression_item (unboxed x)

-- a task to be aborted
abbrev pub task_name_item : Name → Item
task_name_item x = a_name (plain_name x)

abbrev pub alternative_item : Alternative → Item
alternative_item x = an_alternative (plain_alternative x)

abbrev pub boxed_alternative_item : Box Alternative Global → Item
boxed_alternative_item b = alternative_item b.value

-- the statements behind `else`, and no alternatives in front of them
abbrev pub else_item : Box Statements Global → Item
else_item b = further m.no_alternatives (plain_others (else_statements (Some b)))

-- the same where there may be none
abbrev pub last_item : Option (Box Statements Global) → Item
last_item x = further m.no_alternatives (plain_others (else_statements x))

-- the alternatives behind one, and the statements behind `else`
abbrev pub further_item : Vec Guarded Global × Option (Box Statements Global) → Item
further_item x = further (guarded_list x.0.items) (plain_others (else_statements x.1))

abbrev pub boxed_otherwise_item : Box Otherwise Global → Item
boxed_otherwise_item b = an_otherwise (plain_other b.value)

abbrev pub unit_item : declared.Unit → Item
unit_item x = a_unit (plain_unit x)
