use Rattle.std.proofs.Common.{IfOk, ◌≡◌, ◌+◌, ◌++◌, ◌∷◌, drop, map, sym, ap, subst, ◌∙◌, refl, arith, true, false}
use Rattle.std.proofs.lemmas.List.{drop_all}
use Rattle.std.specs.Prelude.{ℕ, Bool, List, [], Box, Vec, Option, Some, None, Ok, OnOk, is_some}
use Rattle.std.specs.Global.{Global}
use Rattle.aud_syntax.specs.declared.tree.AcceptStatement.{out-AcceptStatement}
use Rattle.aud_syntax.specs.declared.tree.SelectStatement.{out-SelectStatement}
use Rattle.aud_syntax.specs.declared.tree.IfStatement.{out-IfStatement}
use Rattle.aud_syntax.specs.declared.tree.BlockStatement.{out-BlockStatement}
use Rattle.aud_syntax.specs.declared.tree.ProcedureDeclaration.{out-ProcedureDeclaration}
use Rattle.aud_syntax.specs.declared.tree.TaskBody.{out-TaskBody}
use Rattle.aud_syntax.specs.declared.tree.OperationBody.{out-OperationBody}
use Rattle.aud_syntax.specs.declared.tree.ProtectedBody.{out-ProtectedBody}
use Rattle.aud_names.specs.declared.parts.PartKind.{PartKind}
use Rattle.aud_names.specs.declared.awaited.AwaitedPart.{AwaitedPart}
use Rattle.aud_names.specs.declared.names.Access.TheVariants.{Inside, InFunction}
use Rattle.aud_names.specs.Objects.{awaited_parts, object_place}
use Rattle.aud_syntax.specs.declared.tree.Body.{out-Body}
use Rattle.aud_text.specs.declared.place.Pos.{Pos}
use Rattle.aud_syntax.specs.Plain as m
use Rattle.aud_typed.specs.declared.program.Arm as memory
use Rattle.aud_typed.specs.declared.program.Alternative as memory_alternative
use Rattle.aud_typed.specs.declared.program.AcceptStatement as memory_accept
use Rattle.aud_typed.specs.declared.program.BooleanExpression.{BooleanExpression}
use Rattle.aud_typed.specs.declared.program.CallForm as memory_form
use Rattle.aud_typed.specs.declared.program.DelayExpression.{DelayExpression}
use Rattle.aud_typed.specs.Tree as tree
use Rattle.aud_typed.specs.Tree.{CallForm}
use Rattle.aud_syntax.specs.Ties.View.{plain_expression, plain_name, plain_maybe, plain_parameter, plain_declarations, plain_statement, plain_statements, plain_others, arm_list, guarded_list, handler_list, plain_choices, plain_delay, plain_names, plain_abort, plain_done, plain_accept, plain_other, plain_alternative as plain_source_alternative, plain_select_statement, plain_selected_call, plain_if_statement, plain_loop_statement, plain_block_statement, plain_body, plain_formal, plain_declaration, plain_procedure, plain_task_body, plain_protected_body, operation_body_list}
use Rattle.aud_syntax.proofs.Opened.{operation_body_open, protected_body_open, accept_open, select_open, selected_call_open, accept_alternative_open, delay_alternative_open, or_delay_open, or_else_open, if_open, loop_open, block_open, body_open, procedure_open, task_body_open}
use Rattle.aud_syntax.proofs.Written.{dropped}
use Rattle.aud_typed.specs.Ties.View.{plain_statement as plain_typed_statement, plain_statements as plain_typed_statements, plain_body as plain_typed_body, plain_unit as plain_typed_unit, plain_integer, plain_boolean, plain_delay as plain_typed_delay, plain_form, statements_in}
use Rattle.aud_fault.specs.declared.fault.Fault.{Fault}
use Rattle.aud_fault.specs.Least.{noted}
use Rattle.aud_names.specs.Names.{Region, Place, innermost, place_in, next_frame, in_frame, task_place, own_region, task_region, running}
use Rattle.aud_check_bodies.specs.Regions.{shown_names, loop_region, in_loop}
use Rattle.aud_check_bodies.specs.declared.declaration.DeclarativePart.{DeclarativePart}
use Rattle.aud_check_bodies.specs.Declarations.{Declared, checked_objects, checked_arrays, with_procedure}
use Rattle.aud_check_bodies.specs.Objects.{without_object_bodies, without_part_bodies, object_awaited, object_behind, body_object}
use Rattle.aud_check_bodies.specs.Operations.{Head, Shape, BodyPlaces, body_places, shape_of, shape_faults, head_leaves, part_awaited, still_awaited, operation_matched, operation_unit, operation_tables, barrier_faults}
use Rattle.aud_check_bodies.specs.Ties.Objects.{plain_head, plain_shape, both_places, ChecksBodies}
use Rattle.aud_check_bodies.proofs.ObjectBodies.{at_place, operation_opened, operation_unit_left, operation_left_here, stands_in_one, stands_in, places_are, object_left, all_ahead, one_body, all_bodies}
use Rattle.aud_check_bodies.specs.Tasks.{with_bodies, without_bodies, body_unit, body_task, task_awaited, place_behind, with_activation}
use Rattle.aud_check_bodies.specs.Formals.{Formals, body_formals}
use Rattle.aud_check_bodies.specs.Accepts.{TypedAccept, accept_formals, accept_faults, accepted, number_of, with_accepted}
use Rattle.aud_check_bodies.specs.Delays.{delay_at, delay_faults, typed_delay}
use Rattle.aud_check_bodies.specs.Aborts.{abort_faults, typed_abort}
use Rattle.aud_check_bodies.specs.Requeues.{Requeuing, requeue_faults, typed_requeue}
use Rattle.aud_check_bodies.specs.Selects.{TypedAlternative, accepts, delays, terminates, alternatives_of, form_of}
use Rattle.aud_check_bodies.specs.Ties.DeclarativePart.{Declares, DeclaresFormals, Enters}
use Rattle.aud_names.specs.Ties.Regions.{plain_region, plain_regions, plain_place, names_in}
use Rattle.aud_check_bodies.specs.Ties.Tables.{plain_tables}
use Rattle.aud_names.specs.Rules.{right_name_at_end, right_label_at_end, exit_in_loop}
use Rattle.aud_check_bodies.specs.Labels.{Labels}
use Rattle.aud_check_bodies.specs.Ties.Labels.{plain_labels}
use Rattle.aud_typing.specs.Conditions.{condition_faults, condition, maybe_condition_faults, maybe_condition}
use Rattle.aud_check_bodies.specs.Values.{assign_faults, typed_assign}
use Rattle.aud_check_bodies.specs.declared.within.Leaves as left_by
use Rattle.aud_check_bodies.specs.declared.within.Leaves.TheVariants as leaves
use Rattle.aud_names.specs.declared.names.NamedParameter.{NamedParameter}
use Rattle.aud_check_bodies.specs.Calls.{EntryCalled, call_faults, typed_call, entry_call_of, selected_call}
use Rattle.aud_check_bodies.specs.Handlers.{raise_faults, typed_raise, none_chosen, all_choices_faults, is_others, choices_of}
use Rattle.aud_check_bodies.specs.Tables.{Tables, Outcome, fine, and_then, next_region, with_region, region_kept, region_named, next_unit, unit_kept, with_unit}
use Rattle.aud_check_bodies.specs.Statements.{Around, nothing_around, task_around, begin_of, TypedStatements, TypedArm, TypedHandler, TypedBody, begin_at, return_faults, typed_return, end_name, end_semicolon, procedure_place, body_with, labelled, handling, loop_number, arm_then, arms_then, arm_of, handler_of, sequence_of, in_entry, in_accept, checked_accept, checked_alternative, checked_alternatives, checked_otherwise, checked_statement, checked_loop, checked_statements, checked_others, checked_arms, checked_body, checked_handlers, checked_declaration, checked_declarations, checked_bodies, checked_operation, checked_operation_unit, operation_around, leaving_body, body_behind, checked_unit}
use Rattle.aud_check_bodies.specs.Ties.Arms.{plain_arm, plain_arms, plain_handler, plain_handlers, plain_parts, plain_sequence, plain_items, plain_accepted, plain_alternative, plain_alternatives}
use Rattle.aud_check_bodies.specs.declared.entry_call.EntryCalled as memory_call
use Rattle.aud_check_bodies.specs.Ties.Passed.{plain_maybe_called}
use Rattle.aud_check_bodies.specs.Ties.Within.{around_of, around_entering, plain_requeuing, Checks}
use Rattle.aud_typing.specs.Ties.Typing.{in_box, Leaves}
use Rattle.aud_check_bodies.proofs.Walked.{Is, is_fine, is_after, is_then, checks, checks_after, checks_leaf, none_left, one_left, end_left}
use Rattle.aud_check_bodies.proofs.Bodies.{body_left, iterated_left, loop_left, behind_left, entered_left, block_left, unit_left, procedure_left, task_left}
use Rattle.aud_check_bodies.proofs.Rendezvous.{accepting_left, accept_alone_left, accept_doing_left, accept_alternative_left, delay_alternative_left, terminate_left, select_left, selected_call_left, or_else_left, entries_level}
use Rattle.aud_check_bodies.proofs.Declared.{declares_all, declarations_ahead, all_declared, keeps_tables, declares_exceptions}
use Rattle.aud_typing.proofs.Notes.{noted_append, noted_then}
use Rattle.aud_check_bodies.proofs.statement.+statement.Goals as goal

pub arms-loop-next-init : goal.arms-loop-next-init
arms-loop-next-init t c = none_left plain_arm c.in_ok-typed.typed.items c.args.faults.now (checked_arms (arm_list c.args.arms.now) (around_of c.args.within) c.args.within.scope.now (plain_tables c.args.tables.now)) c.in_ok-typed.ensures.items

pub arms-loop-next-preserved : goal.arms-loop-next-preserved
arms-loop-next-preserved t c =
    let around = around_of c.args.within in
    let place = c.args.within.scope.now in
    let x = c.next-item.result in
    let i = c.loop-next.next-index in
    one_left plain_arm c.loop-next.typed.items c.push.new.all.items c.in_ok-arm.field-0.value c.loop-next.faults c.arm.new.faults (plain_tables c.arm.new.tables)
    (arm_of x.at (plain_expression x.condition) place (checked_statements (plain_statements x.statements) around place (plain_tables c.loop-next.tables)))
    (λ u. checked_arms (arm_list (drop (i + 1) c.args.arms.now)) around place u)
    (checked_arms (arm_list (drop i c.args.arms.now)) around place (plain_tables c.loop-next.tables)) c.args.faults.now (checked_arms (arm_list c.args.arms.now) around place (plain_tables c.args.tables.now))
    (ap (λ l. checked_arms (arm_list l) around place (plain_tables c.loop-next.tables)) (dropped c.args.arms.now i x (omega arith) c.next-item.is)) c.loop-next.invariant c.in_ok-push.ensures c.in_ok-arm.ensures

pub arms-returns : goal.arms-returns
arms-returns t c =
    let around = around_of c.args.within in
    let place = c.args.within.scope.now in
    end_left (map plain_arm c.loop-next.typed.items) c.loop-next.faults c.args.faults.now (plain_tables c.loop-next.tables) (checked_arms (arm_list (drop c.loop-next.next-index c.args.arms.now)) around place (plain_tables c.loop-next.tables)) (checked_arms (arm_list c.args.arms.now) around place (plain_tables c.args.tables.now))
    (ap (λ l. checked_arms (arm_list l) around place (plain_tables c.loop-next.tables)) (drop_all c.loop-next.next-index c.args.arms.now c.loop-next-test.false)) c.loop-next.invariant

pub more_statements-loop-next-init : goal.more_statements-loop-next-init
more_statements-loop-next-init t c = none_left plain_typed_statement c.in_ok-typed.typed.items c.args.faults.now (checked_others (plain_others c.args.others.now) (around_of c.args.within) c.args.within.scope.now (plain_tables c.args.tables.now)) c.in_ok-typed.ensures.items

pub more_statements-loop-next-preserved : goal.more_statements-loop-next-preserved
more_statements-loop-next-preserved t c =
    let around = around_of c.args.within in
    let place = c.args.within.scope.now in
    let x = c.next-item.result in
    let i = c.loop-next.next-index in
    one_left plain_typed_statement c.loop-next.typed.items c.push.new.all.items c.in_ok-statement.field-0.value c.loop-next.faults c.statement.new.faults (plain_tables c.statement.new.tables)
    (checked_statement (plain_statement x) around place (plain_tables c.loop-next.tables))
    (λ u. checked_others (plain_others (drop (i + 1) c.args.others.now)) around place u)
    (checked_others (plain_others (drop i c.args.others.now)) around place (plain_tables c.loop-next.tables)) c.args.faults.now (checked_others (plain_others c.args.others.now) around place (plain_tables c.args.tables.now))
    (ap (λ l. checked_others (plain_others l) around place (plain_tables c.loop-next.tables)) (dropped c.args.others.now i x (omega arith) c.next-item.is)) c.loop-next.invariant c.in_ok-push.ensures c.in_ok-statement.ensures

pub more_statements-returns : goal.more_statements-returns
more_statements-returns t c =
    let around = around_of c.args.within in
    let place = c.args.within.scope.now in
    end_left (map plain_typed_statement c.loop-next.typed.items) c.loop-next.faults c.args.faults.now (plain_tables c.loop-next.tables) (checked_others (plain_others (drop c.loop-next.next-index c.args.others.now)) around place (plain_tables c.loop-next.tables)) (checked_others (plain_others c.args.others.now) around place (plain_tables c.args.tables.now))
    (ap (λ l. checked_others (plain_others l) around place (plain_tables c.loop-next.tables)) (drop_all c.loop-next.next-index c.args.others.now c.loop-next-test.false)) c.loop-next.invariant

pub handlers-loop-next-init : goal.handlers-loop-next-init
handlers-loop-next-init t c = none_left plain_handler c.in_ok-typed.typed.items c.args.faults.now (checked_handlers (handler_list c.args.handlers.now) (around_of c.args.within) c.args.within.scope.now (plain_tables c.args.tables.now)) c.in_ok-typed.ensures.items

pub handlers-loop-next-preserved : goal.handlers-loop-next-preserved
handlers-loop-next-preserved t c =
    let around = around_of c.args.within in
    let place = c.args.within.scope.now in
    let x = c.next-item.result in
    let i = c.loop-next.next-index in
    let old = c.loop-next.faults in
    let new = c.statements.new.faults in
    let u = plain_tables c.statements.new.tables in
    let ss = checked_statements (plain_statements x.statements) around place (plain_tables c.loop-next.tables) in
    let one = c.in_ok-handler_of.field-0.value in
    let next : TypedStatements → Tables → Outcome TypedHandler = λ v t1. fine (record { others = is_others (plain_choices x.choices); choices = choices_of (plain_choices x.choices) place; statements = sequence_of v }) t1 in
    let made : Is old new u (plain_handler one) (handler_of (plain_choices x.choices) place ss) =
    is_then old new new u u (plain_sequence c.in_ok-statements.statements.value) (plain_handler one) ss next c.in_ok-statements.ensures (is_fine new u (plain_handler one) (record { others = is_others (plain_choices x.choices); choices = choices_of (plain_choices x.choices) place; statements = statements_in c.in_ok-statements.statements.value }) c.in_ok-handler_of.ensures) in
    one_left plain_handler c.loop-next.typed.items c.push.new.all.items one old new u
    (handler_of (plain_choices x.choices) place ss)
    (λ v. checked_handlers (handler_list (drop (i + 1) c.args.handlers.now)) around place v)
    (checked_handlers (handler_list (drop i c.args.handlers.now)) around place (plain_tables c.loop-next.tables)) c.args.faults.now (checked_handlers (handler_list c.args.handlers.now) around place (plain_tables c.args.tables.now))
    (ap (λ l. checked_handlers (handler_list l) around place (plain_tables c.loop-next.tables)) (dropped c.args.handlers.now i x (omega arith) c.next-item.is)) c.loop-next.invariant c.in_ok-push.ensures made

pub handlers-returns : goal.handlers-returns
handlers-returns t c =
    let around = around_of c.args.within in
    let place = c.args.within.scope.now in
    end_left (map plain_handler c.loop-next.typed.items) c.loop-next.faults c.args.faults.now (plain_tables c.loop-next.tables) (checked_handlers (handler_list (drop c.loop-next.next-index c.args.handlers.now)) around place (plain_tables c.loop-next.tables)) (checked_handlers (handler_list c.args.handlers.now) around place (plain_tables c.args.tables.now))
    (ap (λ l. checked_handlers (handler_list l) around place (plain_tables c.loop-next.tables)) (drop_all c.loop-next.next-index c.args.handlers.now c.loop-next-test.false)) c.loop-next.invariant

pub statement-returns-in-If : goal.statement-returns-in-If
statement-returns-in-If t c =
    let around = around_of c.args.within in
    let place = c.args.within.scope.now in
    let opened : plain_statement c.args.statement.now ≡ plain_if_statement c.deref.result.now = ap plain_statement c.in-If.is ∙ if_open c.in-If.statement.value ∙ ap plain_if_statement (sym c.deref.ensures) in
    subst (λ z. Checks (in_box plain_typed_statement) c.if_statement.result c.args.faults.now c.if_statement.new.faults (plain_tables c.if_statement.new.tables) (checked_statement z around place (plain_tables c.args.tables.now))) (sym opened) c.if_statement.ensures

pub statement-returns-in-Loop : goal.statement-returns-in-Loop
statement-returns-in-Loop t c =
    let around = around_of c.args.within in
    let place = c.args.within.scope.now in
    let opened : plain_statement c.args.statement.now ≡ plain_loop_statement c.deref-in-Loop.result.now = ap plain_statement c.in-Loop.is ∙ loop_open c.in-Loop.statement ∙ ap plain_loop_statement (sym c.deref-in-Loop.ensures) in
    subst (λ z. Checks (in_box plain_typed_statement) c.loop_statement.result c.args.faults.now c.loop_statement.new.faults (plain_tables c.loop_statement.new.tables) (checked_statement z around place (plain_tables c.args.tables.now))) (sym opened) c.loop_statement.ensures

pub statement-returns-in-Block : goal.statement-returns-in-Block
statement-returns-in-Block t c =
    let around = around_of c.args.within in
    let place = c.args.within.scope.now in
    let opened : plain_statement c.args.statement.now ≡ plain_block_statement c.deref-in-Block.result.now = ap plain_statement c.in-Block.is ∙ block_open c.in-Block.statement.value ∙ ap plain_block_statement (sym c.deref-in-Block.ensures) in
    subst (λ z. Checks (in_box plain_typed_statement) c.block_statement.result c.args.faults.now c.block_statement.new.faults (plain_tables c.block_statement.new.tables) (checked_statement z around place (plain_tables c.args.tables.now))) (sym opened) c.block_statement.ensures

pub statement-returns-in-Assign : goal.statement-returns-in-Assign
statement-returns-in-Assign t c =
    let place = c.args.within.scope.now in
    let e = c.in-Assign in
    rw e.is (checks_leaf (in_box plain_typed_statement) c.assignment.result c.args.faults.now c.assignment.new.faults (plain_tables c.args.tables.now) (assign_faults (plain_name e.target) (plain_expression e.value) place (plain_tables c.args.tables.now)) (typed_assign (plain_name e.target) (plain_expression e.value) place (plain_tables c.args.tables.now)) c.assignment.ensures)

pub statement-returns-in-Call : goal.statement-returns-in-Call
statement-returns-in-Call t c =
    let place = c.args.within.scope.now in
    let e = c.in-Call in
    rw e.is (checks_leaf (in_box plain_typed_statement) c.call.result c.args.faults.now c.call.new.faults (plain_tables c.args.tables.now) (call_faults (plain_name e.name) place (plain_tables c.args.tables.now)) (typed_call (plain_name e.name) place (plain_tables c.args.tables.now)) c.call.ensures)

pub statement-returns-in-Return : goal.statement-returns-in-Return
statement-returns-in-Return t c =
    let place = c.args.within.scope.now in
    let e = c.in-Return in
    rw e.is (checks_leaf (in_box plain_typed_statement) c.return_from.result c.args.faults.now c.return_from.new.faults (plain_tables c.args.tables.now) (return_faults e.at (plain_maybe e.value) c.args.within.leaves place) (typed_return e.at (plain_maybe e.value) c.args.within.leaves place) c.return_from.ensures)

pub statement-returns-in-Raise : goal.statement-returns-in-Raise
statement-returns-in-Raise t c =
    let place = c.args.within.scope.now in
    let e = c.in-Raise in
    rw e.is (checks_leaf (in_box plain_typed_statement) c.raise.result c.args.faults.now c.raise.new.faults (plain_tables c.args.tables.now) (raise_faults e.at e.name c.args.within.in_handler place) (typed_raise e.at e.name place) c.raise.ensures)

pub statement-returns-in-Exit : goal.statement-returns-in-Exit
statement-returns-in-Exit t c =
    let place = c.args.within.scope.now in
    let e = c.in-Exit in
    let found = c.exit_loop-found.result in
    let whole = checks_leaf (in_box plain_typed_statement) c.exit.result c.args.faults.now c.exit.new.faults (plain_tables c.args.tables.now) (exit_in_loop (is_some found) e.at ++ maybe_condition_faults (plain_maybe e.condition) place) (tree.exit e.at (loop_number found) (maybe_condition (plain_maybe e.condition) place)) c.exit.ensures in
    rw (e.is, sym c.exit_loop-found.ensures) whole

pub statement-returns-in_ok-typed-in-Accept : goal.statement-returns-in_ok-typed-in-Accept
statement-returns-in_ok-typed-in-Accept t c =
    let around = around_of c.args.within in
    let place = c.args.within.scope.now in
    let tables = plain_tables c.args.tables.now in
    let u = plain_tables c.accept.new.tables in
    let made = plain_accepted c.in_ok-typed-in-Accept.typed.value in
    let x = plain_accept c.deref-in-Accept.result.now in
    let opened : plain_statement c.args.statement.now ≡ m.accepting x = ap plain_statement c.in-Accept.is ∙ ap (λ z. m.accepting (plain_accept z)) (sym c.deref-in-Accept.ensures) in
    subst (λ z. Checks (in_box plain_typed_statement) c.accepted.result c.args.faults.now c.accept.new.faults u (checked_statement z around place tables)) (sym opened)
    (accepting_left c.accepted.result c.args.faults.now c.accept.new.faults tables u x around place made c.in_ok-typed-in-Accept.ensures c.accepted.ensures)

pub statement-returns-in-Delay : goal.statement-returns-in-Delay
statement-returns-in-Delay t c =
    let around = around_of c.args.within in
    let place = c.args.within.scope.now in
    let tables = plain_tables c.args.tables.now in
    let x = plain_delay c.deref-in-Delay.result.now in
    let opened : plain_statement c.args.statement.now ≡ m.delaying x = ap plain_statement c.in-Delay.is ∙ ap (λ z. m.delaying (plain_delay z)) (sym c.deref-in-Delay.ensures) in
    subst (λ z. Checks (in_box plain_typed_statement) c.delay_statement.result c.args.faults.now c.delay_statement.new.faults tables (checked_statement z around place tables)) (sym opened)
    (checks_leaf (in_box plain_typed_statement) c.delay_statement.result c.args.faults.now c.delay_statement.new.faults tables (delay_faults x place) (tree.delay (delay_at x) (typed_delay x place)) c.delay_statement.ensures)

pub statement-returns-in-Select : goal.statement-returns-in-Select
statement-returns-in-Select t c =
    let around = around_of c.args.within in
    let place = c.args.within.scope.now in
    let opened : plain_statement c.args.statement.now ≡ plain_select_statement c.deref-in-Select.result.now = ap plain_statement c.in-Select.is ∙ select_open c.in-Select.node.value ∙ ap plain_select_statement (sym c.deref-in-Select.ensures) in
    subst (λ z. Checks (in_box plain_typed_statement) c.select.result c.args.faults.now c.select.new.faults (plain_tables c.select.new.tables) (checked_statement z around place (plain_tables c.args.tables.now))) (sym opened) c.select.ensures

pub statement-returns-in-SelectCall : goal.statement-returns-in-SelectCall
statement-returns-in-SelectCall t c =
    let around = around_of c.args.within in
    let place = c.args.within.scope.now in
    let opened : plain_statement c.args.statement.now ≡ plain_selected_call c.deref-in-SelectCall.result.now = ap plain_statement c.in-SelectCall.is ∙ selected_call_open c.in-SelectCall.node ∙ ap plain_selected_call (sym c.deref-in-SelectCall.ensures) in
    subst (λ z. Checks (in_box plain_typed_statement) c.selected_call.result c.args.faults.now c.selected_call.new.faults (plain_tables c.selected_call.new.tables) (checked_statement z around place (plain_tables c.args.tables.now))) (sym opened) c.selected_call.ensures

pub statement-returns-in-Abort : goal.statement-returns-in-Abort
statement-returns-in-Abort t c =
    let around = around_of c.args.within in
    let place = c.args.within.scope.now in
    let tables = plain_tables c.args.tables.now in
    let x = c.deref-in-Abort.result.now in
    let opened : plain_statement c.args.statement.now ≡ plain_abort x = ap plain_statement c.in-Abort.is ∙ ap plain_abort (sym c.deref-in-Abort.ensures) in
    subst (λ z. Checks (in_box plain_typed_statement) c.abort.result c.args.faults.now c.abort.new.faults tables (checked_statement z around place tables)) (sym opened)
    (checks_leaf (in_box plain_typed_statement) c.abort.result c.args.faults.now c.abort.new.faults tables (abort_faults (plain_name x.first) (plain_names x.others.items) place) (typed_abort x.at (plain_name x.first) (plain_names x.others.items) place) c.abort.ensures)

pub statement-returns-in-Requeue : goal.statement-returns-in-Requeue
statement-returns-in-Requeue t c =
    let around = around_of c.args.within in
    let place = c.args.within.scope.now in
    let tables = plain_tables c.args.tables.now in
    let e = c.in-Requeue in
    let x = plain_name c.deref-in-Requeue.result.now in
    let opened : plain_statement c.args.statement.now ≡ m.requeue e.at x e.with_abort = ap plain_statement e.is ∙ ap (λ z. m.requeue e.at (plain_name z) e.with_abort) (sym c.deref-in-Requeue.ensures) in
    subst (λ z. Checks (in_box plain_typed_statement) c.requeue.result c.args.faults.now c.requeue.new.faults tables (checked_statement z around place tables)) (sym opened)
    (checks_leaf (in_box plain_typed_statement) c.requeue.result c.args.faults.now c.requeue.new.faults tables (requeue_faults e.at x around.requeuing place tables) (typed_requeue e.at x e.with_abort place tables) c.requeue.ensures)

-- accepts

pub accept-returns-in_default : goal.accept-returns-in_default
accept-returns-in_default t c =
    let x = out-AcceptStatement c.args.node.now in
    let around = around_of c.args.within in
    let place = c.args.within.scope.now in
    let tables = plain_tables c.args.tables.now in
    let fs = map plain_formal x.formals.items in
    let h = c.in_ok-head.ensures in
    let old = c.args.faults.now in
    let new = c.accept_head.new.faults in
    let made : ℕ → TypedAccept = λ n. record { at = x.at; entry = n; doing = tree.without_do } in
    let same : made c.number_of-entry.result ≡ made (number_of (accepted x.name place)) = ap made (c.number_of-entry.ensures ∙ ap number_of h.entry) in
    let noted_head : new ≡ noted old (accept_faults x.name fs around.accepting place tables) =
    subst (λ l. new ≡ noted old (accept_faults x.name (map plain_formal l) around.accepting place tables)) c.deref.ensures.value h.noted in
    let opened : plain_accept c.args.node.now ≡ m.accept x.at x.name fs m.without_do = accept_open c.args.node.now ∙ ap (λ d. m.accept x.at x.name fs (plain_done d)) c.in_default.is in
    subst (λ z. Checks (in_box plain_accepted) c.accept_of.result old new tables (checked_accept z around place tables)) (sym opened)
    (accept_alone_left c.accept_of.result old new tables x.at x.name fs around place (made c.number_of-entry.result) noted_head same c.accept_of.ensures)

pub accept-returns : goal.accept-returns
accept-returns t c =
    let x = out-AcceptStatement c.args.node.now in
    let around = around_of c.args.within in
    let place = c.args.within.scope.now in
    let tables = plain_tables c.args.tables.now in
    let fs = map plain_formal x.formals.items in
    let h = c.in_ok-head.ensures in
    let e = accepted x.name place in
    let old = c.args.faults.now in
    let headed = c.accept_head.new.faults in
    let stated = c.body-parts.new.faults in
    let new = c.right_name_at_end.new.faults in
    let entry = plain_tables c.enter.new.self in
    let u = plain_tables c.body-parts.new.tables in
    let outer = c.in_ok-outer.outer in
    let own = c.in_ok-head.head.region in
    let region : Region = (accept_formals fs place).region in
    let source = plain_body c.in-Some.source.value in
    let parts = plain_parts c.in_ok-parts.parts in
    let profile : List NamedParameter = (accept_formals fs place).profile in
    let given : List ℕ → List NamedParameter → Around = λ l ps. record { labels = []; in_handler = c.args.within.in_handler; leaves = leaves.Procedure; accepting = l; requeuing = Some (record { profile = ps; object = None }) } in
    let inner_around : Around = given c.deref-3.result.now c.deref-4.result.now in
    let inner_place : Place = c.new-among.result in
    let same_region : plain_region own ≡ region = h.region ∙ ap (λ l. (accept_formals (map plain_formal l) place).region) c.deref.ensures.value in
    let noted_head : headed ≡ noted old (accept_faults x.name fs around.accepting place tables) =
    subst (λ l. headed ≡ noted old (accept_faults x.name (map plain_formal l) around.accepting place tables)) c.deref.ensures.value h.noted in
    let within : inner_around ≡ in_accept e profile around =
    ap (λ l. given l c.deref-4.result.now) (c.deref-3.ensures.value ∙ c.in_ok-accepting.ensures ∙ ap (λ z. with_accepted z around.accepting) h.entry)
    ∙ ap (given (with_accepted e around.accepting)) (c.deref-4.ensures.value ∙ h.profile ∙ ap (λ l. (accept_formals (map plain_formal l) place).profile) c.deref.ensures.value) in
    let inner : inner_place ≡ place_in region place.regions =
    c.new-among.ensures ∙ ap (λ rs. plain_place own rs) c.deref-2.ensures.value ∙ ap (λ r. place_in r (plain_regions outer.items)) same_region ∙ ap (place_in region) c.in_ok-outer.ensures in
    let entered : entry ≡ with_region (shown_names region.symbols) tables =
    c.in_ok-region.ensures.tables ∙ ap (λ (r : Region). with_region (shown_names r.symbols) tables) same_region in
    let ends : new ≡ noted stated (right_name_at_end x.name.name (end_name source)) =
    c.right_name_at_end.ensures ∙ ap (λ b. noted stated (right_name_at_end x.name.name (out-Body b).name)) c.deref-6.ensures
    ∙ ap (λ z. noted stated (right_name_at_end x.name.name (end_name z))) (sym (body_open c.in-Some.source.value)) in
    let made : ℕ → ℕ → TypedAccept = λ n k. record { at = x.at; entry = n; doing = tree.with_do k (body_with [] source parts) } in
    let same : made c.number_of-entry.result c.in_ok-region.region ≡ made (number_of e) (next_region tables) =
    ap (λ n. made n c.in_ok-region.region) (c.number_of-entry.ensures ∙ ap number_of h.entry) ∙ ap (made (number_of e)) c.in_ok-region.ensures.number in
    let done : plain_done x.doing ≡ m.with_do source = ap plain_done c.in-Some.is in
    let in_body : Is headed stated u parts (checked_body source inner_around inner_place entry) =
    subst (λ z. Is headed stated u parts (checked_body (plain_body z) inner_around inner_place entry)) c.deref-5.ensures
    (subst (λ r. Checks plain_parts r headed stated u (checked_body (plain_body c.deref-5.result.now) inner_around inner_place entry)) c.in_ok-parts.was c.body-parts.ensures) in
    let all_made : IfOk c.accept_doing.result (λ a. plain_accepted a.value ≡ made c.number_of-entry.result c.in_ok-region.region) =
    subst (λ z. IfOk c.accept_doing.result (λ a. plain_accepted a.value ≡ record { at = x.at; entry = c.number_of-entry.result; doing = tree.with_do c.in_ok-region.region (body_with [] (plain_body z) parts) })) c.deref-7.ensures c.accept_doing.ensures in
    let opened : plain_accept c.args.node.now ≡ m.accept x.at x.name fs (m.with_do source) = accept_open c.args.node.now ∙ ap (m.accept x.at x.name fs) done in
    subst (λ z. Checks (in_box plain_accepted) c.accept_doing.result old new u (checked_accept z around place tables)) (sym opened)
    (accept_doing_left c.accept_doing.result old headed stated new tables entry u x.at x.name fs source around inner_around place inner_place parts (made c.number_of-entry.result c.in_ok-region.region)
    noted_head within inner entered in_body ends same all_made)

-- selective accepts

pub select-returns : goal.select-returns
select-returns t c =
    let x = out-SelectStatement c.args.node.now in
    let around = around_of c.args.within in
    let place = c.args.within.scope.now in
    let tables = plain_tables c.args.tables.now in
    let f1 = c.alternative.new.faults in
    let t1 = plain_tables c.alternative.new.tables in
    let f2 = c.alternatives.new.faults in
    let t2 = plain_tables c.alternatives.new.tables in
    let f3 = c.more_statements-otherwise.new.faults in
    let t3 = plain_tables c.more_statements-otherwise.new.tables in
    let first : TypedAlternative = plain_alternative c.in_ok-first.first.value in
    let o2 = checked_alternatives (guarded_list x.others.items) around place t1 in
    let o3 = checked_others (plain_others x.otherwise.items) around place t2 in
    let more : Checks plain_alternatives (Ok c.in_ok-offered.offered.1) f1 f2 t2 o2 =
    subst (λ r. Checks plain_alternatives r f1 f2 t2 o2) c.in_ok-offered.ensures.next (subst (λ l. Checks plain_alternatives c.alternatives.result f1 f2 t2 (checked_alternatives (guarded_list l) around place t1)) c.deref.ensures.value c.alternatives.ensures) in
    let rest : Checks plain_items (Ok c.in_ok-offered-2.otherwise) f2 f3 t3 o3 =
    subst (λ r. Checks plain_items r f2 f3 t3 o3) c.in_ok-offered-2.ensures.next (subst (λ l. Checks plain_items c.more_statements-otherwise.result f2 f3 t3 (checked_others (plain_others l) around place t2)) c.deref-2.ensures.value c.more_statements-otherwise.ensures) in
    let behind : tree.Part = tree.part_of (plain_items c.in_ok-offered-2.otherwise) in
    let made : (a : Box memory_alternative.Alternative Global × Vec memory_alternative.Alternative Global) → tree.Statement = λ a. tree.select x.at (alternatives_of (plain_alternative a.0.value ∷ plain_alternatives a.1)) behind in
    let same : made c.in_ok-offered-2.offered ≡ tree.select x.at (alternatives_of (first ∷ plain_alternatives c.in_ok-offered.offered.1)) behind =
    ap made c.in_ok-offered-2.ensures.first ∙ ap (λ a. tree.select x.at (alternatives_of (plain_alternative a.value ∷ plain_alternatives c.in_ok-offered.offered.1)) behind) c.in_ok-offered.ensures.first in
    select_left c.select_of.result c.args.faults.now f1 f2 f3 tables t1 t2 t3 x.at (plain_maybe x.first.guard) (plain_source_alternative x.first.alternative) (guarded_list x.others.items) (plain_others x.otherwise.items) around place
    first (plain_alternatives c.in_ok-offered.offered.1) (plain_items c.in_ok-offered-2.otherwise) (made c.in_ok-offered-2.offered)
    c.in_ok-first.ensures more rest same c.select_of.ensures

-- an alternative

pub alternative-returns-in_ok-head-in-Accept-2 : goal.alternative-returns-in_ok-head-in-Accept-2
alternative-returns-in_ok-head-in-Accept-2 t c =
    let x = c.args.node.now in
    let around = around_of c.args.within in
    let place = c.args.within.scope.now in
    let tables = plain_tables c.args.tables.now in
    let old = c.args.faults.now in
    let guarded = c.maybe_condition.new.faults in
    let headed = c.accept.new.faults in
    let new = c.more_statements-after.new.faults in
    let v = plain_tables c.accept.new.tables in
    let u = plain_tables c.more_statements-after.new.tables in
    let guard = plain_maybe x.guard in
    let one = c.in_ok-head-in-Accept in
    let two = c.in_ok-head-in-Accept-2 in
    let source = plain_accept c.in-Accept.source in
    let ss = plain_others c.in-Accept.behind.items in
    let made : TypedAccept = plain_accepted one.head.1.value in
    let first : Checks (in_box plain_accepted) (Ok one.head.1) guarded headed v (checked_accept source around place tables) =
    subst (λ r. Checks (in_box plain_accepted) r guarded headed v (checked_accept source around place tables)) one.ensures.next c.accept.ensures in
    let rest : Checks plain_items (Ok two.after) headed new u (checked_others ss around place v) =
    subst (λ r. Checks plain_items r headed new u (checked_others ss around place v)) two.ensures.next
    (subst (λ l. Checks plain_items c.more_statements-after.result headed new u (checked_others (plain_others l) around place v)) c.deref.ensures.value c.more_statements-after.ensures) in
    let behind : tree.Part = tree.part_of (plain_items two.after) in
    let y : (h : Box BooleanExpression Global × Box memory_accept.AcceptStatement Global) → TypedAlternative = λ h. accepts (plain_boolean h.0.value) (plain_accepted h.1.value) behind in
    let same : y two.head ≡ accepts (maybe_condition guard place) made behind =
    ap y two.ensures.first ∙ ap (λ g. accepts (plain_boolean g.value) made behind) one.ensures.first ∙ ap (λ g. accepts g made behind) c.in_ok-guard.ensures.1 in
    let opened : plain_source_alternative x.alternative ≡ m.accept_alternative source ss = ap plain_source_alternative c.in-Accept.is ∙ accept_alternative_open c.in-Accept.source c.in-Accept.behind in
    subst (λ z. Checks (in_box plain_alternative) c.accepting.result old new u (checked_alternative z guard around place tables)) (sym opened)
    (accept_alternative_left c.accepting.result old guarded headed new tables v u guard source ss around place made (plain_items two.after) (y two.head) c.in_ok-guard.ensures.0 first rest same c.accepting.ensures)

pub alternative-returns-in_ok-head-in-Delay-2 : goal.alternative-returns-in_ok-head-in-Delay-2
alternative-returns-in_ok-head-in-Delay-2 t c =
    let x = c.args.node.now in
    let around = around_of c.args.within in
    let place = c.args.within.scope.now in
    let tables = plain_tables c.args.tables.now in
    let old = c.args.faults.now in
    let guarded = c.maybe_condition.new.faults in
    let waited = c.delay.new.faults in
    let new = c.more_statements-after-in-Delay.new.faults in
    let u = plain_tables c.more_statements-after-in-Delay.new.tables in
    let guard = plain_maybe x.guard in
    let one = c.in_ok-head-in-Delay in
    let two = c.in_ok-head-in-Delay-2 in
    let source = plain_delay c.in-Delay.source in
    let ss = plain_others c.in-Delay.behind.items in
    let first : Leaves (in_box plain_typed_delay) (Ok one.head.1) guarded waited (delay_faults source place) (typed_delay source place) =
    subst (λ r. Leaves (in_box plain_typed_delay) r guarded waited (delay_faults source place) (typed_delay source place)) one.ensures.next c.delay.ensures in
    let rest : Checks plain_items (Ok two.after) waited new u (checked_others ss around place tables) =
    subst (λ r. Checks plain_items r waited new u (checked_others ss around place tables)) two.ensures.next
    (subst (λ l. Checks plain_items c.more_statements-after-in-Delay.result waited new u (checked_others (plain_others l) around place tables)) c.deref-in-Delay.ensures.value c.more_statements-after-in-Delay.ensures) in
    let behind : tree.Part = tree.part_of (plain_items two.after) in
    let y : (h : Box BooleanExpression Global × Box DelayExpression Global) → TypedAlternative = λ h. delays (plain_boolean h.0.value) (plain_typed_delay h.1.value) behind in
    let same : y two.head ≡ delays (maybe_condition guard place) (typed_delay source place) behind =
    ap y two.ensures.first ∙ ap (λ g. delays (plain_boolean g.value) (plain_typed_delay one.head.1.value) behind) one.ensures.first ∙ ap (λ g. delays g (plain_typed_delay one.head.1.value) behind) c.in_ok-guard.ensures.1 ∙ ap (λ d. delays (maybe_condition guard place) d behind) first.1 in
    let opened : plain_source_alternative x.alternative ≡ m.delay_alternative source ss = ap plain_source_alternative c.in-Delay.is ∙ delay_alternative_open c.in-Delay.source c.in-Delay.behind in
    subst (λ z. Checks (in_box plain_alternative) c.delaying.result old new u (checked_alternative z guard around place tables)) (sym opened)
    (delay_alternative_left c.delaying.result old guarded waited new tables u guard source ss around place (plain_items two.after) (y two.head) c.in_ok-guard.ensures.0 first.0 rest same c.delaying.ensures)

pub alternative-returns-in-Terminate : goal.alternative-returns-in-Terminate
alternative-returns-in-Terminate t c =
    let x = c.args.node.now in
    let guard = plain_maybe x.guard in
    let place = c.args.within.scope.now in
    rw c.in-Terminate.is (terminate_left c.terminating.result c.args.faults.now c.maybe_condition.new.faults (plain_tables c.args.tables.now) guard (around_of c.args.within) place (terminates (plain_boolean c.in_ok-guard.guard.value))
    c.in_ok-guard.ensures.0 (ap terminates c.in_ok-guard.ensures.1) c.terminating.ensures)

-- timed and conditional calls

pub selected_call-returns : goal.selected_call-returns
selected_call-returns t c =
    let x = c.args.node.now in
    let around = around_of c.args.within in
    let place = c.args.within.scope.now in
    let tables = plain_tables c.args.tables.now in
    let old = c.args.faults.now in
    let headed = c.call_head.new.faults in
    let done = c.more_statements-behind.new.faults in
    let new = c.otherwise-rest.new.faults in
    let v = plain_tables c.more_statements-behind.new.tables in
    let u = plain_tables c.otherwise-rest.new.tables in
    let call = plain_name x.call in
    let ss = plain_others x.behind.items in
    let waiting = plain_other x.otherwise in
    let one = c.in_ok-head-2 in
    let last = c.in_ok-form in
    let first : Checks plain_items (Ok one.behind) headed done v (checked_others ss around place tables) =
    subst (λ r. Checks plain_items r headed done v (checked_others ss around place tables)) one.ensures.next
    (subst (λ l. Checks plain_items c.more_statements-behind.result headed done v (checked_others (plain_others l) around place tables)) c.deref.ensures.value c.more_statements-behind.ensures) in
    let both_parts : c.both-2.result ≡ Ok last.parts = last.ensures.next in
    let kept : last.parts.0 ≡ one.behind = subst (λ r. IfOk r (λ p. p.0 ≡ one.behind)) both_parts c.both-2.ensures.first in
    let instead : c.otherwise-rest.result ≡ Ok last.parts.1 = subst (λ r. IfOk r (λ p. c.otherwise-rest.result ≡ Ok p.1)) both_parts c.both-2.ensures.next in
    let rest : Checks plain_items (Ok last.parts.1) done new u (checked_otherwise waiting around place v) =
    subst (λ r. Checks plain_items r done new u (checked_otherwise waiting around place v)) instead c.otherwise-rest.ensures in
    let made : CallForm → Option EntryCalled → List tree.Statement → tree.Statement = λ form called l. entry_call_of x.at form (tree.part_of l) (tree.part_of (plain_items last.parts.1)) called in
    let heads : Box memory_form.CallForm Global × Option memory_call.EntryCalled → tree.Statement = λ h. made (plain_form h.0.value) (plain_maybe_called h.1) (plain_items last.parts.0) in
    let y = made (plain_form c.into_inner-form.result) (plain_maybe_called last.called) (plain_items last.parts.0) in
    let same : y ≡ made (form_of waiting place) (selected_call call place tables) (plain_items one.behind) =
    ap (λ f. made (plain_form f) (plain_maybe_called last.called) (plain_items last.parts.0)) c.into_inner-form.ensures
    ∙ ap heads last.ensures.first ∙ ap heads one.ensures.first
    ∙ ap (λ (h : CallForm × Option EntryCalled). made h.0 h.1 (plain_items last.parts.0)) c.in_ok-head.ensures.1
    ∙ ap (λ b. made (form_of waiting place) (selected_call call place tables) (plain_items b)) kept in
    selected_call_left c.entry_call_of.result old headed done new tables v u x.at call ss waiting around place (plain_items one.behind) (plain_items last.parts.1) y
    c.in_ok-head.ensures.0 first rest same c.entry_call_of.ensures

pub otherwise-returns-in-Delay : goal.otherwise-returns-in-Delay
otherwise-returns-in-Delay t c =
    let around = around_of c.args.within in
    let place = c.args.within.scope.now in
    let tables = plain_tables c.args.tables.now in
    let e = c.in-Delay in
    let opened : plain_other c.args.node.now ≡ m.or_delay (plain_delay e.field-0) (plain_others e.behind.items) = ap plain_other e.is ∙ or_delay_open e.field-0 e.behind in
    let r = c.more_statements.result in
    let u = plain_tables c.more_statements.new.tables in
    subst (λ z. Checks plain_items r c.args.faults.now c.more_statements.new.faults u (checked_otherwise z around place tables)) (sym opened)
    (subst (λ l. Checks plain_items r c.args.faults.now c.more_statements.new.faults u (checked_others (plain_others l) around place tables)) c.deref.ensures.value c.more_statements.ensures)

pub otherwise-returns-in_ok-statements-in-Else : goal.otherwise-returns-in_ok-statements-in-Else
otherwise-returns-in_ok-statements-in-Else t c =
    let around = around_of c.args.within in
    let place = c.args.within.scope.now in
    let tables = plain_tables c.args.tables.now in
    let e = c.in-Else in
    let old = c.args.faults.now in
    let new = c.statements.new.faults in
    let u = plain_tables c.statements.new.tables in
    let ss = plain_statements e.inner in
    let typed : TypedStatements = plain_sequence c.in_ok-statements-in-Else.field-0.value in
    let opened : plain_other c.args.node.now ≡ m.or_else ss = ap plain_other e.is ∙ or_else_open e.inner in
    subst (λ z. Checks plain_items c.in_row.result old new u (checked_otherwise z around place tables)) (sym opened)
    (checks plain_items c.in_row.result old new u (typed.first ∷ typed.others) (checked_otherwise (m.or_else ss) around place tables) (or_else_left old new tables u ss around place typed c.in_ok-statements-in-Else.ensures) c.in_row.ensures)

-- alternatives behind the first

pub alternatives-loop-next-init : goal.alternatives-loop-next-init
alternatives-loop-next-init t c = none_left plain_alternative c.in_ok-typed.typed.items c.args.faults.now (checked_alternatives (guarded_list c.args.others.now) (around_of c.args.within) c.args.within.scope.now (plain_tables c.args.tables.now)) c.in_ok-typed.ensures.items

pub alternatives-loop-next-preserved : goal.alternatives-loop-next-preserved
alternatives-loop-next-preserved t c =
    let around = around_of c.args.within in
    let place = c.args.within.scope.now in
    let x = c.next-item.result in
    let i = c.loop-next.next-index in
    one_left plain_alternative c.loop-next.typed.items c.push.new.all.items c.in_ok-alternative.field-0.value c.loop-next.faults c.alternative.new.faults (plain_tables c.alternative.new.tables)
    (checked_alternative (plain_source_alternative x.alternative) (plain_maybe x.guard) around place (plain_tables c.loop-next.tables))
    (λ u. checked_alternatives (guarded_list (drop (i + 1) c.args.others.now)) around place u)
    (checked_alternatives (guarded_list (drop i c.args.others.now)) around place (plain_tables c.loop-next.tables)) c.args.faults.now (checked_alternatives (guarded_list c.args.others.now) around place (plain_tables c.args.tables.now))
    (ap (λ l. checked_alternatives (guarded_list l) around place (plain_tables c.loop-next.tables)) (dropped c.args.others.now i x (omega arith) c.next-item.is)) c.loop-next.invariant c.in_ok-push.ensures c.in_ok-alternative.ensures

pub alternatives-returns : goal.alternatives-returns
alternatives-returns t c =
    let around = around_of c.args.within in
    let place = c.args.within.scope.now in
    end_left (map plain_alternative c.loop-next.typed.items) c.loop-next.faults c.args.faults.now (plain_tables c.loop-next.tables) (checked_alternatives (guarded_list (drop c.loop-next.next-index c.args.others.now)) around place (plain_tables c.loop-next.tables)) (checked_alternatives (guarded_list c.args.others.now) around place (plain_tables c.args.tables.now))
    (ap (λ l. checked_alternatives (guarded_list l) around place (plain_tables c.loop-next.tables)) (drop_all c.loop-next.next-index c.args.others.now c.loop-next-test.false)) c.loop-next.invariant

pub arm-returns : goal.arm-returns
arm-returns t c =
    let around = around_of c.args.within in
    let place = c.args.within.scope.now in
    let x = c.args.arm.now in
    let old = c.args.faults.now in
    let mid = c.condition.new.faults in
    let new = c.statements-statements.new.faults in
    let u = plain_tables c.statements-statements.new.tables in
    let b = c.in_ok-condition-2 in
    let ss = checked_statements (plain_statements x.statements) around place (plain_tables c.args.tables.now) in
    let y : TypedArm = record { at = x.at; condition = plain_boolean b.condition.value; statements = statements_in b.statements.value } in
    let z : TypedArm = record { at = x.at; condition = condition (plain_expression x.condition) place; statements = sequence_of (plain_sequence b.statements.value) } in
    let same : y ≡ z = ap (λ v. record { at = x.at; condition = v; statements = statements_in b.statements.value }) (ap (λ v. plain_boolean v.value) b.ensures.first ∙ c.in_ok-condition.ensures.1) in
    let stated : Checks (in_box plain_sequence) (Ok b.statements) mid new u ss = subst (λ r. Checks (in_box plain_sequence) r mid new u ss) b.ensures.next c.statements-statements.ensures in
    let next : TypedStatements → Tables → Outcome TypedArm = λ v t1. fine (record { at = x.at; condition = condition (plain_expression x.condition) place; statements = sequence_of v }) t1 in
    checks (in_box plain_arm) c.arm_of.result old new u y (arm_of x.at (plain_expression x.condition) place ss)
    (is_after old mid new u y (condition_faults (plain_expression x.condition) place) (and_then ss next) c.in_ok-condition.ensures.0 (is_then mid new new u u (plain_sequence b.statements.value) y ss next stated (is_fine new u y z same))) c.arm_of.ensures

pub statements-returns : goal.statements-returns
statements-returns t c =
    let around = around_of c.args.within in
    let place = c.args.within.scope.now in
    let x = c.args.statements.now in
    let old = c.args.faults.now in
    let mid = c.statement.new.faults in
    let new = c.more_statements-others.new.faults in
    let t1 = plain_tables c.statement.new.tables in
    let u = plain_tables c.more_statements-others.new.tables in
    let b = c.in_ok-first-2 in
    let s = checked_statement (plain_statement x.first.value) around place (plain_tables c.args.tables.now) in
    let ss = checked_others (plain_others x.others.items) around place t1 in
    let y : TypedStatements = record { first = plain_typed_statement b.first.value; others = plain_items b.others } in
    let z : TypedStatements = record { first = plain_typed_statement c.in_ok-first.first.value; others = plain_items b.others } in
    let same : y ≡ z = ap (λ v. record { first = plain_typed_statement v.value; others = plain_items b.others }) b.ensures.first in
    let behind : List tree.Statement → Tables → Outcome TypedStatements = λ xs t2. fine (record { first = plain_typed_statement c.in_ok-first.first.value; others = xs }) t2 in
    let next : tree.Statement → Tables → Outcome TypedStatements = λ v t2. and_then (checked_others (plain_others x.others.items) around place t2) (λ xs t3. fine (record { first = v; others = xs }) t3) in
    let rest : Checks plain_items (Ok b.others) mid new u ss = subst (λ r. Checks plain_items r mid new u ss) b.ensures.next (subst (λ l. Checks plain_items c.more_statements-others.result mid new u (checked_others (plain_others l) around place t1)) c.deref-2.ensures.value c.more_statements-others.ensures) in
    checks (in_box plain_sequence) c.in_order.result old new u y (checked_statements (plain_statements x) around place (plain_tables c.args.tables.now))
    (is_then old mid new t1 u (plain_typed_statement c.in_ok-first.first.value) y s next (rw c.deref.ensures at c.in_ok-first.ensures) (is_then mid new new u u (plain_items b.others) y ss behind rest (is_fine new u y z same))) c.in_order.ensures

pub loop_body-returns : goal.loop_body-returns
loop_body-returns t c =
    let x = c.args.node.now in
    let place = c.args.within.scope.now in
    let among : Labels → Type 0 = λ ls. Checks (in_box plain_sequence) c.statements.result c.args.faults.now c.statements.new.faults (plain_tables c.statements.new.tables) (checked_statements (plain_statements x.statements) (record { labels = ls; in_handler = c.args.within.in_handler; leaves = c.args.within.leaves; accepting = c.args.within.accepting.now; requeuing = plain_requeuing c.args.within.requeuing c.args.within.profile.now }) place (plain_tables c.args.tables.now)) in
    subst among c.in_ok-labels.ensures (subst (λ l. among (plain_labels l)) c.deref.ensures.value c.statements.ensures)

pub loop_statement-returns-in_ok-body-in-Forever : goal.loop_statement-returns-in_ok-body-in-Forever
loop_statement-returns-in_ok-body-in-Forever t c =
    let x = c.args.node.now in
    let place = c.args.within.scope.now in
    let named = c.right_label_at_end.new.faults in
    let tables = plain_tables c.args.tables.now in
    let body = c.in_ok-body-in-Forever.body.value in
    rw c.in-Forever.is (loop_left c.forever.result c.args.faults.now named named c.loop_body.new.faults tables tables (plain_tables c.loop_body.new.tables) x.label x.at m.forever (plain_statements x.statements) x.name x.semicolon (around_of c.args.within) place place (plain_sequence body) (tree.plain_loop (statements_in body))
    c.right_label_at_end.ensures refl refl refl c.in_ok-body-in-Forever.ensures refl c.forever.ensures)

pub if_statement-returns : goal.if_statement-returns
if_statement-returns t c =
    let x = c.args.node.now in
    let around = around_of c.args.within in
    let place = c.args.within.scope.now in
    let old = c.args.faults.now in
    let f1 = c.arm.new.faults in
    let t1 = plain_tables c.arm.new.tables in
    let f2 = c.arms.new.faults in
    let t2 = plain_tables c.arms.new.tables in
    let f3 = c.more_statements-otherwise.new.faults in
    let t3 = plain_tables c.more_statements-otherwise.new.tables in
    let s = out-IfStatement x in
    let first : TypedArm = plain_arm c.in_ok-first.first.value in
    let o1 = arm_of s.first.at (plain_expression s.first.condition) place (checked_statements (plain_statements s.first.statements) around place (plain_tables c.args.tables.now)) in
    let o2 = checked_arms (arm_list s.others.items) around place t1 in
    let o3 = checked_others (plain_others s.otherwise.items) around place t2 in
    let arms : Checks plain_arms (Ok c.in_ok-arms.arms.1) f1 f2 t2 o2 =
    subst (λ r. Checks plain_arms r f1 f2 t2 o2) c.in_ok-arms.ensures.next (subst (λ l. Checks plain_arms c.arms.result f1 f2 t2 (checked_arms (arm_list l) around place t1)) c.deref.ensures.value c.arms.ensures) in
    let rest : Checks plain_items (Ok c.in_ok-arms-2.otherwise) f2 f3 t3 o3 =
    subst (λ r. Checks plain_items r f2 f3 t3 o3) c.in_ok-arms-2.ensures.next (subst (λ l. Checks plain_items c.more_statements-otherwise.result f2 f3 t3 (checked_others (plain_others l) around place t2)) c.deref-2.ensures.value c.more_statements-otherwise.ensures) in
    let behind : tree.Part = tree.part_of (plain_items c.in_ok-arms-2.otherwise) in
    let made : (a : Box memory.Arm Global × Vec memory.Arm Global) → tree.Statement = λ a. arm_then (plain_arm a.0.value) (arms_then (plain_arms a.1) behind) in
    let z : tree.Statement = arm_then first (arms_then (plain_arms c.in_ok-arms.arms.1) behind) in
    let same : made c.in_ok-arms-2.arms ≡ z = ap made c.in_ok-arms-2.ensures.first ∙ ap (λ a. arm_then (plain_arm a.value) (arms_then (plain_arms c.in_ok-arms.arms.1) behind)) c.in_ok-arms.ensures.first in
    let n3 : TypedArm → List TypedArm → List tree.Statement → Tables → Outcome tree.Statement = λ a more l t4. fine (arm_then a (arms_then more (tree.part_of l))) t4 in
    let n2 : TypedArm → List TypedArm → Tables → Outcome tree.Statement = λ a more t4. and_then (checked_others (plain_others s.otherwise.items) around place t4) (n3 a more) in
    let n1 : TypedArm → Tables → Outcome tree.Statement = λ a t4. and_then (checked_arms (arm_list s.others.items) around place t4) (n2 a) in
    let y = made c.in_ok-arms-2.arms in
    checks (in_box plain_typed_statement) c.if_of.result old f3 t3 y (checked_statement (plain_if_statement x) around place (plain_tables c.args.tables.now))
    (is_then old f1 f3 t1 t3 first y o1 n1 c.in_ok-first.ensures (is_then f1 f2 f3 t2 t3 (plain_arms c.in_ok-arms.arms.1) y o2 (n2 first) arms (is_then f2 f3 f3 t3 t3 (plain_items c.in_ok-arms-2.otherwise) y o3 (n3 first (plain_arms c.in_ok-arms.arms.1)) rest (is_fine f3 t3 y z same)))) c.if_of.ensures

pub loop_statement-returns-in_ok-condition-in-While-2 : goal.loop_statement-returns-in_ok-condition-in-While-2
loop_statement-returns-in_ok-condition-in-While-2 t c =
    let x = c.args.node.now in
    let around = around_of c.args.within in
    let place = c.args.within.scope.now in
    let tables = plain_tables c.args.tables.now in
    let bounded = c.condition.new.faults in
    let new = c.loop_body-body.new.faults in
    let u = plain_tables c.loop_body-body.new.tables in
    let e = plain_expression c.in-While.e in
    let b = c.in_ok-condition-in-While-2 in
    let ss : tree.Statement = statements_in b.body.value in
    let begin = begin_at x.label x.at in
    let stated : Checks (in_box plain_sequence) (Ok b.body) bounded new u (checked_statements (plain_statements x.statements) (labelled true x.label around) place tables) =
    subst (λ r. Checks (in_box plain_sequence) r bounded new u (checked_statements (plain_statements x.statements) (labelled true x.label around) place tables)) b.ensures.next c.loop_body-body.ensures in
    let same : tree.while_loop c.begin_at-at.result (plain_boolean b.condition.value) ss ≡ tree.while_loop begin (condition e place) ss =
    ap (λ z. tree.while_loop z (plain_boolean b.condition.value) ss) c.begin_at-at.ensures ∙ ap (λ v. tree.while_loop begin (plain_boolean v.value) ss) b.ensures.first ∙ ap (λ v. tree.while_loop begin v ss) c.in_ok-condition-in-While.ensures.1 in
    rw c.in-While.is (loop_left c.while_of.result c.args.faults.now c.right_label_at_end.new.faults bounded new tables tables u x.label x.at (m.while e) (plain_statements x.statements) x.name x.semicolon around place place (plain_sequence b.body.value) (tree.while_loop c.begin_at-at.result (plain_boolean b.condition.value) ss)
    c.right_label_at_end.ensures c.in_ok-condition-in-While.ensures.0 refl refl stated same c.while_of.ensures)

pub loop_statement-returns-in-For : goal.loop_statement-returns-in-For
loop_statement-returns-in-For t c =
    let x = c.args.node.now in
    let around = around_of c.args.within in
    let place = c.args.within.scope.now in
    let tables = plain_tables c.args.tables.now in
    let loop = checked_loop x.label x.at (plain_parameter c.in-For.parameter) (plain_statements x.statements) around place tables in
    rw c.in-For.is (checks_after (in_box plain_typed_statement) c.for_loop.result c.args.faults.now c.right_label_at_end.new.faults c.for_loop.new.faults (plain_tables c.for_loop.new.tables) (right_label_at_end x.label x.name x.semicolon) loop c.right_label_at_end.ensures c.for_loop.ensures)

pub for_loop-returns : goal.for_loop-returns
for_loop-returns t c =
    let x = c.args.node.now in
    let around = around_of c.args.within in
    let place = c.args.within.scope.now in
    let tables = plain_tables c.args.tables.now in
    let bounded = c.bounds.new.faults in
    let new = c.loop_body-body.new.faults in
    let u = plain_tables c.loop_body-body.new.tables in
    let p = c.args.parameter.now in
    let own = c.in_ok-own.own in
    let outer = c.in_ok-outer.outer in
    let number = c.in_ok-region.region in
    let b = c.in_ok-bounds-2 in
    let ss : tree.Statement = statements_in b.body.value in
    let among : Place = c.new-among.result in
    let entry : Tables = plain_tables c.enter.new.self in
    let given = checked_statements (plain_statements x.statements) (labelled true x.label around) among entry in
    let stated : Checks (in_box plain_sequence) (Ok b.body) bounded new u given = subst (λ r. Checks (in_box plain_sequence) r bounded new u given) b.ensures.next c.loop_body-body.ensures in
    let inner : among ≡ in_loop p.name place =
    c.new-among.ensures ∙ ap (λ rs. plain_place own rs) c.deref.ensures.value ∙ ap (λ r. place_in r (plain_regions outer.items)) c.in_ok-own.ensures ∙ ap (place_in (loop_region p.name place)) c.in_ok-outer.ensures in
    let entered : entry ≡ with_region (shown_names (loop_region p.name place).symbols) tables =
    c.in_ok-region.ensures.tables ∙ ap (λ (r : Region). with_region (shown_names r.symbols) tables) c.in_ok-own.ensures in
    let head : Pos → ℕ → tree.For = λ z n. record { at = z; next_at = x.at; region = n; backward = p.reverse } in
    let here : tree.For = head (begin_at x.label x.at) (next_region tables) in
    let y = tree.for_loop (head c.begin_at-at.result number) (plain_integer b.bounds.0.value) (plain_integer b.bounds.1.value) ss in
    let same = ap (λ z. tree.for_loop (head z number) (plain_integer b.bounds.0.value) (plain_integer b.bounds.1.value) ss) c.begin_at-at.ensures
    ∙ ap (λ n. tree.for_loop (head (begin_at x.label x.at) n) (plain_integer b.bounds.0.value) (plain_integer b.bounds.1.value) ss) c.in_ok-region.ensures.number
    ∙ ap (λ q. tree.for_loop here (plain_integer q.0.value) (plain_integer q.1.value) ss) b.ensures.first
    ∙ ap (λ q. tree.for_loop here q.0 q.1 ss) c.in_ok-bounds.ensures.1 in
    iterated_left c.for_of.result c.args.faults.now bounded new tables entry u x.label x.at (plain_parameter p) (plain_statements x.statements) around place among (plain_sequence b.body.value) y
    c.in_ok-bounds.ensures.0 inner entered stated same c.for_of.ensures

pub block_statement-returns : goal.block_statement-returns
block_statement-returns t c =
    let x = out-BlockStatement c.args.node.now in
    let source = plain_body x.body in
    let around = around_of c.args.within in
    let behind : Around = labelled false x.label around in
    let place = c.args.within.scope.now in
    let tables = plain_tables c.args.tables.now in
    let old = c.args.faults.now in
    let named = c.right_label_at_end.new.faults in
    let declared = c.declared.new.faults in
    let new = c.body_behind-body.new.faults in
    let entry = plain_tables c.declared.new.tables in
    let u = plain_tables c.body_behind-body.new.tables in
    let outer = c.in_ok-outer.outer in
    let region = c.in_ok-region.region in
    let part = c.in_ok-part.part in
    let body = plain_typed_body c.in_ok-body.body.value in
    let ds = plain_declarations x.declarations.items in
    let labels : plain_labels c.deref-2.result.now ≡ behind.labels = ap plain_labels c.deref-2.ensures.value ∙ c.in_ok-labels.ensures in
    let framed : plain_place region outer.items ≡ in_frame place = ap (λ r. place_in r (plain_regions outer.items)) c.in_ok-region.ensures ∙ ap (place_in (next_frame place)) c.in_ok-outer.ensures in
    let own : m.Declarations → Place → Outcome Declared = λ l z. with_bodies (checked_declarations l z (region_kept tables)) in
    let same : own (plain_declarations c.deref-3.result.now) (plain_place region outer.items) ≡ own ds (in_frame place) =
    ap (λ l. own (plain_declarations l) (plain_place region outer.items)) c.deref-3.ensures.value ∙ ap (own ds) framed in
    let enters : Enters named declared outer.items part (next_region tables) entry (own ds (in_frame place)) =
    subst (Enters named declared outer.items part (next_region tables) entry) same
    (subst (λ rs. Enters named declared rs part (next_region tables) entry (own (plain_declarations c.deref-3.result.now) (plain_place region rs))) c.deref-4.ensures.value c.in_ok-part.ensures) in
    let stated : Is declared new u body (body_behind false (plain_items part.elaborations) source behind (plain_place part.region outer.items) entry) =
    subst (λ rs. Is declared new u body (body_behind false (plain_items part.elaborations) source behind (plain_place part.region rs) entry)) c.deref.ensures.value
    (subst (λ ls. Is declared new u body (body_behind false (plain_items part.elaborations) source (record { labels = ls; in_handler = c.args.within.in_handler; leaves = c.args.within.leaves; accepting = c.args.within.accepting.now; requeuing = plain_requeuing c.args.within.requeuing c.args.within.profile.now }) (plain_place part.region c.deref.result.now) entry)) labels
    (subst (λ r. Checks (in_box plain_typed_body) r declared new u (body_behind false (plain_items part.elaborations) source (record { labels = plain_labels c.deref-2.result.now; in_handler = c.args.within.in_handler; leaves = c.args.within.leaves; accepting = c.args.within.accepting.now; requeuing = plain_requeuing c.args.within.requeuing c.args.within.profile.now }) (plain_place part.region c.deref.result.now) entry)) c.in_ok-body.was c.body_behind-body.ensures)) in
    let whole = entered_left named declared new tables entry u false ds source behind (in_frame place) (plain_place part.region outer.items) (plain_items part.elaborations) body enters.0 enters.1 enters.2 enters.3 stated in
    let named_all : named ≡ noted old (right_label_at_end x.label (end_name source) (end_semicolon source)) =
    c.right_label_at_end.ensures ∙ ap (λ z. noted old (right_label_at_end x.label (end_name z) (end_semicolon z))) (sym (body_open x.body)) in
    let number = c.next_region-number.result in
    let is = ap (λ z. tree.block z number body) c.begin_at.ensures ∙ ap (λ n. tree.block (begin_at x.label x.at) n body) c.next_region-number.ensures in
    block_left c.block_of.result old named new tables u x.label x.at x.declare ds source around place body (tree.block c.begin_at.result number body) named_all whole is c.block_of.ensures

pub declared-loop-next-init : goal.declared-loop-next-init
declared-loop-next-init t c = declares_all c.args.faults.now _ _

pub declared-loop-next-preserved : goal.declared-loop-next-preserved
declared-loop-next-preserved t c =
    let x = c.next-item.result in
    let i = c.loop-next.next-index in
    declarations_ahead c.args.outer.now c.args.faults.now c.loop-next.faults c.declaration.new.faults _ c.loop-next.part c.declaration.new.part (plain_tables c.loop-next.tables) (plain_tables c.declaration.new.tables)
    (checked_declarations (plain_declarations c.args.source.now) (plain_place c.args.region c.args.outer.now) (plain_tables c.keep_region.new.self)) x (drop i c.args.source.now) (drop (i + 1) c.args.source.now) (dropped c.args.source.now i x (omega arith) c.next-item.is) c.loop-next.invariant c.in_ok-declaration.ensures

pub declared-returns : goal.declared-returns
declared-returns t c =
    let seen = c.args.outer.now in
    let place : Place = plain_place c.args.region seen in
    let tables = plain_tables c.args.tables.now in
    let old = c.args.faults.now in
    let kept = plain_tables c.keep_region.new.self in
    let part = c.loop-next.part in
    let ds = plain_declarations c.args.source.now in
    let d : Outcome Declared = with_bodies (checked_declarations ds place (region_kept tables)) in
    let given : Outcome Declared = with_bodies (checked_declarations ds place kept) in
    let same : given ≡ d = ap (λ w. with_bodies (checked_declarations ds place w)) c.in_ok-keep_region.ensures in
    let checked = (checked_declarations ds place kept).faults in
    let missed : Place → List Fault = λ z. without_bodies (innermost z).awaited ++ without_object_bodies (innermost z).objects in
    let behind = part.region in
    let all = all_declared seen old c.loop-next.faults _ part (plain_tables c.loop-next.tables) (checked_declarations ds place kept) (drop c.loop-next.next-index c.args.source.now) (drop_all c.loop-next.next-index c.args.source.now c.loop-next-test.false) c.loop-next.invariant in
    let entry : Tables = plain_tables c.name_region.new.self in
    let named : ℕ → Place → Tables → Tables = λ n z w. region_named n (shown_names (innermost z).symbols) w in
    let into : entry ≡ named (next_region tables) d.made.place d.tables =
    c.in_ok-name_region.ensures ∙ ap (λ n. named n (plain_place part.region seen) (plain_tables c.loop-next.tables)) c.next_region-number.ensures ∙ ap (λ z. named (next_region tables) z (plain_tables c.loop-next.tables)) all.1
    ∙ ap (named (next_region tables) given.made.place) all.3 ∙ ap (λ (g : Outcome Declared). named (next_region tables) g.made.place g.tables) same in (
      c.without_object_bodies.ensures ∙ ap (λ l. noted c.without_bodies.new.faults (without_object_bodies l)) c.deref-2.ensures.value
          ∙ ap (λ o. noted o (without_object_bodies behind.objects.items)) (c.without_bodies.ensures ∙ ap (λ l. noted c.loop-next.faults (without_bodies l)) c.deref.ensures.value)
          ∙ sym (noted_append c.loop-next.faults (without_bodies behind.awaited.items) (without_object_bodies behind.objects.items))
          ∙ ap (λ o. noted o (missed (plain_place behind seen))) all.0 ∙ ap (λ z. noted (noted old checked) (missed z)) all.1
          ∙ sym (noted_append old checked (missed given.made.place)) ∙ ap (λ (g : Outcome Declared). noted old g.faults) same,
      all.1 ∙ ap (λ (g : Outcome Declared). g.made.place) same,
      all.2 ∙ ap (λ l. plain_typed_statements l ++ given.made.elaborations) c.new.ensures.items ∙ ap (λ (g : Outcome Declared). g.made.elaborations) same,
      into,
    )

pub bodies_within-loop-next-init : goal.bodies_within-loop-next-init
bodies_within-loop-next-init t c = all_ahead c.args.faults.now (checked_bodies (operation_body_list (out-ProtectedBody c.args.node.now).bodies.items) (both_places c.args.declared_parts c.args.inside c.args.in_function) c.args.awaited.now.items (plain_tables c.args.tables.now))

pub bodies_within-loop-next-preserved : goal.bodies_within-loop-next-preserved
bodies_within-loop-next-preserved t c =
    let xs = (out-ProtectedBody c.args.node.now).bodies.items in
    let seen = c.deref-next-items.result.now in
    let x = c.next-item.result in
    let i = c.loop-next.next-index in
    let d = c.args.declared_parts in
    let places : BodyPlaces = both_places d c.args.inside c.args.in_function in
    let stands = c.place_of.result in
    let tables : Tables = plain_tables c.loop-next.tables in
    let awaited = c.loop-next.awaited.items in
    let still = c.operation_body.new.awaited.items in
    let mid = c.loop-next.faults in
    let new = c.operation_body.new.faults in
    let u : Tables = plain_tables c.operation_body.new.tables in
    let rest : drop i xs ≡ x ∷ drop (i + 1) xs = subst (λ l. drop i l ≡ x ∷ drop (i + 1) l) c.deref-next-items.ensures.value (dropped seen i x (omega arith) c.next-item.is) in
    let same = stands_in_one x d.object d.parts.now (plain_place stands.0.now stands.1.now) places.inside places.in_function awaited tables c.place_of.ensures in
    one_body places c.args.faults.now mid new tables u awaited still x (drop i xs) (drop (i + 1) xs)
    (checked_bodies (operation_body_list xs) places c.args.awaited.now.items (plain_tables c.args.tables.now))
    rest c.loop-next.invariant (subst (ChecksBodies mid new still u) same c.in_ok-operation_body.ensures)

pub bodies_within-returns : goal.bodies_within-returns
bodies_within-returns t c =
    let xs = (out-ProtectedBody c.args.node.now).bodies.items in
    let i = c.loop-next.next-index in
    all_bodies (both_places c.args.declared_parts c.args.inside c.args.in_function) c.args.faults.now c.loop-next.faults (plain_tables c.loop-next.tables) c.loop-next.awaited.items (drop i xs)
    (checked_bodies (operation_body_list xs) (both_places c.args.declared_parts c.args.inside c.args.in_function) c.args.awaited.now.items (plain_tables c.args.tables.now)) (subst (λ l. drop i l ≡ []) c.deref-next-items.ensures.value (drop_all i c.deref-next-items.result.now c.loop-next-test.false)) c.loop-next.invariant

pub body_behind-returns : goal.body_behind-returns
body_behind-returns t c =
    let source = plain_body c.args.node.now in
    let around = around_entering c.args.entering in
    let place : Place = plain_place c.args.part.region c.args.entering.outer.now in
    let tables = plain_tables c.args.tables.now in
    let old = c.args.faults.now in
    let new = c.body-parts.new.faults in
    let u = plain_tables c.body-parts.new.tables in
    let among : Place = c.new-scope.result in
    let b = c.in_ok-elaborations in
    let made : TypedBody = plain_parts b.parts in
    let stated : Is old new u made (checked_body source around among tables) = subst (λ r. Checks plain_parts r old new u (checked_body source around among tables)) b.ensures.next c.body-parts.ensures in
    let of_task = c.args.entering.of_task in
    let given = plain_items c.args.part.elaborations in
    let begin = (out-Body c.args.node.now).begin in
    let activates = c.in_ok-activates.activates in
    let elaborated : List tree.Statement → Pos → List tree.Statement = λ xs at. xs ++ tree.activation activates at in
    let opened : begin ≡ begin_of source = ap begin_of (sym (body_open c.args.node.now)) in
    let begun : elaborated (plain_items b.elaborations) (begin_of source) ≡ with_activation of_task (begin_of source) given =
    ap (λ v. elaborated (plain_items v) (begin_of source)) b.ensures.first ∙ subst (λ at. elaborated (plain_items c.with_activation.new.elaborations) at ≡ with_activation of_task at given) opened c.in_ok-activates.ensures in
    behind_left c.body_of.result old new tables u of_task source around place among given made (body_with (elaborated (plain_items b.elaborations) (begin_of source)) source made)
    c.new-scope.ensures stated (ap (λ l. body_with l source made) begun) c.body_of.ensures

pub procedure_part-returns : goal.procedure_part-returns
procedure_part-returns t c =
    subst (λ l. IfOk c.declared.result (λ part. Enters c.args.faults.now c.declared.new.faults c.args.outer.now part (next_region (plain_tables c.args.tables.now)) (plain_tables c.declared.new.tables) (with_bodies (checked_declarations (plain_declarations l) (plain_place c.args.region c.args.outer.now) (region_kept (plain_tables c.args.tables.now)))))) c.deref.ensures.value c.declared.ensures

pub procedure-returns : goal.procedure-returns
procedure-returns t c =
    let x = out-ProcedureDeclaration c.args.node.now in
    let first = c.args.part.now in
    let seen = c.args.outer.now in
    let place : Place = plain_place first.region seen in
    let tables = plain_tables c.args.tables.now in
    let old = c.args.faults.now in
    let formed = c.body_formals.new.faults in
    let named = c.declare_procedure.new.faults in
    let shown_faults = c.procedure_part.new.faults in
    let stated_faults = c.body_behind-body.new.faults in
    let new = c.right_name_at_end.new.faults in
    let shown_tables = plain_tables c.procedure_part.new.tables in
    let u = plain_tables c.body_behind-body.new.tables in
    let number = c.next_unit-number.result in
    let declared = c.declare_procedure.new.region in
    let last : DeclarativePart = record { region = declared; elaborations = first.elaborations } in
    let fs = map plain_formal x.formals.items in
    let ds = plain_declarations x.declarations.items in
    let source = plain_body x.body in
    let here : Place = procedure_place x.name place tables in
    let behind : plain_place declared seen ≡ here =
    ap (λ r. place_in r (plain_regions seen)) c.in_ok-declare_procedure.ensures.region ∙ ap (λ n. place_in (with_procedure x.name n (plain_region first.region)) (plain_regions seen)) c.next_unit-number.ensures in
    let regions = c.in_ok-regions.regions in
    let around : plain_regions regions.items ≡ here.regions = c.in_ok-regions.ensures ∙ ap (λ (z : Place). z.regions) behind in
    let formals : Formals = body_formals fs place in
    let region = c.in_ok-region.region in
    let profile = c.in_ok-region.profile.items in
    let all : DeclaresFormals old formed region [] profile formals = subst (λ l. DeclaresFormals old formed region [] profile (body_formals (map plain_formal l) place)) c.deref.ensures.value c.in_ok-region.ensures in
    let entry : Tables = plain_tables c.keep_unit.new.self in
    let kept : entry ≡ unit_kept formals.profile tables = c.in_ok-keep_unit.ensures ∙ ap (λ p. unit_kept p tables) all.2 in
    let own = plain_place region regions.items in
    let inner : own ≡ place_in formals.region here.regions = ap (λ r. place_in r (plain_regions regions.items)) all.1 ∙ ap (place_in formals.region) around in
    let part = c.in_ok-inner.inner in
    let body = plain_typed_body c.in_ok-body.body.value in
    let made = plain_typed_unit c.in_ok-unit.unit.value in
    let in_it : m.Declarations → Place → Outcome Declared = λ l z. with_bodies (checked_declarations l z (region_kept entry)) in
    let enters : Enters named shown_faults regions.items part (next_region entry) shown_tables (in_it ds own) =
    subst (λ rs. Enters named shown_faults rs part (next_region entry) shown_tables (in_it ds (plain_place region rs))) c.deref-2.ensures.value c.in_ok-inner.ensures in
    let stated : Is shown_faults stated_faults u body (body_behind false (plain_items part.elaborations) source nothing_around (plain_place part.region regions.items) shown_tables) =
    subst (λ rs. Is shown_faults stated_faults u body (body_behind false (plain_items part.elaborations) source nothing_around (plain_place part.region rs) shown_tables)) c.deref-3.ensures.value
    (subst (λ r. Checks (in_box plain_typed_body) r shown_faults stated_faults u (body_behind false (plain_items part.elaborations) source nothing_around (plain_place part.region c.deref-3.result.now) shown_tables)) c.in_ok-body.was c.body_behind-body.ensures) in
    let whole = entered_left named shown_faults stated_faults entry shown_tables u false ds source nothing_around own (plain_place part.region regions.items) (plain_items part.elaborations) body enters.0 enters.1 enters.2 enters.3 stated in
    let ends : new ≡ noted stated_faults (right_name_at_end x.name.name (end_name source)) =
    c.right_name_at_end.ensures ∙ ap (λ z. noted stated_faults (right_name_at_end x.name.name (end_name z))) (sym (body_open x.body)) in
    let unit : ℕ → tree.UnitBody = λ n. record { level = region.level; region = n; is_function = false; at = x.at; body = body } in
    let checked : Is named new u made (checked_unit false x.at x.name.name ds source own entry) =
    unit_left named stated_faults new entry u false x.at x.name.name ds source own body made whole ends (c.in_ok-unit.ensures ∙ ap unit c.next_region-own.ensures) in
    let put : plain_tables c.put_unit.new.self ≡ with_unit (next_unit tables) made u =
    c.put_unit.ensures ∙ ap (λ n. with_unit n (plain_typed_unit c.into_inner.result) u) c.next_unit-number.ensures ∙ ap (λ v. with_unit (next_unit tables) (plain_typed_unit v) u) c.into_inner.ensures in
    let end = plain_tables c.put_unit.new.self in
    subst (λ z. Declares old new seen first last end (checked_declaration z place tables)) (sym (procedure_open c.args.node.now))
    (procedure_left old formed named new seen first last tables entry u end x.at x.name fs ds source own made all.0 c.in_ok-declare_procedure.ensures.noted behind refl inner kept checked put)

pub declaration-returns-in-Object : goal.declaration-returns-in-Object
declaration-returns-in-Object t c =
    let x = c.in-Object in
    let place : Place = plain_place c.args.part.now.region c.args.outer.now in
    rw x.is (keeps_tables c.objects.result c.args.faults.now c.objects.new.faults c.args.outer.now c.args.part.now c.objects.new.part (plain_tables c.args.tables.now) (checked_objects (names_in x.names) x.names.first.at x.mark (plain_maybe x.initial) false place) (rw c.as_ref.ensures.value at c.objects.ensures))

pub declaration-returns-in-Constant : goal.declaration-returns-in-Constant
declaration-returns-in-Constant t c =
    let x = c.in-Constant in
    let place : Place = plain_place c.args.part.now.region c.args.outer.now in
    rw x.is (keeps_tables c.objects-in-Constant.result c.args.faults.now c.objects-in-Constant.new.faults c.args.outer.now c.args.part.now c.objects-in-Constant.new.part (plain_tables c.args.tables.now) (checked_objects (names_in x.names) x.names.first.at x.mark (m.an_expression (plain_expression x.value)) true place) c.objects-in-Constant.ensures)

pub declaration-returns-in-Array : goal.declaration-returns-in-Array
declaration-returns-in-Array t c =
    let x = c.in-Array in
    let place : Place = plain_place c.args.part.now.region c.args.outer.now in
    rw x.is (keeps_tables c.arrays.result c.args.faults.now c.arrays.new.faults c.args.outer.now c.args.part.now c.arrays.new.part (plain_tables c.args.tables.now) (checked_arrays (names_in x.names) x.names.first.at x.low x.high x.mark place) c.arrays.ensures)

pub declaration-returns-in-Exception : goal.declaration-returns-in-Exception
declaration-returns-in-Exception t c =
    let part : DeclarativePart = record { region = c.exceptions.new.region; elaborations = c.args.part.now.elaborations } in
    let now = plain_tables c.args.tables.now in
    rw c.in-Exception.is (declares_exceptions c.exceptions.result c.args.faults.now c.exceptions.new.faults c.args.outer.now c.args.part.now part c.args.tables.now.exceptions c.exceptions.new.exceptions now (record now { exceptions = c.exceptions.new.exceptions.items }) (names_in c.in-Exception.names) refl refl refl c.exceptions.ensures.declared c.exceptions.ensures.noted)

pub declaration-returns-in-Procedure : goal.declaration-returns-in-Procedure
declaration-returns-in-Procedure t c =
    let place : Place = plain_place c.args.part.now.region c.args.outer.now in
    let opened : plain_declaration c.args.declaration.now ≡ plain_procedure c.deref.result.now = ap plain_declaration c.in-Procedure.is ∙ ap plain_procedure (sym c.deref.ensures) in
    subst (λ z. OnOk c.procedure.result (Declares c.args.faults.now c.procedure.new.faults c.args.outer.now c.args.part.now c.procedure.new.part (plain_tables c.procedure.new.tables) (checked_declaration z place (plain_tables c.args.tables.now)))) (sym opened) c.procedure.ensures

pub declaration-returns-in-Task : goal.declaration-returns-in-Task
declaration-returns-in-Task t c = rw c.in-Task.is c.declare_task.ensures

pub declaration-returns-in-TaskBody : goal.declaration-returns-in-TaskBody
declaration-returns-in-TaskBody t c =
    let place : Place = plain_place c.args.part.now.region c.args.outer.now in
    let opened : plain_declaration c.args.declaration.now ≡ plain_task_body c.deref-in-TaskBody.result.now = ap plain_declaration c.in-TaskBody.is ∙ ap plain_task_body (sym c.deref-in-TaskBody.ensures) in
    subst (λ z. OnOk c.task_body.result (Declares c.args.faults.now c.task_body.new.faults c.args.outer.now c.args.part.now c.task_body.new.part (plain_tables c.task_body.new.tables) (checked_declaration z place (plain_tables c.args.tables.now)))) (sym opened) c.task_body.ensures

pub declaration-returns-in-Protected : goal.declaration-returns-in-Protected
declaration-returns-in-Protected t c = rw c.in-Protected.is c.declare_protected.ensures

pub declaration-returns-in-ProtectedBody : goal.declaration-returns-in-ProtectedBody
declaration-returns-in-ProtectedBody t c =
    let place : Place = plain_place c.args.part.now.region c.args.outer.now in
    let opened : plain_declaration c.args.declaration.now ≡ plain_protected_body c.deref-in-ProtectedBody.result.now = ap plain_declaration c.in-ProtectedBody.is ∙ ap plain_protected_body (sym c.deref-in-ProtectedBody.ensures) in
    subst (λ z. OnOk c.protected_body.result (Declares c.args.faults.now c.protected_body.new.faults c.args.outer.now c.args.part.now c.protected_body.new.part (plain_tables c.protected_body.new.tables) (checked_declaration z place (plain_tables c.args.tables.now)))) (sym opened) c.protected_body.ensures

pub operation_part-returns : goal.operation_part-returns
operation_part-returns t c =
    subst (λ l. IfOk c.declared.result (λ part. Enters c.args.faults.now c.declared.new.faults c.args.outer.now part (next_region (plain_tables c.args.tables.now)) (plain_tables c.declared.new.tables) (with_bodies (checked_declarations (plain_declarations l) (plain_place c.args.region c.args.outer.now) (region_kept (plain_tables c.args.tables.now)))))) c.deref.ensures.value c.declared.ensures

pub operation_body-returns : goal.operation_body-returns
operation_body-returns t c =
    let x = out-OperationBody c.args.node.now in
    let d = c.args.declared_parts in
    let seen = c.args.outer.now in
    let here : Place = plain_place c.args.own.now seen in
    let i = x.name in
    let head : Head = plain_head x.kind in
    let tables : Tables = plain_tables c.args.tables.now in
    let old = c.args.faults.now in
    let awaited = c.args.awaited.now.items in
    let shaped = c.body_shape.new.faults in
    let headed = c.matched-unit.new.faults in
    let shown_faults = c.operation_part.new.faults in
    let stated_faults = c.body_behind-body.new.faults in
    let new = c.right_name_at_end.new.faults in
    let entry : Tables = plain_tables c.matched-unit.new.tables in
    let shown_tables = plain_tables c.operation_part.new.tables in
    let u = plain_tables c.body_behind-body.new.tables in
    let fs = map plain_formal x.formals.items in
    let ds = plain_declarations x.declarations.items in
    let source = plain_body x.body in
    let object = d.object in
    let parts = d.parts.now in
    let shape : Shape = shape_of head fs here in
    let found : Option PartKind = part_awaited head i (at_place object parts here) awaited in
    let b = c.in_ok-shape-2 in
    let shape_is : plain_shape c.in_ok-shape.shape ≡ shape = c.in_ok-shape.ensures.1 ∙ ap (λ l. shape_of head (map plain_formal l) here) c.deref.ensures.value in
    let still_shape : plain_shape b.shape ≡ shape = ap plain_shape b.ensures.first ∙ shape_is in
    let noted_shape : shaped ≡ noted old (shape_faults head fs here) = c.in_ok-shape.ensures.0 ∙ ap (λ l. noted old (shape_faults head (map plain_formal l) here)) c.deref.ensures.value in
    let matched_faults : Shape → List Fault = λ (s : Shape). operation_matched found i.at s.profile s.returned tables ++ barrier_faults head s.region here in
    let noted_match : headed ≡ noted shaped (matched_faults shape) =
    subst (λ r. OnOk r (headed ≡ noted shaped (matched_faults (plain_shape c.in_ok-shape.shape)))) b.ensures.next c.matched-unit.ensures.noted ∙ ap (λ s. noted shaped (matched_faults s)) shape_is in
    let noted_head : headed ≡ noted old (shape_faults head fs here ++ matched_faults shape) = noted_then old shaped headed (shape_faults head fs here) (matched_faults shape) noted_shape noted_match in
    let kept : entry ≡ operation_tables head found shape.region here tables =
    subst (λ r. OnOk r (entry ≡ operation_tables head found (plain_region c.in_ok-shape.shape.region) here tables)) b.ensures.next c.matched-unit.ensures.tables ∙ ap (λ (s : Shape). operation_tables head found s.region here tables) shape_is in
    let still : c.matched-unit.new.awaited.items ≡ still_awaited found awaited = subst (λ r. OnOk r (c.matched-unit.new.awaited.items ≡ still_awaited found awaited)) b.ensures.next c.matched-unit.ensures.awaited in
    let number : b.number ≡ operation_unit found tables = subst (λ r. IfOk r (λ n. n ≡ operation_unit found tables)) b.ensures.next c.matched-unit.ensures.unit in
    let regions = c.in_ok-regions.regions in
    let own = plain_place b.shape.region regions.items in
    let inner : own ≡ place_in shape.region here.regions =
    ap (λ r. place_in r (plain_regions regions.items)) (ap (λ (s : Shape). s.region) still_shape) ∙ ap (place_in shape.region) c.in_ok-regions.ensures in
    let part = c.in_ok-inner.inner in
    let body = plain_typed_body c.in_ok-body.body.value in
    let made = plain_typed_unit c.in_ok-unit.unit.value in
    let in_it : m.Declarations → Place → Outcome Declared = λ l z. with_bodies (checked_declarations l z (region_kept entry)) in
    let enters : Enters headed shown_faults regions.items part (next_region entry) shown_tables (in_it ds own) =
    subst (λ rs. Enters headed shown_faults rs part (next_region entry) shown_tables (in_it ds (plain_place b.shape.region rs))) c.deref-2.ensures.value c.in_ok-inner.ensures in
    let around : Around = operation_around head fs object here in
    let given_profile : List NamedParameter = c.deref-4.result.now in
    let asked : plain_requeuing c.in_entry.result given_profile ≡ in_entry head shape.profile object =
    c.in_entry.ensures given_profile ∙ ap (λ l. in_entry head l object) (c.deref-4.ensures.value ∙ ap (λ (s : Shape). s.profile) still_shape) in
    let given : left_by.Leaves → Option Requeuing → Around = λ l r. record (leaving_body l) { requeuing = r } in
    let own_around : Around = given c.head_leaves.result (plain_requeuing c.in_entry.result given_profile) in
    let left : own_around ≡ around =
    ap (λ l. given l (plain_requeuing c.in_entry.result given_profile)) (c.head_leaves.ensures ∙ ap (λ (s : Shape). head_leaves head s.returned) still_shape) ∙ ap (given (head_leaves head shape.returned)) asked in
    let stated : Is shown_faults stated_faults u body (body_behind false (plain_items part.elaborations) source around (plain_place part.region regions.items) shown_tables) =
    subst (λ a. Is shown_faults stated_faults u body (body_behind false (plain_items part.elaborations) source a (plain_place part.region regions.items) shown_tables)) left
    (subst (λ rs. Is shown_faults stated_faults u body (body_behind false (plain_items part.elaborations) source own_around (plain_place part.region rs) shown_tables)) c.deref-3.ensures.value
    (subst (λ r. Checks (in_box plain_typed_body) r shown_faults stated_faults u (body_behind false (plain_items part.elaborations) source own_around (plain_place part.region c.deref-3.result.now) shown_tables)) c.in_ok-body.was c.body_behind-body.ensures)) in
    let whole = entered_left headed shown_faults stated_faults entry shown_tables u false ds source around own (plain_place part.region regions.items) (plain_items part.elaborations) body enters.0 enters.1 enters.2 enters.3 stated in
    let ends : new ≡ noted stated_faults (right_name_at_end i.name (end_name source)) =
    c.right_name_at_end.ensures ∙ ap (λ z. noted stated_faults (right_name_at_end i.name (end_name z))) (sym (body_open x.body)) in
    let unit : ℕ → Bool → tree.UnitBody = λ n f. record { level = b.shape.region.level; region = n; is_function = f; at = x.at; body = body } in
    let checked : Is headed new u made (checked_operation_unit head x.at i fs ds source object here own entry) =
    operation_unit_left headed stated_faults new entry u head x.at i fs ds source object here own body made whole ends
    (c.in_ok-unit.ensures ∙ ap (λ n. unit n c.is_function.result) c.next_region-own_region.ensures ∙ ap (unit (next_region entry)) c.is_function.ensures) in
    let end = plain_tables c.put_unit.new.self in
    let put : end ≡ with_unit (operation_unit found tables) made u =
    c.put_unit.ensures ∙ ap (λ n. with_unit n (plain_typed_unit c.into_inner.result) u) number ∙ ap (λ v. with_unit (operation_unit found tables) (plain_typed_unit v) u) c.into_inner.ensures in
    let opened = ap (λ y. checked_operation y (at_place object parts here) awaited tables) (operation_body_open c.args.node.now) ∙ operation_opened x.kind x.at i fs ds source (at_place object parts here) awaited tables in
    subst (ChecksBodies old new c.matched-unit.new.awaited.items end) (sym opened)
    (operation_left_here old headed new tables entry u end head x.at i fs ds source object parts here awaited c.matched-unit.new.awaited.items own made noted_head inner kept checked still put)

pub protected_body-returns : goal.protected_body-returns
protected_body-returns t c =
    let x = out-ProtectedBody c.args.node.now in
    let i = x.name in
    let first = c.args.part.now in
    let seen = c.args.outer.now in
    let place : Place = plain_place first.region seen in
    let tables : Tables = plain_tables c.args.tables.now in
    let old = c.args.faults.now in
    let matched = c.body_number.new.faults in
    let bodied = c.bodies_within-checked.new.faults in
    let missed = c.without_part_bodies.new.faults in
    let new = c.right_name_at_end.new.faults in
    let entry : Tables = plain_tables c.body_number.new.tables in
    let u : Tables = plain_tables c.bodies_within-checked.new.tables in
    let come = c.body_number.new.region in
    let last : DeclarativePart = record { region = come; elaborations = first.elaborations } in
    let here : Place = object_behind i place in
    let found = object_awaited i place in
    let object = c.in_ok-object.object in
    let number = body_object found tables in
    let numbered : object ≡ number = c.in_ok-object.ensures.number in
    let behind : plain_place come seen ≡ here = ap (λ r. place_in r (plain_regions seen)) c.in_ok-object.ensures.region in
    let parts : come.parts.items ≡ (innermost here).parts = ap (λ (r : Region). r.parts) c.in_ok-object.ensures.region in
    let listed : c.in_ok-awaited.awaited.items ≡ awaited_parts number (innermost here).parts =
    c.in_ok-awaited.ensures ∙ ap (awaited_parts object) (c.deref.ensures.value ∙ parts) ∙ ap (λ n. awaited_parts n (innermost here).parts) numbered in
    let inside : plain_place c.in_ok-inside.inside.own c.deref-3.result.now ≡ object_place i.name number Inside here =
    ap (plain_place c.in_ok-inside.inside.own) c.deref-3.ensures.value
    ∙ stands_in c.in_ok-inside.inside come seen c.in_ok-around.around.items i.name object number Inside here c.in_ok-inside.ensures.inside c.in_ok-around.ensures.inside behind numbered in
    let in_function : plain_place c.in_ok-inside.in_function.own c.deref-4.result.now ≡ object_place i.name number InFunction here =
    ap (plain_place c.in_ok-inside.in_function.own) c.deref-4.ensures.value
    ∙ stands_in c.in_ok-inside.in_function come seen c.in_ok-around.around_function.items i.name object number InFunction here c.in_ok-inside.ensures.in_function c.in_ok-around.ensures.in_function behind numbered in
    let b = c.in_ok-awaited-2 in
    let seen_places : BodyPlaces = record { object = object; parts = c.deref-2.result.now; inside = plain_place c.in_ok-inside.inside.own c.deref-3.result.now; in_function = plain_place c.in_ok-inside.in_function.own c.deref-4.result.now } in
    let places = places_are object number c.deref-2.result.now (plain_place c.in_ok-inside.inside.own c.deref-3.result.now) (plain_place c.in_ok-inside.in_function.own c.deref-4.result.now) i.name here
    numbered (c.deref-2.ensures.value ∙ parts) inside in_function in
    let still = c.bodies_within-checked.new.awaited.items in
    let given : m.OperationBodies → BodyPlaces → List AwaitedPart → Type 0 = λ l o a. ChecksBodies matched bodied still u (checked_bodies l o a entry) in
    let bodies = operation_body_list x.bodies.items in
    let checked : given bodies (body_places i.name number here) (awaited_parts number (innermost here).parts) =
    subst (λ a. given bodies (body_places i.name number here) a) listed
    (subst (λ o. given bodies o c.in_ok-awaited.awaited.items) places (subst (λ r. OnOk r (given bodies seen_places c.in_ok-awaited.awaited.items)) b.ensures.next c.bodies_within-checked.ensures)) in
    subst (λ z. Declares old new seen first last u (checked_declaration z place tables)) (sym (protected_body_open c.args.node.now))
    (object_left old matched bodied missed new seen first last tables entry u x.at i bodies x.end_name still c.in_ok-object.ensures.noted behind refl c.in_ok-object.ensures.tables checked
    (c.without_part_bodies.ensures ∙ ap (λ l. noted bodied (without_part_bodies l)) (c.deref-5.ensures.value ∙ ap (λ (v : Vec AwaitedPart Global). v.items) b.ensures.first)) c.right_name_at_end.ensures)

pub task_part-returns : goal.task_part-returns
task_part-returns t c =
    subst (λ l. IfOk c.declared.result (λ part. Enters c.args.faults.now c.declared.new.faults c.args.outer.now part (next_region (plain_tables c.args.tables.now)) (plain_tables c.declared.new.tables) (with_bodies (checked_declarations (plain_declarations l) (plain_place c.args.region c.args.outer.now) (region_kept (plain_tables c.args.tables.now)))))) c.deref.ensures.value c.declared.ensures

pub task_body-returns : goal.task_body-returns
task_body-returns t c =
    let x = out-TaskBody c.args.node.now in
    let first = c.args.part.now in
    let seen = c.args.outer.now in
    let place : Place = plain_place first.region seen in
    let tables = plain_tables c.args.tables.now in
    let old = c.args.faults.now in
    let matched = c.body_numbers.new.faults in
    let shown_faults = c.task_part.new.faults in
    let stated_faults = c.body_behind-body.new.faults in
    let new = c.right_name_at_end.new.faults in
    let entry = plain_tables c.body_numbers.new.tables in
    let shown_tables = plain_tables c.task_part.new.tables in
    let u = plain_tables c.body_behind-body.new.tables in
    let come = c.body_numbers.new.region in
    let last : DeclarativePart = record { region = come; elaborations = first.elaborations } in
    let ds = plain_declarations x.declarations.items in
    let source = plain_body x.body in
    let here : Place = place_behind x.name place in
    let found = task_awaited x.name place in
    let task_type = body_task found tables in
    let given = c.in_ok-numbers.numbers.task_type in
    let same_type : given ≡ task_type = c.in_ok-numbers.ensures.task_type in
    let behind : plain_place come seen ≡ here = ap (λ r. place_in r (plain_regions seen)) c.in_ok-numbers.ensures.region in
    let regions = c.in_ok-regions.regions in
    let level = c.in_ok-running.running.level in
    let named = running x.name.name level given in
    let own_name : plain_region c.in_ok-running.running ≡ named = c.in_ok-running.ensures.region ∙ ap (λ k. running x.name.name k given) (sym c.in_ok-running.ensures.level) in
    let around : plain_regions regions.items ≡ named ∷ here.regions =
    c.in_ok-regions.ensures ∙ ap (λ r. r ∷ (plain_place come seen).regions) own_name ∙ ap (λ (z : Place). named ∷ z.regions) behind in
    let own = plain_place c.in_ok-region.region regions.items in
    let one_further : level ≡ (innermost here).level + 1 = c.in_ok-running.ensures.level ∙ ap (λ (r : Region). r.level + 1) c.in_ok-numbers.ensures.region in
    let listed : c.deref.result.now ≡ (innermost here).entries = c.deref.ensures.value ∙ ap (λ (r : Region). r.entries) c.in_ok-numbers.ensures.region in
    let inner : own ≡ task_place x.name.name task_type here =
    ap (λ r. place_in r (plain_regions regions.items)) c.in_ok-region.ensures ∙ ap (place_in (task_region level given c.deref.result.now)) around ∙ ap (λ l. place_in (task_region level given l) (named ∷ here.regions)) listed
    ∙ ap (λ k. place_in (task_region k given (innermost here).entries) (running x.name.name k given ∷ here.regions)) one_further ∙ ap (λ n. task_place x.name.name n here) same_type in
    let part = c.in_ok-inner.inner in
    let body = plain_typed_body c.in_ok-body.body.value in
    let made = plain_typed_unit c.in_ok-unit.unit.value in
    let in_it : m.Declarations → Place → Outcome Declared = λ l z. with_bodies (checked_declarations l z (region_kept entry)) in
    let enters : Enters matched shown_faults regions.items part (next_region entry) shown_tables (in_it ds own) =
    subst (λ rs. Enters matched shown_faults rs part (next_region entry) shown_tables (in_it ds (plain_place c.in_ok-region.region rs))) c.deref-2.ensures.value c.in_ok-inner.ensures in
    let stated : Is shown_faults stated_faults u body (body_behind true (plain_items part.elaborations) source task_around (plain_place part.region regions.items) shown_tables) =
    subst (λ rs. Is shown_faults stated_faults u body (body_behind true (plain_items part.elaborations) source task_around (plain_place part.region rs) shown_tables)) c.deref-3.ensures.value
    (subst (λ r. Checks (in_box plain_typed_body) r shown_faults stated_faults u (body_behind true (plain_items part.elaborations) source task_around (plain_place part.region c.deref-3.result.now) shown_tables)) c.in_ok-body.was c.body_behind-body.ensures) in
    let whole = entered_left matched shown_faults stated_faults entry shown_tables u true ds source task_around own (plain_place part.region regions.items) (plain_items part.elaborations) body enters.0 enters.1 enters.2 enters.3 stated in
    let ends : new ≡ noted stated_faults (right_name_at_end x.name.name (end_name source)) =
    c.right_name_at_end.ensures ∙ ap (λ z. noted stated_faults (right_name_at_end x.name.name (end_name z))) (sym (body_open x.body)) in
    let unit : ℕ → tree.UnitBody = λ n. record { level = level; region = n; is_function = false; at = x.at; body = body } in
    let leveled_unit : ℕ → tree.UnitBody = λ k. record { level = k; region = next_region entry; is_function = false; at = x.at; body = body } in
    let leveled : (innermost own).level ≡ level = ap (λ (r : Region). r.level) c.in_ok-region.ensures ∙ entries_level given c.deref.result.now (own_region level given) in
    let checked : Is matched new u made (checked_unit true x.at x.name.name ds source own entry) =
    unit_left matched stated_faults new entry u true x.at x.name.name ds source own body made whole ends (c.in_ok-unit.ensures ∙ ap unit c.next_region-own.ensures ∙ ap leveled_unit (sym leveled)) in
    let number : c.in_ok-numbers.numbers.unit ≡ body_unit found tables = c.in_ok-numbers.ensures.unit in
    let end = plain_tables c.put_unit.new.self in
    let put : end ≡ with_unit (body_unit found tables) made u =
    c.put_unit.ensures ∙ ap (λ n. with_unit n (plain_typed_unit c.into_inner.result) u) number ∙ ap (λ v. with_unit (body_unit found tables) (plain_typed_unit v) u) c.into_inner.ensures in
    subst (λ z. Declares old new seen first last end (checked_declaration z place tables)) (sym (task_body_open c.args.node.now))
    (task_left old matched new seen first last tables entry u end x.at x.name ds source own made c.in_ok-numbers.ensures.noted behind refl inner c.in_ok-numbers.ensures.tables checked put)

pub body-returns : goal.body-returns
body-returns t c =
    let x = out-Body c.args.node.now in
    let around = around_of c.args.within in
    let place = c.args.within.scope.now in
    let old = c.args.faults.now in
    let stated = c.statements.new.faults in
    let chosen = c.all_choices-chosen.new.faults in
    let new = c.handlers-handlers.new.faults in
    let t1 = plain_tables c.statements.new.tables in
    let u = plain_tables c.handlers-handlers.new.tables in
    let b = c.in_ok-statements-2 in
    let handlers = handler_list x.handlers.items in
    let ss = checked_statements (plain_statements x.statements) around place (plain_tables c.args.tables.now) in
    let rest : Tables → Outcome (List TypedHandler) = λ w. checked_handlers handlers (handling around) place w in
    let first : Is old stated t1 (plain_sequence b.statements.value) ss = subst (λ z. Is old stated t1 (plain_sequence z.value) ss) (sym b.ensures.first) c.in_ok-statements.ensures in
    let noted_choices : chosen ≡ noted stated (all_choices_faults handlers none_chosen place) =
    subst (λ l. chosen ≡ noted stated (all_choices_faults (handler_list l) none_chosen place)) c.deref.ensures.value
    (subst (λ r. OnOk r (chosen ≡ noted stated (all_choices_faults (handler_list c.deref.result.now) none_chosen place))) b.ensures.next c.all_choices-chosen.ensures) in
    let handled : Checks plain_handlers c.handlers-handlers.result chosen new u (rest t1) =
    subst (λ l. Checks plain_handlers c.handlers-handlers.result chosen new u (checked_handlers (handler_list l) (handling around) place t1)) c.deref-2.ensures.value c.handlers-handlers.ensures in
    rw (body_open c.args.node.now) (body_left c.both-2.result b.statements c.handlers-handlers.result old stated chosen new t1 u ss (all_choices_faults handlers none_chosen place) rest c.both-2.ensures.first c.both-2.ensures.next first noted_choices handled)
