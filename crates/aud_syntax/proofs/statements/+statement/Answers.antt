use Rattle.std.proofs.Common.{◌∷◌, ◌∙◌, sym, refl, arith}
use Rattle.std.specs.Prelude.{codes}
use Rattle.aud_lex.specs.Why.Spaced.{last_word}
use Rattle.aud_syntax.specs.Ties.View.{plain_expression, plain_statement, plain_others, plain_statements, arm_list, plain_choices, plain_declaration, plain_declarations, plain_body, handler_list, plain_maybe, guarded_list, plain_alternative, plain_operation_body, operation_body_list}
use Rattle.aud_syntax.specs.Why.Printed.{expression_words, arm_words, arms_words, statement_words, more_statements_words, statements_words, declaration_words, declarations_words, handler_words, handlers_words, guarded_words, alternatives_words, operation_body_words, operation_bodies_words}
use Rattle.aud_syntax.proofs.Written.{◌then◌, all_remain, next_written, loop_ends, if_written, loop_written, else_written, block_written, procedure_written, task_body_written, protected_body_written, operation_body_written, enclosed_written, begin_written, do_written, handled_written, accept_written, select_written, selected_call_written, accept_alternative_written, delay_alternative_written, or_delay_written, or_else_written}
use Rattle.aud_syntax.proofs.statements.+statement.Goals as goal

pub push_declarations-loop-next-init : goal.push_declarations-loop-next-init
push_declarations-loop-next-init t c = all_remain _

pub push_declarations-loop-next-preserved : goal.push_declarations-loop-next-preserved
push_declarations-loop-next-preserved t c =
    next_written (λ xs. declarations_words (plain_declarations xs)) (λ x. declaration_words (plain_declaration x)) (λ x xs. refl) c.args.declarations.now c.loop-next.next-index c.next-item.result (omega arith) c.next-item.is c.loop-next.invariant c.push_declaration.ensures

pub push_declarations-returns : goal.push_declarations-returns
push_declarations-returns t c = loop_ends (λ xs. declarations_words (plain_declarations xs)) refl c.args.declarations.now c.loop-next.next-index c.loop-next-test.false c.loop-next.invariant

pub push_more_statements-loop-next-init : goal.push_more_statements-loop-next-init
push_more_statements-loop-next-init t c = all_remain _

pub push_more_statements-loop-next-preserved : goal.push_more_statements-loop-next-preserved
push_more_statements-loop-next-preserved t c =
    next_written (λ xs. more_statements_words (plain_others xs)) (λ x. statement_words (plain_statement x)) (λ x xs. refl) c.args.others.now c.loop-next.next-index c.next-item.result (omega arith) c.next-item.is c.loop-next.invariant c.push_statement.ensures

pub push_more_statements-returns : goal.push_more_statements-returns
push_more_statements-returns t c = loop_ends (λ xs. more_statements_words (plain_others xs)) refl c.args.others.now c.loop-next.next-index c.loop-next-test.false c.loop-next.invariant

pub push_arms-loop-next-init : goal.push_arms-loop-next-init
push_arms-loop-next-init t c = all_remain _

pub push_arms-loop-next-preserved : goal.push_arms-loop-next-preserved
push_arms-loop-next-preserved t c =
    next_written (λ xs. arms_words (arm_list xs)) (λ x. arm_words (codes "elsif") (expression_words (plain_expression x.condition)) (statements_words (plain_statements x.statements))) (λ x xs. refl) c.args.arms.now c.loop-next.next-index c.next-item.result (omega arith) c.next-item.is c.loop-next.invariant c.push_arm.ensures

pub push_arms-returns : goal.push_arms-returns
push_arms-returns t c = loop_ends (λ xs. arms_words (arm_list xs)) refl c.args.arms.now c.loop-next.next-index c.loop-next-test.false c.loop-next.invariant

pub push_handlers-loop-next-init : goal.push_handlers-loop-next-init
push_handlers-loop-next-init t c = all_remain _

pub push_handlers-loop-next-preserved : goal.push_handlers-loop-next-preserved
push_handlers-loop-next-preserved t c =
    next_written (λ xs. handlers_words (handler_list xs)) (λ x. handler_words (plain_choices x.choices) (statements_words (plain_statements x.statements))) (λ x xs. refl) c.args.handlers.now c.loop-next.next-index c.next-item.result (omega arith) c.next-item.is c.loop-next.invariant c.push_handler.ensures

pub push_handlers-returns : goal.push_handlers-returns
push_handlers-returns t c = loop_ends (λ xs. handlers_words (handler_list xs)) refl c.args.handlers.now c.loop-next.next-index c.loop-next-test.false c.loop-next.invariant

pub push_alternatives-loop-next-init : goal.push_alternatives-loop-next-init
push_alternatives-loop-next-init t c = all_remain _

pub push_alternatives-loop-next-preserved : goal.push_alternatives-loop-next-preserved
push_alternatives-loop-next-preserved t c =
    next_written (λ xs. alternatives_words (guarded_list xs)) (λ x. last_word (codes "or") ∷ guarded_words (plain_maybe x.guard) (plain_alternative x.alternative)) (λ x xs. refl) c.args.others.now c.loop-next.next-index c.next-item.result (omega arith) c.next-item.is c.loop-next.invariant (c.push_last_word.ensures then c.push_guarded.ensures)

pub push_alternatives-returns : goal.push_alternatives-returns
push_alternatives-returns t c = loop_ends (λ xs. alternatives_words (guarded_list xs)) refl c.args.others.now c.loop-next.next-index c.loop-next-test.false c.loop-next.invariant

pub push_operation_bodies-loop-next-init : goal.push_operation_bodies-loop-next-init
push_operation_bodies-loop-next-init t c = all_remain _

pub push_operation_bodies-loop-next-preserved : goal.push_operation_bodies-loop-next-preserved
push_operation_bodies-loop-next-preserved t c =
    next_written (λ xs. operation_bodies_words (operation_body_list xs)) (λ x. operation_body_words (plain_operation_body x)) (λ x xs. refl) c.args.bodies.now c.loop-next.next-index c.next-item.result (omega arith) c.next-item.is c.loop-next.invariant c.push_operation_body.ensures

pub push_operation_bodies-returns : goal.push_operation_bodies-returns
push_operation_bodies-returns t c = loop_ends (λ xs. operation_bodies_words (operation_body_list xs)) refl c.args.bodies.now c.loop-next.next-index c.loop-next-test.false c.loop-next.invariant

pub push_arm-returns : goal.push_arm-returns
push_arm-returns t c = c.push_word.ensures then c.push_expression.ensures then c.push_last_word.ensures then c.push_statements.ensures

pub push_if-returns : goal.push_if-returns
push_if-returns t c = if_written c.args.statement.now (c.push_arm.ensures then (rw c.deref.ensures.value at c.push_arms.ensures) then (rw c.deref-2.ensures.value at c.push_otherwise.ensures) then c.push_two_words.ensures then c.push_last_word.ensures)

pub push_block-returns : goal.push_block-returns
push_block-returns t c = block_written c.args.statement.now (c.push_label.ensures then c.push_declare.ensures then (rw c.deref.ensures.value at c.push_declarations.ensures) then c.push_body.ensures)

pub push_body-returns : goal.push_body-returns
push_body-returns t c = begin_written (plain_body c.args.body.now) c.push_enclosed.ensures

pub push_enclosed-returns : goal.push_enclosed-returns
push_enclosed-returns t c = enclosed_written c.args.spelling.now c.args.body.now (c.push_last_word.ensures then c.push_statements.ensures then (rw c.deref.ensures.value at c.push_handled.ensures) then c.push_word.ensures then c.push_end_name.ensures then c.push_last_word-2.ensures)

pub push_handled-returns : goal.push_handled-returns
push_handled-returns t c = handled_written c.args.handlers.now (sym c.is_empty.ensures ∙ c.if-is_empty.false) c.push_last_word.ensures c.push_handlers.ensures

pub push_handler-returns : goal.push_handler-returns
push_handler-returns t c = c.push_word.ensures then c.push_choices.ensures then c.push_last_word.ensures then c.push_statements.ensures

pub push_loop-returns : goal.push_loop-returns
push_loop-returns t c = c.push_label.ensures then c.push_iteration.ensures then c.push_last_word.ensures then c.push_statements.ensures then c.push_two_words.ensures then c.push_end_name.ensures then c.push_last_word-2.ensures

pub push_otherwise-returns : goal.push_otherwise-returns
push_otherwise-returns t c = else_written c.args.statements.now (sym c.is_empty.ensures ∙ c.if-is_empty.false) c.push_last_word.ensures c.push_more_statements.ensures

pub push_statement-returns-in-Loop : goal.push_statement-returns-in-Loop
push_statement-returns-in-Loop t c = rw c.in-Loop.is (loop_written c.in-Loop.statement (rw c.deref-in-Loop.ensures at c.push_loop.ensures))

pub push_statement-returns-in-SelectCall : goal.push_statement-returns-in-SelectCall
push_statement-returns-in-SelectCall t c = rw c.in-SelectCall.is (selected_call_written c.in-SelectCall.statement (rw c.deref-in-SelectCall.ensures at c.push_selected_call.ensures))

pub push_statements-returns : goal.push_statements-returns
push_statements-returns t c = (rw c.deref.ensures at c.push_statement.ensures) then (rw c.deref-2.ensures.value at c.push_more_statements.ensures)

pub push_procedure-returns : goal.push_procedure-returns
push_procedure-returns t c = procedure_written c.args.procedure.now (c.push_word.ensures then c.push_ident.ensures then (rw c.deref.ensures.value at c.push_formals.ensures) then c.push_last_word.ensures then (rw c.deref-2.ensures.value at c.push_declarations.ensures) then c.push_body.ensures)

pub push_task_body-returns : goal.push_task_body-returns
push_task_body-returns t c = task_body_written c.args.task.now (c.push_two_words.ensures then c.push_ident.ensures then c.push_last_word.ensures then (rw c.deref.ensures.value at c.push_declarations.ensures) then c.push_body.ensures)

pub push_protected_body-returns : goal.push_protected_body-returns
push_protected_body-returns t c = protected_body_written c.args.object.now (c.push_two_words.ensures then c.push_ident.ensures then c.push_last_word.ensures then (rw c.deref.ensures.value at c.push_operation_bodies.ensures) then c.push_ending.ensures)

pub push_operation_body-returns : goal.push_operation_body-returns
push_operation_body-returns t c = operation_body_written c.args.operation.now ((rw c.deref.ensures.value at c.push_operation_head.ensures) then c.push_last_word.ensures then (rw c.deref-2.ensures.value at c.push_declarations.ensures) then c.push_body.ensures)

pub push_accept-returns : goal.push_accept-returns
push_accept-returns t c = accept_written c.args.statement.now ((rw c.deref.ensures.value at c.push_head.ensures) then c.push_doing.ensures)

pub push_select-returns : goal.push_select-returns
push_select-returns t c = select_written c.args.statement.now (c.push_last_word.ensures then c.push_guarded.ensures then (rw c.deref.ensures.value at c.push_alternatives.ensures) then (rw c.deref-2.ensures.value at c.push_otherwise.ensures) then c.push_end_select.ensures)

pub push_selected_call-returns : goal.push_selected_call-returns
push_selected_call-returns t c = c.push_last_word.ensures then c.push_call.ensures then (rw c.deref.ensures.value at c.push_more_statements.ensures) then c.push_other.ensures then c.push_end_select.ensures

pub push_guarded-returns : goal.push_guarded-returns
push_guarded-returns t c = c.push_guard.ensures then c.push_alternative.ensures

pub push_alternative-returns-in-Accept : goal.push_alternative-returns-in-Accept
push_alternative-returns-in-Accept t c = rw c.in-Accept.is (accept_alternative_written c.in-Accept.statement c.in-Accept.behind c.push_accept.ensures (rw c.deref.ensures.value at c.push_more_statements.ensures))

pub push_alternative-returns-in-Delay : goal.push_alternative-returns-in-Delay
push_alternative-returns-in-Delay t c = rw c.in-Delay.is (delay_alternative_written c.in-Delay.delay c.in-Delay.behind c.push_delay.ensures (rw c.deref-in-Delay.ensures.value at c.push_more_statements-in-Delay.ensures))

pub push_other-returns-in-Delay : goal.push_other-returns-in-Delay
push_other-returns-in-Delay t c = rw c.in-Delay.is (or_delay_written c.in-Delay.delay c.in-Delay.behind c.push_last_word.ensures c.push_delay.ensures (rw c.deref.ensures.value at c.push_more_statements.ensures))

pub push_other-returns-in-Else : goal.push_other-returns-in-Else
push_other-returns-in-Else t c = rw c.in-Else.is (or_else_written c.in-Else.statements c.push_last_word-in-Else.ensures c.push_statements.ensures)

pub push_doing-returns-in-Some : goal.push_doing-returns-in-Some
push_doing-returns-in-Some t c = rw c.in-Some.is (do_written (plain_body c.in-Some.body.value) (rw c.deref.ensures at c.push_enclosed.ensures))
