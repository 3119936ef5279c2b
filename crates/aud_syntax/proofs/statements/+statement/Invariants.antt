use Rattle.std.proofs.Common.{drop}
use Rattle.aud_syntax.specs.Ties.View.{plain_declarations, plain_others, arm_list, handler_list, guarded_list, operation_body_list}
use Rattle.aud_syntax.specs.Why.Printed.{declarations_words, more_statements_words, arms_words, handlers_words, alternatives_words, operation_bodies_words}
use Rattle.aud_syntax.proofs.Written.{Remains}
use Rattle.aud_syntax.proofs.statements.+statement.Given as goal

abbrev pub invariant-push_declarations-loop-next : goal.invariant-push_declarations-loop-next
invariant-push_declarations-loop-next l = Remains l.fn.out l.out (declarations_words (plain_declarations l.fn.declarations)) (declarations_words (plain_declarations (drop l.next-index l.declarations)))

abbrev pub invariant-push_more_statements-loop-next : goal.invariant-push_more_statements-loop-next
invariant-push_more_statements-loop-next l = Remains l.fn.out l.out (more_statements_words (plain_others l.fn.others)) (more_statements_words (plain_others (drop l.next-index l.others)))

abbrev pub invariant-push_arms-loop-next : goal.invariant-push_arms-loop-next
invariant-push_arms-loop-next l = Remains l.fn.out l.out (arms_words (arm_list l.fn.arms)) (arms_words (arm_list (drop l.next-index l.arms)))

abbrev pub invariant-push_handlers-loop-next : goal.invariant-push_handlers-loop-next
invariant-push_handlers-loop-next l = Remains l.fn.out l.out (handlers_words (handler_list l.fn.handlers)) (handlers_words (handler_list (drop l.next-index l.handlers)))

abbrev pub invariant-push_alternatives-loop-next : goal.invariant-push_alternatives-loop-next
invariant-push_alternatives-loop-next l = Remains l.fn.out l.out (alternatives_words (guarded_list l.fn.others)) (alternatives_words (guarded_list (drop l.next-index l.others)))

abbrev pub invariant-push_operation_bodies-loop-next : goal.invariant-push_operation_bodies-loop-next
invariant-push_operation_bodies-loop-next l = Remains l.fn.out l.out (operation_bodies_words (operation_body_list l.fn.bodies)) (operation_bodies_words (operation_body_list (drop l.next-index l.bodies)))
