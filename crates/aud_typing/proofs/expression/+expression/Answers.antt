use Rattle.std.proofs.Common.{◌+◌, drop, arith, subst, sym}
use Rattle.std.specs.Prelude.{Some, None}
use Rattle.aud_syntax.specs.declared.tree.Comparison.{out-Comparison}
use Rattle.aud_syntax.specs.declared.tree.Added.{out-Added}
use Rattle.aud_syntax.specs.Ties.View.{plain_expression, plain_chain, plain_relation, plain_simple, plain_term, plain_primary, plain_factor, plain_name, plain_part}
use Rattle.aud_names.specs.Resolution.{last_args}
use Rattle.aud_typing.specs.Expressions.{Typed, Checked, denoting, with, checked_name, checked_part, checked_arguments, checked_expression, expression_at, checked_relation, relation_at, simple_at, relating, connecting, checked_simple, checked_term, checked_factor, checked_primary, adding_operator, arithmetic, multiplying, highest, checked_attribute, term_at, factor_at, primary_at}
use Rattle.aud_typing.specs.Ties.Typing.{plain_typed, Shows}
use Rattle.aud_syntax.proofs.Opened.{chain_open, comparison_open, added_open}
use Rattle.aud_syntax.proofs.Written.{dropped}
use Rattle.aud_typing.proofs.Opened.{argument_ahead, arguments_ahead, part_ahead, chain_ahead, further_ahead, term_ahead, multiplied_ahead, simple_ahead, added_ahead}
use Rattle.aud_typing.proofs.Notes.{shows_with}
use Rattle.aud_typing.proofs.expression.+expression.Goals as goal

pub expression-returns-in-Connected : goal.expression-returns-in-Connected
expression-returns-in-Connected t c = rw c.in-Connected.is (subst (λ z. Shows c.chain.result c.args.faults.now c.chain.new.faults (checked_expression z c.args.scope.now)) (sym (chain_open c.in-Connected.relations)) (rw c.deref.ensures at c.chain.ensures))

pub chain-loop-next-init : goal.chain-loop-next-init
chain-loop-next-init t c = chain_ahead c.args.chain.now c.args.scope.now c.args.faults.now c.relation.new.faults c.further.new.faults c.in_ok-typed.typed c.in_ok-typed-2.typed c.relation_at-at.result c.deref-next-items.result.now c.relation_at-at.ensures c.deref-next-items.ensures.value c.in_ok-typed.ensures c.in_ok-typed-2.ensures

pub chain-loop-next-preserved : goal.chain-loop-next-preserved
chain-loop-next-preserved t c = further_ahead c.args.scope.now c.args.faults.now c.loop-next.faults c.further-in-loop-next.new.faults (checked_expression (plain_chain c.args.chain.now) c.args.scope.now) c.args.chain.now.connective c.next-item.result (drop c.loop-next.next-index c.deref-next-items.result.now) (drop (c.loop-next.next-index + 1) c.deref-next-items.result.now) c.relation_at-at.result (plain_typed c.loop-next.typed.value) c.in_ok-typed-3.typed (dropped c.deref-next-items.result.now c.loop-next.next-index c.next-item.result (omega arith) c.next-item.is) c.loop-next.invariant c.in_ok-typed-3.ensures

pub further-returns : goal.further-returns
further-returns t c = shows_with c.args.faults.now c.relation.new.faults c.operation.new.faults (checked_relation (plain_relation c.args.next.now) c.args.scope.now) (λ right. connecting c.args.connective c.args.left.at (plain_typed c.args.left.typed.value) (relation_at (plain_relation c.args.next.now)) right) c.in_ok-typed.typed c.operation.result c.in_ok-typed.ensures (rw c.relation_at-at.ensures at c.operation.ensures)

pub comparison-returns : goal.comparison-returns
comparison-returns t c =
    let x = out-Comparison c.args.comparison.now in
    let last : Typed → Typed → Checked = λ left right. relating x.operator (simple_at (plain_simple x.left)) left (simple_at (plain_simple x.right)) right in
    rw (comparison_open c.args.comparison.now) (shows_with c.args.faults.now c.simple.new.faults c.operation.new.faults (checked_simple (plain_simple x.left) c.args.scope.now) (λ left. with (checked_simple (plain_simple x.right) c.args.scope.now) (last left)) c.in_ok-typed.typed c.operation.result c.in_ok-typed.ensures
    (shows_with c.simple.new.faults c.simple-2.new.faults c.operation.new.faults (checked_simple (plain_simple x.right) c.args.scope.now) (last (plain_typed c.in_ok-typed.typed.value)) c.in_ok-typed-2.typed c.operation.result c.in_ok-typed-2.ensures (rw (c.simple_at-at.ensures, c.simple_at-at-2.ensures) at c.operation.ensures)))

pub added-returns : goal.added-returns
added-returns t c = rw added_open (shows_with c.args.faults.now c.term.new.faults c.operation.new.faults (checked_term (plain_term (out-Added c.args.added.now).term) c.args.scope.now) (λ right. adding_operator (out-Added c.args.added.now).operator c.args.left.at (plain_typed c.args.left.typed.value) (term_at (plain_term (out-Added c.args.added.now).term)) right) c.in_ok-typed.typed c.operation.result c.in_ok-typed.ensures (rw (c.term_at-at.ensures, c.adding-operator.ensures) at c.operation.ensures))

pub multiplied-returns : goal.multiplied-returns
multiplied-returns t c = shows_with c.args.faults.now c.factor.new.faults c.operation.new.faults (checked_factor (plain_factor c.args.multiplied.now.factor) c.args.scope.now) (λ right. arithmetic (multiplying c.args.multiplied.now.operator) c.args.left.at (plain_typed c.args.left.typed.value) (factor_at (plain_factor c.args.multiplied.now.factor)) right) c.in_ok-typed.typed c.operation.result c.in_ok-typed.ensures (rw (c.factor_at-at.ensures, c.multiplying.ensures) at c.operation.ensures)

pub factor-returns-in-Some : goal.factor-returns-in-Some
factor-returns-in-Some t c = rw c.in-Some.is (shows_with c.args.faults.now c.primary.new.faults c.highest.new.faults (checked_primary (plain_primary c.args.factor.now.primary) c.args.scope.now) (λ x. highest c.in-Some.operator.highest (primary_at (plain_primary c.args.factor.now.primary)) x) c.in_ok-typed.typed c.highest.result c.in_ok-typed.ensures (rw c.primary_at-at.ensures at c.highest.ensures))

pub simple-loop-next-init : goal.simple-loop-next-init
simple-loop-next-init t c = simple_ahead c.args.e.now c.args.scope.now c.args.faults.now c.term.new.faults c.signed.new.faults c.in_ok-typed.typed c.in_ok-typed-2.typed c.simple_at-at.result c.deref-next-items.result.now c.simple_at-at.ensures c.deref-next-items.ensures.value c.in_ok-typed.ensures (rw c.term_at-at.ensures at c.in_ok-typed-2.ensures)

pub simple-loop-next-preserved : goal.simple-loop-next-preserved
simple-loop-next-preserved t c = added_ahead c.args.scope.now c.args.faults.now c.loop-next.faults c.added.new.faults (checked_simple (plain_simple c.args.e.now) c.args.scope.now) c.next-item.result (drop c.loop-next.next-index c.deref-next-items.result.now) (drop (c.loop-next.next-index + 1) c.deref-next-items.result.now) c.simple_at-at.result (plain_typed c.loop-next.typed.value) c.in_ok-typed-3.typed (dropped c.deref-next-items.result.now c.loop-next.next-index c.next-item.result (omega arith) c.next-item.is) c.loop-next.invariant c.in_ok-typed-3.ensures

pub term-loop-next-init : goal.term-loop-next-init
term-loop-next-init t c = term_ahead c.args.term.now c.args.scope.now c.args.faults.now c.factor.new.faults c.in_ok-typed.typed c.term_at-at.result c.deref-next-items.result.now c.term_at-at.ensures c.deref-next-items.ensures.value c.in_ok-typed.ensures

pub term-loop-next-preserved : goal.term-loop-next-preserved
term-loop-next-preserved t c = multiplied_ahead c.args.scope.now c.args.faults.now c.loop-next.faults c.multiplied.new.faults (checked_term (plain_term c.args.term.now) c.args.scope.now) c.next-item.result (drop c.loop-next.next-index c.deref-next-items.result.now) (drop (c.loop-next.next-index + 1) c.deref-next-items.result.now) c.term_at-at.result (plain_typed c.loop-next.typed.value) c.in_ok-typed-2.typed (dropped c.deref-next-items.result.now c.loop-next.next-index c.next-item.result (omega arith) c.next-item.is) c.loop-next.invariant c.in_ok-typed-2.ensures

pub part_arguments-loop-argument-preserved : goal.part_arguments-loop-argument-preserved
part_arguments-loop-argument-preserved t c = argument_ahead c.args.scope.now c.args.faults.now c.loop-argument.faults c.expression.new.faults (checked_part (plain_part c.args.part.now) c.args.scope.now (plain_typed c.args.before.value)) c.argument-item.result (drop c.loop-argument.argument-index c.deref-argument-items.result.now) (drop (c.loop-argument.argument-index + 1) c.deref-argument-items.result.now) (plain_typed c.loop-argument.last.value) c.in_ok-last.last (dropped c.deref-argument-items.result.now c.loop-argument.argument-index c.argument-item.result (omega arith) c.argument-item.is) c.loop-argument.invariant c.in_ok-last.ensures

pub arguments-loop-part-init : goal.arguments-loop-part-init
arguments-loop-part-init t c = arguments_ahead c.args.name.now c.args.scope.now c.args.faults.now c.part_arguments.new.faults c.check_prefix.new.faults c.in_ok-last.last c.deref-part-items.result.now c.deref-part-items.ensures.value (rw c.in_ok-nothing.ensures at c.in_ok-last.ensures) (rw (c.deref.ensures.value, c.deref-2.ensures) at c.check_prefix.ensures)

pub arguments-loop-part-preserved : goal.arguments-loop-part-preserved
arguments-loop-part-preserved t c = part_ahead c.args.scope.now c.args.faults.now c.loop-part.faults c.part_arguments-in-loop-part.new.faults (checked_arguments (plain_name c.args.name.now) c.args.scope.now) c.part-item.result (drop c.loop-part.part-index c.deref-part-items.result.now) (drop (c.loop-part.part-index + 1) c.deref-part-items.result.now) (plain_typed c.loop-part.last.value) c.in_ok-last-2.last (dropped c.deref-part-items.result.now c.loop-part.part-index c.part-item.result (omega arith) c.part-item.is) c.loop-part.invariant c.in_ok-last-2.ensures

pub primary-returns-in_ok-last-in-Name : goal.primary-returns-in_ok-last-in-Name
primary-returns-in_ok-last-in-Name t c =
    let name = plain_name c.in-Name.name.value in
    rw c.in-Name.is (shows_with c.args.faults.now c.arguments.new.faults c.name_value.new.faults (checked_arguments name c.args.scope.now) (λ last. checked_name (denoting name last c.args.scope.now)) c.in_ok-last-in-Name.last c.name_value.result (rw c.deref.ensures at c.in_ok-last-in-Name.ensures) (rw c.deref-in-Name.ensures at c.name_value.ensures))

pub primary-returns-in-None : goal.primary-returns-in-None
primary-returns-in-None t c =
    let name = plain_name c.in-Attribute.prefix.value in
    rw (c.in-Attribute.is, c.in-None.is) (shows_with c.args.faults.now c.arguments-in-Attribute.new.faults c.name_attribute.new.faults (checked_arguments name c.args.scope.now) (λ last. checked_attribute (denoting name last c.args.scope.now) (last_args name) c.in-Attribute.designator None c.args.scope.now) c.in_ok-last-in-Attribute.last c.name_attribute.result (rw c.deref-in-Attribute.ensures at c.in_ok-last-in-Attribute.ensures) (rw c.deref-in-None.ensures at c.name_attribute.ensures))

pub primary-returns-in_ok-typed-in-Some : goal.primary-returns-in_ok-typed-in-Some
primary-returns-in_ok-typed-in-Some t c =
    let name = plain_name c.in-Attribute.prefix.value in
    let argument = plain_expression c.in-Some.e.value in
    let rest : Typed → Typed → Checked = λ last x. checked_attribute (denoting name last c.args.scope.now) (last_args name) c.in-Attribute.designator (Some (expression_at argument, x)) c.args.scope.now in
    rw (c.in-Attribute.is, c.in-Some.is) (shows_with c.args.faults.now c.arguments-in-Attribute.new.faults c.name_attribute-in-Some.new.faults (checked_arguments name c.args.scope.now) (λ last. with (checked_expression argument c.args.scope.now) (λ x. rest last x)) c.in_ok-last-in-Attribute.last c.name_attribute-in-Some.result (rw c.deref-in-Attribute.ensures at c.in_ok-last-in-Attribute.ensures)
    (shows_with c.arguments-in-Attribute.new.faults c.expression.new.faults c.name_attribute-in-Some.new.faults (checked_expression argument c.args.scope.now) (λ x. rest (plain_typed c.in_ok-last-in-Attribute.last.value) x) c.in_ok-typed-in-Some.typed c.name_attribute-in-Some.result (rw c.deref-in-Some.ensures at c.in_ok-typed-in-Some.ensures) (rw (c.expression_at-at.ensures, c.deref-in-Some-2.ensures, c.deref-in-Some-3.ensures) at c.name_attribute-in-Some.ensures)))
