use Rattle.std.proofs.Common.{◌+◌, ◌∷◌, ◌==◌, length, ◌∙◌, sym, ap, refl, drop, arith}
use Rattle.std.specs.Prelude.{Some, codes}
use Rattle.std.proofs.lemmas.List.{drop_all}
use Rattle.aud_lex.specs.Why.Spaced.{word}
use Rattle.aud_syntax.specs.declared.tree.Name.{out-Name}
use Rattle.aud_syntax.specs.declared.tree.Simple.{out-Simple}
use Rattle.aud_syntax.specs.declared.tree.Term.{out-Term}
use Rattle.aud_syntax.specs.Ties.View.{relation_list, plain_relation, plain_added, plain_multiplied, plain_part, part_list, plain_expressions}
use Rattle.aud_syntax.specs.Why.Printed.{relations_words, connected_words, simple_words, addeds_words, added_words, term_words, multiplieds_words, multiplied_words, name_words, parts_words, part_words}
use Rattle.aud_syntax.proofs.Opened.{added_list, multiplied_list, added_open, comparison_open, simple_open, term_open, name_open}
use Rattle.aud_syntax.proofs.Written.{◌then◌, next_written, loop_begins, loop_ends, listed, dropped, argument_written, arguments_end, chain_written, attribute_written, attribute_alone}
use Rattle.aud_syntax.proofs.expressions.+print.Goals as goal

pub push_in_parentheses-returns : goal.push_in_parentheses-returns
push_in_parentheses-returns t c = c.push_word.ensures then c.push_expression.ensures then c.push_word-2.ensures

pub push_expression-returns-in-Connected : goal.push_expression-returns-in-Connected
push_expression-returns-in-Connected t c = rw c.in-Connected.is (chain_written c.in-Connected.chain (rw c.deref.ensures at c.push_chain.ensures))

pub push_chain-loop-next-init : goal.push_chain-loop-next-init
push_chain-loop-next-init t c =
    let x = c.args.chain.now in
    loop_begins (λ xs. relations_words x.connective (relation_list xs)) x.others.items c.deref-next-items.result.now c.deref-next-items.ensures.value (c.push_relation.ensures then c.push_connected.ensures) _ refl

pub push_chain-loop-next-preserved : goal.push_chain-loop-next-preserved
push_chain-loop-next-preserved t c =
    let connective = c.args.chain.now.connective in
    next_written (λ xs. relations_words connective (relation_list xs)) (λ x. connected_words connective (plain_relation x)) (λ x xs. refl) c.deref-next-items.result.now c.loop-next.next-index c.next-item.result (omega arith) c.next-item.is c.loop-next.invariant c.push_connected-in-loop-next.ensures

pub push_chain-returns : goal.push_chain-returns
push_chain-returns t c = loop_ends (λ xs. relations_words c.args.chain.now.connective (relation_list xs)) refl c.deref-next-items.result.now c.loop-next.next-index c.loop-next-test.false c.loop-next.invariant

pub push_connected-returns : goal.push_connected-returns
push_connected-returns t c = c.push_connective.ensures then c.push_relation.ensures

pub push_comparison-returns : goal.push_comparison-returns
push_comparison-returns t c = rw (comparison_open c.args.comparison.now) (c.push_simple.ensures then c.push_relational.ensures then c.push_simple-2.ensures)

pub push_simple-loop-next-init : goal.push_simple-loop-next-init
push_simple-loop-next-init t c =
    loop_begins (λ xs. addeds_words (added_list xs)) (out-Simple c.args.simple.now).rest.items c.deref-next-items.result.now c.deref-next-items.ensures.value (c.push_sign.ensures then c.push_term.ensures) _ (ap simple_words (simple_open c.args.simple.now))

pub push_simple-loop-next-preserved : goal.push_simple-loop-next-preserved
push_simple-loop-next-preserved t c =
    next_written (λ xs. addeds_words (added_list xs)) (λ x. added_words (plain_added x)) (λ x xs. refl) c.deref-next-items.result.now c.loop-next.next-index c.next-item.result (omega arith) c.next-item.is c.loop-next.invariant c.push_added.ensures

pub push_simple-returns : goal.push_simple-returns
push_simple-returns t c = loop_ends (λ xs. addeds_words (added_list xs)) refl c.deref-next-items.result.now c.loop-next.next-index c.loop-next-test.false c.loop-next.invariant

pub push_added-returns : goal.push_added-returns
push_added-returns t c = rw (added_open c.args.added.now) (c.push_adding.ensures then c.push_term.ensures)

pub push_term-loop-next-init : goal.push_term-loop-next-init
push_term-loop-next-init t c =
    loop_begins (λ xs. multiplieds_words (multiplied_list xs)) (out-Term c.args.term.now).rest.items c.deref-next-items.result.now c.deref-next-items.ensures.value c.push_factor.ensures _ (ap term_words (term_open c.args.term.now))

pub push_term-loop-next-preserved : goal.push_term-loop-next-preserved
push_term-loop-next-preserved t c =
    next_written (λ xs. multiplieds_words (multiplied_list xs)) (λ x. multiplied_words (plain_multiplied x)) (λ x xs. refl) c.deref-next-items.result.now c.loop-next.next-index c.next-item.result (omega arith) c.next-item.is c.loop-next.invariant c.push_multiplied.ensures

pub push_term-returns : goal.push_term-returns
push_term-returns t c = loop_ends (λ xs. multiplieds_words (multiplied_list xs)) refl c.deref-next-items.result.now c.loop-next.next-index c.loop-next-test.false c.loop-next.invariant

pub push_multiplied-returns : goal.push_multiplied-returns
push_multiplied-returns t c = c.push_multiplying.ensures then c.push_factor.ensures

pub push_factor-returns : goal.push_factor-returns
push_factor-returns t c = c.push_operator.ensures then c.push_primary.ensures

pub push_primary-returns-in-None : goal.push_primary-returns-in-None
push_primary-returns-in-None t c = rw (c.in-Attribute.is, c.in-None.is)
    (attribute_alone c.in-Attribute.prefix c.in-Attribute.designator (rw c.deref-in-Attribute.ensures at c.push_name-in-Attribute.ensures) c.push_word.ensures c.push_ident.ensures)

pub push_primary-returns-in-Some : goal.push_primary-returns-in-Some
push_primary-returns-in-Some t c = rw (c.in-Attribute.is, c.in-Some.is)
    (attribute_written c.in-Attribute.prefix c.in-Attribute.designator (Some c.in-Some.argument) (rw c.deref-in-Attribute.ensures at c.push_name-in-Attribute.ensures) c.push_word.ensures c.push_ident.ensures (rw c.deref-in-Some.ensures at c.push_in_parentheses.ensures))

pub push_name-loop-next-init : goal.push_name-loop-next-init
push_name-loop-next-init t c =
    loop_begins (λ xs. parts_words (part_list xs)) (out-Name c.args.name.now).others.items c.deref-next-items.result.now c.deref-next-items.ensures.value c.push_part.ensures _ (ap name_words (name_open c.args.name.now))

pub push_name-loop-next-preserved : goal.push_name-loop-next-preserved
push_name-loop-next-preserved t c =
    next_written (λ xs. parts_words (part_list xs)) (λ x. word (codes ".") ∷ part_words (plain_part x)) (λ x xs. refl) c.deref-next-items.result.now c.loop-next.next-index c.next-item.result (omega arith) c.next-item.is c.loop-next.invariant (c.push_word.ensures then c.push_part-in-loop-next.ensures)

pub push_name-returns : goal.push_name-returns
push_name-returns t c = loop_ends (λ xs. parts_words (part_list xs)) refl c.deref-next-items.result.now c.loop-next.next-index c.loop-next-test.false c.loop-next.invariant

pub push_part-loop-next-init : goal.push_part-loop-next-init
push_part-loop-next-init t c =
    loop_begins (λ xs. listed (codes "(") (plain_expressions xs)) c.args.part.now.args.items c.deref-next-items.result.now c.deref-next-items.ensures.value c.push_ident.ensures _ refl

pub push_part-loop-next-preserved : goal.push_part-loop-next-preserved
push_part-loop-next-preserved t c =
    let xs = c.deref-next-items.result.now in
    argument_written c.loop-next.before.now c.next-item.result (drop c.loop-next.next-index xs) (drop (c.loop-next.next-index + 1) xs)
    (dropped xs c.loop-next.next-index c.next-item.result (omega arith) c.next-item.is) c.loop-next.invariant c.push_word.ensures c.push_expression.ensures

pub push_part-returns : goal.push_part-returns
push_part-returns t c =
    let empty = ap (λ n. n == 0) (sym (ap length c.deref-next-items.ensures.value) ∙ c.deref-next-items.ensures.len) ∙ sym c.is_empty.ensures ∙ c.if-is_empty.false in
    arguments_end c.loop-next.before.now c.args.part.now.ident c.args.part.now.args.items (drop c.loop-next.next-index c.deref-next-items.result.now) (drop_all _ _ c.loop-next-test.false) c.loop-next.invariant empty c.push_word-2.ensures
