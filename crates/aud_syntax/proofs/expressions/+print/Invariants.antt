use Rattle.std.proofs.Common.{◌∷◌, drop}
use Rattle.std.specs.Prelude.{codes}
use Rattle.aud_syntax.specs.Ties.View.{relation_list, plain_chain, plain_simple, plain_term, plain_expressions, part_list, plain_name}
use Rattle.aud_syntax.specs.Why.Printed.{ident_word, expression_words, relations_words, simple_words, addeds_words, term_words, multiplieds_words, name_words, parts_words}
use Rattle.aud_syntax.proofs.Opened.{added_list, multiplied_list}
use Rattle.aud_syntax.proofs.Written.{Remains, listed}
use Rattle.aud_syntax.proofs.expressions.+print.Given as goal

abbrev pub invariant-push_chain-loop-next : goal.invariant-push_chain-loop-next
invariant-push_chain-loop-next l = Remains l.fn.out l.out (expression_words (plain_chain l.fn.chain)) (relations_words l.chain.connective (relation_list (drop l.next-index l.next-items)))

abbrev pub invariant-push_simple-loop-next : goal.invariant-push_simple-loop-next
invariant-push_simple-loop-next l = Remains l.fn.out l.out (simple_words (plain_simple l.fn.simple)) (addeds_words (added_list (drop l.next-index l.next-items)))

abbrev pub invariant-push_term-loop-next : goal.invariant-push_term-loop-next
invariant-push_term-loop-next l = Remains l.fn.out l.out (term_words (plain_term l.fn.term)) (multiplieds_words (multiplied_list (drop l.next-index l.next-items)))

abbrev pub invariant-push_part-loop-next : goal.invariant-push_part-loop-next
invariant-push_part-loop-next l = Remains l.fn.out l.out (ident_word l.fn.part.ident ∷ listed (codes "(") (plain_expressions l.fn.part.args.items)) (listed l.before (plain_expressions (drop l.next-index l.next-items)))

abbrev pub invariant-push_name-loop-next : goal.invariant-push_name-loop-next
invariant-push_name-loop-next l = Remains l.fn.out l.out (name_words (plain_name l.fn.name)) (parts_words (part_list (drop l.next-index l.next-items)))
