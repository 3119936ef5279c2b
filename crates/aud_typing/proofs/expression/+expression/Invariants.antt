use Rattle.std.proofs.Common.{drop}
use Rattle.aud_syntax.specs.Ties.View.{plain_chain, relation_list, plain_simple, plain_term, plain_expressions, plain_name, plain_part, part_list}
use Rattle.aud_typing.specs.Expressions.{checked_args, checked_part, checked_parts, checked_arguments, checked_expression, checked_relations, checked_simple, checked_term, checked_addeds, checked_multiplieds}
use Rattle.aud_typing.specs.Ties.Typing.{plain_typed}
use Rattle.aud_typing.proofs.Notes.{Ahead}
use Rattle.aud_syntax.proofs.Opened.{added_list, multiplied_list}
use Rattle.aud_typing.proofs.expression.+expression.Given as goal

abbrev pub invariant-chain-loop-next : goal.invariant-chain-loop-next
invariant-chain-loop-next l = Ahead l.faults (checked_relations (relation_list (drop l.next-index l.next-items)) l.scope l.chain.connective l.at (plain_typed l.typed.value)) l.fn.faults (checked_expression (plain_chain l.fn.chain) l.fn.scope)

abbrev pub invariant-simple-loop-next : goal.invariant-simple-loop-next
invariant-simple-loop-next l = Ahead l.faults (checked_addeds (added_list (drop l.next-index l.next-items)) l.scope l.at (plain_typed l.typed.value)) l.fn.faults (checked_simple (plain_simple l.fn.e) l.fn.scope)

abbrev pub invariant-term-loop-next : goal.invariant-term-loop-next
invariant-term-loop-next l = Ahead l.faults (checked_multiplieds (multiplied_list (drop l.next-index l.next-items)) l.scope l.at (plain_typed l.typed.value)) l.fn.faults (checked_term (plain_term l.fn.term) l.fn.scope)

abbrev pub invariant-part_arguments-loop-argument : goal.invariant-part_arguments-loop-argument
invariant-part_arguments-loop-argument l = Ahead l.faults (checked_args (plain_expressions (drop l.argument-index l.argument-items)) l.scope (plain_typed l.last.value)) l.fn.faults (checked_part (plain_part l.fn.part) l.fn.scope (plain_typed l.fn.before.value))

abbrev pub invariant-arguments-loop-part : goal.invariant-arguments-loop-part
invariant-arguments-loop-part l = Ahead l.faults (checked_parts (part_list (drop l.part-index l.part-items)) l.scope (plain_typed l.last.value)) l.fn.faults (checked_arguments (plain_name l.fn.name) l.fn.scope)
