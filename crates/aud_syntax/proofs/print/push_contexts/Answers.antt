use Rattle.std.proofs.Common.{map, refl, arith}
use Rattle.std.proofs.lemmas.List.{get_or_default}
use Rattle.std.specs.Prelude.{slice_index_or}
use Rattle.aud_syntax.specs.declared.tree.Context.{Context}
use Rattle.aud_syntax.specs.declared.tree.Context.TheVariants.{With}
use Rattle.aud_syntax.specs.Ties.View.{plain_context}
use Rattle.aud_syntax.specs.Why.Printed.{context_words, contexts_words}
use Rattle.aud_syntax.proofs.Written.{all_remain, next_written, loop_ends}
use Rattle.aud_syntax.proofs.print.push_contexts.Goals as goal

pub loop-next-init : goal.loop-next-init
loop-next-init c = all_remain _

pub loop-next-preserved : goal.loop-next-preserved
loop-next-preserved c =
    let none : Context = With (record { line = 0; col = 0 }) in
    let next : Context = slice_index_or c.args.clauses.now c.loop-next.next-index none in
    next_written (λ xs. contexts_words (map plain_context xs)) (λ x. context_words (plain_context x)) (λ x xs. refl) c.args.clauses.now c.loop-next.next-index next (omega arith) (get_or_default c.args.clauses.now c.loop-next.next-index none next (omega arith)) c.loop-next.invariant c.push_context.ensures

pub returns : goal.returns
returns c = loop_ends (λ xs. contexts_words (map plain_context xs)) refl c.args.clauses.now c.loop-next.next-index c.loop-next-test.false c.loop-next.invariant
