use Rattle.std.proofs.Common.{drop, map}
use Rattle.aud_syntax.specs.Ties.View.{plain_context}
use Rattle.aud_syntax.specs.Why.Printed.{contexts_words}
use Rattle.aud_syntax.proofs.Written.{Remains}
use Rattle.aud_syntax.proofs.print.push_contexts.Given as goal

abbrev pub invariant-loop-next : goal.invariant-loop-next
invariant-loop-next l = Remains l.fn.out l.out (contexts_words (map plain_context l.fn.clauses)) (contexts_words (map plain_context (drop l.next-index l.clauses)))
