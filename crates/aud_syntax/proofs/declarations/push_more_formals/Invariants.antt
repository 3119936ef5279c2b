use Rattle.std.proofs.Common.{drop, map}
use Rattle.aud_syntax.specs.Ties.View.{plain_formal}
use Rattle.aud_syntax.specs.Why.Printed.{more_formals_words}
use Rattle.aud_syntax.proofs.Written.{Remains}
use Rattle.aud_syntax.proofs.declarations.push_more_formals.Given as goal

abbrev pub invariant-loop-next : goal.invariant-loop-next
invariant-loop-next l = Remains l.fn.out l.out (more_formals_words (map plain_formal l.fn.formals)) (more_formals_words (map plain_formal (drop l.next-index l.formals)))
