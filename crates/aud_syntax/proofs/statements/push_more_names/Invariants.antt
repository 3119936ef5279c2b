use Rattle.std.proofs.Common.{drop}
use Rattle.aud_syntax.specs.Ties.View.{plain_names}
use Rattle.aud_syntax.specs.Why.Printed.{more_names_words}
use Rattle.aud_syntax.proofs.Written.{Remains}
use Rattle.aud_syntax.proofs.statements.push_more_names.Given as goal

abbrev pub invariant-loop-next : goal.invariant-loop-next
invariant-loop-next l = Remains l.fn.out l.out (more_names_words (plain_names l.fn.others)) (more_names_words (plain_names (drop l.next-index l.others)))
