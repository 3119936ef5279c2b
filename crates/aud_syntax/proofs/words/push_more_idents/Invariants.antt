use Rattle.std.proofs.Common.{drop}
use Rattle.aud_syntax.specs.Why.Printed.{more_ident_words}
use Rattle.aud_syntax.proofs.Written.{Remains}
use Rattle.aud_syntax.proofs.words.push_more_idents.Given as goal

abbrev pub invariant-loop-next : goal.invariant-loop-next
invariant-loop-next l = Remains l.fn.out l.out (more_ident_words l.fn.delimiter l.fn.names) (more_ident_words l.delimiter (drop l.next-index l.names))
