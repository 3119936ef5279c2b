use Rattle.std.proofs.Common.{drop, map}
use Rattle.aud_syntax.specs.Ties.View.{plain_entry}
use Rattle.aud_syntax.specs.Why.Printed.{entries_words}
use Rattle.aud_syntax.proofs.Written.{Remains}
use Rattle.aud_syntax.proofs.declarations.push_entries.Given as goal

abbrev pub invariant-loop-next : goal.invariant-loop-next
invariant-loop-next l = Remains l.fn.out l.out (entries_words (map plain_entry l.fn.entries)) (entries_words (map plain_entry (drop l.next-index l.entries)))
