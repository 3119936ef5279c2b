use Rattle.std.proofs.Common.{drop}
use Rattle.aud_cursor.proofs.Choosing.{Remains}
use Rattle.aud_cursor.proofs.cursor.chosen.Given as goal

abbrev pub invariant-loop-entry : goal.invariant-loop-entry
invariant-loop-entry g l = Remains (drop l.entry-index l.table) l.table l.start.tokens.now
