use Rattle.std.proofs.Common.{drop}
use Rattle.aud_code.specs.Tabled.{counts}
use Rattle.aud_gen.proofs.Tables.{Whole}
use Rattle.aud_gen.proofs.operands.operands.Given as goal

abbrev pub invariant-loop-line : goal.invariant-loop-line
invariant-loop-line l = Whole l.table.items (counts l.before) (drop l.line-index l.lines) l.lines
