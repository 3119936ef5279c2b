use Rattle.std.proofs.Common.{◌+◌, ◌≤◌, map}
use Rattle.aud_code.specs.View.{plain_line}
use Rattle.aud_expr.proofs.Instructions.{Stands}
use Rattle.aud_expr.proofs.evaluate.evaluate_until.Given as goal

abbrev pub invariant-loop-place : goal.invariant-loop-place
invariant-loop-place g l = record {
  stands : Stands l.stops (g.F.Facts.facts l.facts) l.clock l.objects l.display l.frames (map plain_line l.lines) l.fn.first l.place l.ticks l.passed l.operands;
  few : l.ticks + l.fn.first ≤ l.place;
}
