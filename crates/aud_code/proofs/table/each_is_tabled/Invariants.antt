use Rattle.std.proofs.Common.{◌+◌, ◌≤◌, drop, length, map}
use Rattle.aud_code.specs.Tabled.{counts, Tabled}
use Rattle.aud_code.specs.Verified.{Before}
use Rattle.aud_code.specs.View.{plain_line}
use Rattle.aud_code.proofs.table.each_is_tabled.Given as goal

abbrev pub invariant-loop-place : goal.invariant-loop-place
invariant-loop-place l = record {
  tabled : Tabled (drop l.place (map plain_line l.lines)) (drop l.place (map counts l.table));
  before : Before (drop l.place (map plain_line l.lines)) l.count;
  few : l.count + l.place ≤ length l.lines;
}
