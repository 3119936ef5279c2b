use Rattle.std.proofs.Common.{◌≡◌, ◌++◌, take, drop}
use Rattle.aud_grammar.specs.Values.{before_point, behind_point}
use Rattle.aud_cursor.proofs.value.split.Given as goal

abbrev pub invariant-loop-i : goal.invariant-loop-i
invariant-loop-i l = record {
  before : take l.i l.text ++ before_point (drop l.i l.text) ≡ before_point l.text;
  behind : behind_point (drop l.i l.text) ≡ behind_point l.text;
}
