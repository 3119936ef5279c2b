use Rattle.std.proofs.Common.{◌≡◌, drop}
use Rattle.aud_grammar.specs.Values.{only_digits}
use Rattle.aud_cursor.proofs.value.digit.Given as goal

abbrev pub invariant-loop-i : goal.invariant-loop-i
invariant-loop-i l = only_digits (drop l.i l.bytes) ≡ only_digits l.bytes
