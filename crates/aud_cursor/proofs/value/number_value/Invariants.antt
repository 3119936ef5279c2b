use Rattle.std.proofs.Common.{◌≡◌, drop}
use Rattle.aud_grammar.specs.Values.{digits_value}
use Rattle.aud_cursor.proofs.value.number_value.Given as goal

abbrev pub invariant-loop-byte : goal.invariant-loop-byte
invariant-loop-byte l = digits_value 0 l.text ≡ digits_value l.value (drop l.byte-index l.text)
