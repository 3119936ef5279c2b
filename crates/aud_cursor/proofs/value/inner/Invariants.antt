use Rattle.std.proofs.Common.{◌≡◌, ◌++◌, drop, false}
use Rattle.aud_grammar.specs.Values.{inner}
use Rattle.aud_cursor.proofs.value.inner.Given as goal

abbrev pub invariant-loop-byte : goal.invariant-loop-byte
invariant-loop-byte l = l.kept.items ++ inner l.behind_quote (drop l.byte-index l.bytes) ≡ inner false l.bytes
