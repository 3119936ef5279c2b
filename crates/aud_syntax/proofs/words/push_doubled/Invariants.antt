use Rattle.std.proofs.Common.{drop}
use Rattle.aud_syntax.specs.Why.Printed.{doubled}
use Rattle.aud_syntax.proofs.Written.{Lacks}
use Rattle.aud_syntax.proofs.words.push_doubled.Given as goal

abbrev pub invariant-loop-byte : goal.invariant-loop-byte
invariant-loop-byte l = Lacks l.fn.out l.out (doubled l.fn.characters) (doubled (drop l.byte-index l.characters))
