use Rattle.std.proofs.Common.{◌≡◌, ◌+◌, length}
use Rattle.aud_gen.specs.Writes.{counted}
use Rattle.aud_gen.proofs.Arguments.{arguments_from}
use Rattle.aud_gen.proofs.lengths.arguments_length.Given as goal

abbrev pub invariant-loop-argument : goal.invariant-loop-argument
invariant-loop-argument l = (l.total ≡ counted l.total) × (counted (l.total + length (arguments_from l.arguments l.argument-index)) ≡ counted (length (arguments_from l.arguments 0)))
