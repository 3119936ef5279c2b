use Rattle.std.proofs.Common.{◌≡◌, ◌+◌, length}
use Rattle.aud_gen.specs.Writes.{counted}
use Rattle.aud_gen.proofs.Entering.{delays_from}
use Rattle.aud_gen.proofs.lengths.delays_length.Given as goal

abbrev pub invariant-loop-alternative : goal.invariant-loop-alternative
invariant-loop-alternative l = (l.total ≡ counted l.total) × (counted (l.total + length (delays_from l.alternatives l.alternative-index)) ≡ counted (length (delays_from l.alternatives 0)))
