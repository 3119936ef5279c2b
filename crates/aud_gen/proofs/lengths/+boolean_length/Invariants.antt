use Rattle.std.proofs.Common.{◌≡◌, ◌+◌, length, drop}
use Rattle.aud_typed.specs.Ties.View.{plain_boolean}
use Rattle.aud_layout.specs.Instructions.{condition_code}
use Rattle.aud_gen.specs.Writes.{counted}
use Rattle.aud_gen.proofs.Writing.{rights_length}
use Rattle.aud_gen.proofs.lengths.+boolean_length.Given as goal

abbrev pub invariant-loop-next : goal.invariant-loop-next
invariant-loop-next l = (l.total ≡ counted l.total) × (counted (l.total + rights_length (drop l.next-index l.next-items)) ≡ counted (length (condition_code (plain_boolean l.e))))
