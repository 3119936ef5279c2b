use Rattle.std.proofs.Common.{◌≡◌, length}
use Rattle.aud_typed.specs.Tree.{chained}
use Rattle.aud_typed.specs.Ties.View.{plain_integer}
use Rattle.aud_typed.proofs.Chains.{plain_operation}
use Rattle.aud_layout.specs.Instructions.{integer_code}
use Rattle.aud_gen.specs.Writes.{counted}
use Rattle.aud_gen.proofs.Loops.{SoFar}
use Rattle.aud_gen.proofs.lengths.+integer_length.Given as goal

abbrev pub invariant-loop-next : goal.invariant-loop-next
invariant-loop-next l = SoFar chained plain_operation l.next-items l.next-index (plain_integer l.e) (λ done. l.total ≡ counted (length (integer_code done)))
