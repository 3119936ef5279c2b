use Rattle.std.proofs.Common.{◌≡◌, length}
use Rattle.aud_typed.specs.Tree.{joined}
use Rattle.aud_typed.specs.Ties.View.{plain_text}
use Rattle.aud_layout.specs.Instructions.{text_code}
use Rattle.aud_gen.specs.Writes.{counted}
use Rattle.aud_gen.proofs.Loops.{SoFar}
use Rattle.aud_gen.proofs.lengths.+text_length.Given as goal

abbrev pub invariant-loop-next : goal.invariant-loop-next
invariant-loop-next l = SoFar joined plain_text l.next-items l.next-index (plain_text l.t) (λ done. l.total ≡ counted (length (text_code done)))
