use Rattle.aud_typed.specs.Tree.{chained}
use Rattle.aud_typed.specs.Ties.View.{plain_integer}
use Rattle.aud_typed.proofs.Chains.{plain_operation}
use Rattle.aud_layout.specs.Instructions.{integer_code}
use Rattle.aud_gen.proofs.Loops.{SoFar}
use Rattle.aud_gen.specs.Writes.{Instructs}
use Rattle.aud_gen.proofs.writer.Writer.+write_integer.Given as goal

abbrev pub invariant-loop-next : goal.invariant-loop-next
invariant-loop-next l = SoFar chained plain_operation l.next-items l.next-index (plain_integer l.e) (λ done. Instructs l.fn.self l.self (integer_code done))
