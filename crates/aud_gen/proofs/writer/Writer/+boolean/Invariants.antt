use Rattle.aud_typed.specs.Ties.View.{plain_boolean, all_connected}
use Rattle.aud_layout.specs.Instructions.{condition_code}
use Rattle.aud_gen.proofs.Loops.{SoFar}
use Rattle.aud_gen.specs.Writes.{Instructs}
use Rattle.aud_gen.proofs.writer.Writer.+boolean.Given as goal

abbrev pub invariant-write_boolean-loop-next : goal.invariant-write_boolean-loop-next
invariant-write_boolean-loop-next l = SoFar (all_connected l.connective) plain_boolean l.next-items l.next-index (plain_boolean l.e) (λ done. Instructs l.fn.self l.self (condition_code done))
