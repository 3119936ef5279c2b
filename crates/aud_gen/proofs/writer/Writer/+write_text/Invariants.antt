use Rattle.aud_typed.specs.Tree.{joined}
use Rattle.aud_typed.specs.Ties.View.{plain_text}
use Rattle.aud_layout.specs.Instructions.{text_code}
use Rattle.aud_gen.proofs.Loops.{SoFar}
use Rattle.aud_gen.specs.Writes.{Instructs}
use Rattle.aud_gen.proofs.writer.Writer.+write_text.Given as goal

abbrev pub invariant-loop-next : goal.invariant-loop-next
invariant-loop-next l = SoFar joined plain_text l.next-items l.next-index (plain_text l.t) (λ done. Instructs l.fn.self l.self (text_code done))
