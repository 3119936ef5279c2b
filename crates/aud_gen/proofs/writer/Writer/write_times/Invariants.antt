use Rattle.aud_gen.proofs.Entering.{delays_from}
use Rattle.aud_gen.proofs.Writing.{Remains}
use Rattle.aud_gen.proofs.writer.Writer.write_times.Given as goal

abbrev pub invariant-loop-number : goal.invariant-loop-number
invariant-loop-number l = Remains l.fn.self l.self (delays_from l.alternatives 0) (delays_from l.alternatives l.number)
