use Rattle.aud_gen.proofs.Entering.{guards_from}
use Rattle.aud_gen.proofs.Writing.{Remains}
use Rattle.aud_gen.proofs.writer.Writer.write_openings.Given as goal

abbrev pub invariant-loop-number : goal.invariant-loop-number
invariant-loop-number l = Remains l.fn.self l.self (guards_from l.alternatives 0) (guards_from l.alternatives l.number)
