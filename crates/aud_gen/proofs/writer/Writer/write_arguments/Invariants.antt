use Rattle.aud_gen.proofs.Arguments.{arguments_from}
use Rattle.aud_gen.proofs.Writing.{Remains}
use Rattle.aud_gen.proofs.writer.Writer.write_arguments.Given as goal

abbrev pub invariant-loop-number : goal.invariant-loop-number
invariant-loop-number l = Remains l.fn.self l.self (arguments_from l.arguments 0) (arguments_from l.arguments l.number)
