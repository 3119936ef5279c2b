use Rattle.std.proofs.Common.{arith}
use Rattle.aud_grammar.specs.Ties.Outcome.{o_yes, o_no}
use Rattle.aud_cursor.proofs.Passing.{word_passes}
use Rattle.aud_cursor.proofs.Valued.{begun_so, marked}
use Rattle.aud_cursor.proofs.leaf.mark.Goals as goal

pub returns-in-Some : goal.returns-in-Some
returns-in-Some c = λ p h. record { reads = λ room k ds v o. o_yes (begun_so p c.args.start.tokens.now h.begins c.in-Some.ensures.reads.0) (marked h (word_passes c.in-Some.ensures.reads _ _ _ o)); shorter = omega (arith, c.in-Some.ensures.shorter) }

pub returns-in-None : goal.returns-in-None
returns-in-None c = λ p h. record { reads = λ room k ds v o. o_no (begun_so p c.args.start.tokens.now h.begins c.in-None.ensures.reads) o; shorter = omega arith }
