use Rattle.std.proofs.Common.{rules}
use Rattle.std.proofs.lemmas.Fmt.{length-decimal-le}
use Rattle.aud_bench.proofs.journal.digit_count.Goals as goal

pub returns-clause-of_choice : goal.returns-clause-of_choice
returns-clause-of_choice c = λ within. search (rules, length-decimal-le 4 c.args.number)
