use Rattle.std.proofs.Common.{[], ap, sym, ◌∙◌, rules}
use Rattle.aud_grammar.specs.First.{next_spelled}
use Rattle.aud_grammar.specs.Ties.Outcome.{o_misspelled}
use Rattle.aud_cursor.proofs.Passing.{spelled_passes, next_spelled_there}
use Rattle.aud_cursor.proofs.cursor.spelled.Goals as goal

pub split-requires : goal.split-requires
split-requires c = next_spelled_there c.args.wanted.now c.args.start.tokens.now (sym c.is_spelled.ensures ∙ c.if-not-is_spelled.false)

pub returns-then-not-is_spelled : goal.returns-then-not-is_spelled
returns-then-not-is_spelled c = λ word s. record { reads = λ r k. ([], o_misspelled (ap (λ l. next_spelled l c.args.start.tokens.now) s ∙ sym c.is_spelled.ensures ∙ c.if-not-is_spelled.true)); shorter = tt }

pub returns : goal.returns
returns c = λ word s. record { reads = λ r. spelled_passes r s (sym c.is_spelled.ensures ∙ c.if-not-is_spelled.false) c.split.ensures; shorter = search rules }
