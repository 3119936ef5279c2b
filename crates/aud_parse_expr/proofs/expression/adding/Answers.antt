use Rattle.std.proofs.Common.{refl}
use Rattle.aud_grammar.specs.Actions.{an_adding}
use Rattle.aud_grammar.specs.Ties.Outcome.{o_rule}
use Rattle.aud_cursor.proofs.Choosing.{words, choice, chosen_next, not_chosen}
use Rattle.aud_parse_expr.proofs.expression.adding.Goals as goal

pub returns-in_err-operator : goal.returns-in_err-operator
returns-in_err-operator c = rw c.from_residual.ensures (record { reads = not_chosen c.in_err-operator.ensures.reads; shorter = tt })

pub returns : goal.returns
returns c = let h = c.in_ok-operator.ensures in record { reads = (chosen_next h.reads.0, λ r k ds v o. o_rule (choice words (λ t x. an_adding x) (record { by = λ t ds. refl }) h.reads.0 h.reads.1 r k ds v o)); shorter = h.shorter }
