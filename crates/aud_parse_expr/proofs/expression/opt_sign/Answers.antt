use Rattle.std.proofs.Common.{refl, arith, rules}
use Rattle.aud_grammar.specs.Actions.{a_sign}
use Rattle.aud_grammar.specs.Ties.Outcome.{o_rule, o_yes, o_no}
use Rattle.aud_cursor.proofs.Choosing.{tokens, choice, chosen_next, not_chosen}
use Rattle.aud_parse_expr.proofs.expression.opt_sign.Goals as goal

pub returns-in-Some : goal.returns-in-Some
returns-in-Some c = let h = c.in-Some.ensures in record { reads = λ room k ds v o. rw c.at.ensures (o_yes (chosen_next h.reads.0) (o_rule (choice tokens (λ t x. a_sign (record { sign = x; at = t.at })) (record { by = λ t ds. refl }) h.reads.0 h.reads.1 room k ds v o))); shorter = omega (arith, h.shorter) }

pub returns-in-None : goal.returns-in-None
returns-in-None c = record { reads = λ room k ds v o. o_no (not_chosen c.in-None.ensures.reads) o; shorter = search rules }
