use Rattle.std.proofs.Common.{sym, rules}
use Rattle.aud_grammar.specs.Actions.{token}
use Rattle.aud_grammar.specs.Ties.Outcome.{o_rule}
use Rattle.aud_cursor.proofs.Passing.{to, exit_flat}
use Rattle.aud_cursor.proofs.Rolls.{others_items_of}
use Rattle.aud_cursor.proofs.choice_list.others.Goals as goal

pub returns-in_err-t : goal.returns-in_err-t
returns-in_err-t c = exit_flat _ _ _ c.from_residual.ensures.1 (λ room. c.in_err-t.ensures.reads room) (λ room k ds v o. o_rule o)

pub returns : goal.returns
returns c = record { reads = λ room k ds v o. to (o_rule (c.in_ok-t.ensures.reads _ _ _ _ o)) (others_items_of c.in_ok-boxed.boxed (token c.in_ok-t.t.now) ds (rw (sym c.at.ensures) c.in_ok-boxed.ensures.ok)); shorter = search rules }
