use Rattle.std.proofs.Common.{rules}
use Rattle.aud_grammar.specs.Ties.Outcome.{o_rule}
use Rattle.aud_cursor.proofs.Passing.{exit_flat}
use Rattle.aud_cursor.proofs.leaf.literal.Goals as goal

pub returns-in_err-t : goal.returns-in_err-t
returns-in_err-t c = exit_flat _ _ _ c.from_residual.ensures.1 (λ room. c.in_err-t.ensures.reads room) (λ room k ds v o. o_rule o)

pub returns : goal.returns
returns c = record { reads = λ room k ds v o. rw (c.in_ok-text.ensures, c.text.ensures, c.at.ensures) (o_rule (c.in_ok-t.ensures.reads _ _ _ _ o)); shorter = search rules }
