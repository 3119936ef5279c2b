use Rattle.std.proofs.Common.{arith}
use Rattle.aud_grammar.specs.Ties.Outcome.{o_rule}
use Rattle.aud_cursor.proofs.Passing.{to, exit_flat}
use Rattle.aud_parse.proofs.Rolls.{names_items}
use Rattle.aud_grammar.specs.Grammar as g
use Rattle.aud_cursor.proofs.Valued.{more_identifier}
use Rattle.aud_parse.proofs.declaration.identifiers.Goals as goal

pub returns-in_err-first : goal.returns-in_err-first
returns-in_err-first c = exit_flat _ _ _ c.from_residual.ensures.1 (λ room. c.in_err-first.ensures.reads room) (λ room k ds v o. o_rule o)

pub returns-in_err-others : goal.returns-in_err-others
returns-in_err-others c = exit_flat _ _ _ c.from_residual-in_err-others.ensures.1 (λ room. (c.in_err-others.ensures g.MoreIdentifiers more_identifier).reads room) (λ room k ds v o. o_rule (c.in_ok-first.ensures.reads _ _ _ _ o))

pub returns : goal.returns
returns c = record { reads = λ room k ds v o. to (o_rule (c.in_ok-first.ensures.reads _ _ _ _ ((c.in_ok-others.ensures g.MoreIdentifiers more_identifier).reads _ _ _ _ o))) (names_items c.in_ok-first.first c.in_ok-others.others ds); shorter = omega (arith, c.in_ok-first.ensures.shorter, (c.in_ok-others.ensures g.MoreIdentifiers more_identifier).shorter) }
