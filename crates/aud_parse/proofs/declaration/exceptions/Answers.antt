use Rattle.std.proofs.Common.{arith}
use Rattle.aud_grammar.specs.Ties.Outcome.{o_rule}
use Rattle.aud_cursor.proofs.Passing.{exit_flat}
use Rattle.aud_parse.proofs.declaration.exceptions.Goals as goal

pub returns-in_err-rest : goal.returns-in_err-rest
returns-in_err-rest c = exit_flat _ _ _ c.from_residual.ensures.1 (λ room. c.in_err-rest.ensures.reads room) (λ room k ds v o. o_rule o)

pub returns-in_err-rest-2 : goal.returns-in_err-rest-2
returns-in_err-rest-2 c = exit_flat _ _ _ c.from_residual-in_err-rest-2.ensures.1 (λ room. c.in_err-rest-2.ensures.reads room) (λ room k ds v o. o_rule (c.in_ok-rest.ensures.reads _ _ _ _ o))

pub returns : goal.returns
returns c = record { reads = λ room k ds v o. o_rule (c.in_ok-rest.ensures.reads _ _ _ _ (c.in_ok-rest-2.ensures.reads _ _ _ _ o)); shorter = omega (arith, c.in_ok-rest.ensures.shorter, c.in_ok-rest-2.ensures.shorter) }
