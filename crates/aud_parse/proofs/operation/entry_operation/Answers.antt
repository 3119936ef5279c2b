use Rattle.std.proofs.Common.{arith}
use Rattle.aud_grammar.specs.Ties.Outcome.{o_rule}
use Rattle.aud_cursor.proofs.Passing.{exit}
use Rattle.aud_parse.proofs.operation.entry_operation.Goals as goal

pub returns-in_err-entry : goal.returns-in_err-entry
returns-in_err-entry c = exit _ _ _ c.from_residual.ensures.1 c.in_err-entry.ensures.reads (λ k ds v o. o_rule o)

pub returns : goal.returns
returns c = record { reads = λ k ds v o. o_rule (c.in_ok-entry.ensures.reads _ _ _ o); shorter = omega (arith, c.in_ok-entry.ensures.shorter) }
