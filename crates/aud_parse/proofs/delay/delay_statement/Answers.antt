use Rattle.std.proofs.Common.{arith}
use Rattle.aud_grammar.specs.Ties.Outcome.{o_rule}
use Rattle.aud_cursor.proofs.Passing.{to, exit}
use Rattle.aud_parse.proofs.Selects.{delaying_items}
use Rattle.aud_parse.proofs.delay.delay_statement.Goals as goal

pub returns-in_err-delay : goal.returns-in_err-delay
returns-in_err-delay c = exit _ _ _ c.from_residual.ensures.1 c.in_err-delay.ensures.reads (λ k ds v o. o_rule o)

pub returns : goal.returns
returns c = record { reads = λ k ds v o. to (o_rule (c.in_ok-delay.ensures.reads _ _ _ o)) (delaying_items c.in_ok-statement.statement c.in_ok-delay.delay ds c.in_ok-statement.ensures); shorter = omega (arith, c.in_ok-delay.ensures.shorter) }
