use Rattle.std.proofs.Common.{arith}
use Rattle.aud_parse.proofs.Completing.{exit_among}
use Rattle.aud_parse.proofs.scheme.range.Goals as goal

pub returns-in_err-low : goal.returns-in_err-low
returns-in_err-low c = exit_among _ _ _ c.from_residual.ensures.1 c.in_err-low.ensures.reads (λ k ds v o. o)

pub returns-in_err-rest : goal.returns-in_err-rest
returns-in_err-rest c = exit_among _ _ _ c.from_residual-in_err-rest.ensures.1 (c.in_err-rest.ensures.reads c.args.room) (λ k ds v o. c.in_ok-low.ensures.reads _ _ _ o)

pub returns-in_err-high : goal.returns-in_err-high
returns-in_err-high c = exit_among _ _ _ c.from_residual-in_err-high.ensures.1 c.in_err-high.ensures.reads (λ k ds v o. c.in_ok-low.ensures.reads _ _ _ (c.in_ok-rest.ensures.reads _ _ _ _ o))

pub returns : goal.returns
returns c = record { reads = λ k ds v o. c.in_ok-low.ensures.reads _ _ _ (c.in_ok-rest.ensures.reads _ _ _ _ (c.in_ok-high.ensures.reads _ _ _ o)); shorter = omega (arith, c.in_ok-low.ensures.shorter, c.in_ok-rest.ensures.shorter, c.in_ok-high.ensures.shorter) }
