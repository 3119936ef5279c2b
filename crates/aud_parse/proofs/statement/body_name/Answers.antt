use Rattle.std.proofs.Common.{refl, arith}
use Rattle.aud_parse.proofs.Completing.{exit_among, ends_among}
use Rattle.aud_parse.proofs.statement.body_name.Goals as goal

pub returns-in_err-rest : goal.returns-in_err-rest
returns-in_err-rest c = λ room. exit_among _ _ _ c.from_residual.ensures.1 (c.in_err-rest.ensures.reads room) (λ k ds v o. o)

pub returns-in_err-name : goal.returns-in_err-name
returns-in_err-name c = λ room. exit_among _ _ _ c.from_residual-in_err-name.ensures.1 (c.in_err-name.ensures.reads room) (λ k ds v o. c.in_ok-rest.ensures.reads _ _ _ _ o)

pub returns : goal.returns
returns c = λ room. ends_among c.args.start c.in_ok-name.rest _ _ c.ended.ensures (omega (arith, c.in_ok-rest.ensures.shorter, c.in_ok-name.ensures.shorter)) (λ k ds v o. c.in_ok-rest.ensures.reads _ _ _ _ (c.in_ok-name.ensures.reads _ _ _ _ o)) (λ ds. refl)
