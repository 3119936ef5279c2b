use Rattle.aud_grammar.specs.Ties.Outcome.{o_rule}
use Rattle.std.proofs.Common.{arith}
use Rattle.aud_cursor.proofs.Passing.{exit_flat}
use Rattle.aud_parse_expr.proofs.Joined.{ends_flat}
use Rattle.aud_parse.proofs.Selects.{terminate_items}
use Rattle.aud_parse.proofs.select.terminate_alternative.Goals as goal

pub returns-in_err-rest : goal.returns-in_err-rest
returns-in_err-rest c = exit_flat _ _ _ c.from_residual.ensures.1 (λ room. c.in_err-rest.ensures.reads room) (λ room k ds v o. o_rule o)

pub returns : goal.returns
returns c =
    ends_flat c.args.start c.in_ok-rest.rest _ _ c.ended.ensures (omega (arith, c.in_ok-rest.ensures.shorter)) (λ room k ds v o. o_rule (c.in_ok-rest.ensures.reads _ _ _ _ o))
    (λ ds. terminate_items c.in_ok-alternative.alternative ds c.in_ok-alternative.ensures)
