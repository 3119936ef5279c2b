use Rattle.std.proofs.Common.{sym, arith}
use Rattle.aud_grammar.specs.Actions.{token}
use Rattle.aud_grammar.specs.Ties.Outcome.{o_rule}
use Rattle.aud_cursor.proofs.Passing.{exit}
use Rattle.aud_parse_expr.proofs.Joined.{ends}
use Rattle.aud_parse.proofs.Rolls.{abort_items}
use Rattle.aud_parse.proofs.abort.abort.Goals as goal

pub returns-in_err-begin : goal.returns-in_err-begin
returns-in_err-begin c = exit _ _ _ c.from_residual.ensures.1 (c.in_err-begin.ensures.reads c.args.room) (λ k ds v o. o_rule o)

pub returns-in_err-first : goal.returns-in_err-first
returns-in_err-first c = exit _ _ _ c.from_residual-in_err-first.ensures.1 c.in_err-first.ensures.reads (λ k ds v o. o_rule (c.in_ok-begin.ensures.reads _ _ _ _ o))

pub returns-in_err-others : goal.returns-in_err-others
returns-in_err-others c = exit _ _ _ c.from_residual-in_err-others.ensures.1 c.in_err-others.ensures.reads (λ k ds v o. o_rule (c.in_ok-begin.ensures.reads _ _ _ _ (c.in_ok-first.ensures.reads _ _ _ o)))

pub returns : goal.returns
returns c =
    ends c.args.start c.in_ok-others.rest _ _ c.ended.ensures (omega (arith, c.in_ok-begin.ensures.shorter, c.in_ok-first.ensures.shorter, c.in_ok-others.ensures.shorter))
    (λ k ds v o. o_rule (c.in_ok-begin.ensures.reads _ _ _ _ (c.in_ok-first.ensures.reads _ _ _ (c.in_ok-others.ensures.reads _ _ _ o))))
    (λ ds. abort_items c.in_ok-statement.statement (token c.in_ok-begin.begin.now) c.in_ok-first.first c.in_ok-others.others ds (rw (sym c.at.ensures) c.in_ok-statement.ensures))
