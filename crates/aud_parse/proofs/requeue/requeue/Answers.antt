use Rattle.std.proofs.Common.{ap, ◌∙◌, arith}
use Rattle.aud_syntax.specs.declared.tree.Statement.TheVariants as statement
use Rattle.aud_grammar.specs.Actions.{token}
use Rattle.aud_grammar.specs.Ties.Outcome.{o_rule}
use Rattle.aud_cursor.proofs.Passing.{exit}
use Rattle.aud_parse_expr.proofs.Joined.{ends}
use Rattle.aud_parse.proofs.Rolls.{requeue_items}
use Rattle.aud_parse.proofs.requeue.requeue.Goals as goal

pub returns-in_err-begin : goal.returns-in_err-begin
returns-in_err-begin c = exit _ _ _ c.from_residual.ensures.1 (c.in_err-begin.ensures.reads c.args.room) (λ k ds v o. o_rule o)

pub returns-in_err-target : goal.returns-in_err-target
returns-in_err-target c = exit _ _ _ c.from_residual-in_err-target.ensures.1 c.in_err-target.ensures.reads (λ k ds v o. o_rule (c.in_ok-begin.ensures.reads _ _ _ _ o))

pub returns-in_err-with_abort : goal.returns-in_err-with_abort
returns-in_err-with_abort c = exit _ _ _ c.from_residual-in_err-with_abort.ensures.1 (c.in_err-with_abort.ensures.reads c.args.room) (λ k ds v o. o_rule (c.in_ok-begin.ensures.reads _ _ _ _ (c.in_ok-target.ensures.reads _ _ _ o)))

pub returns : goal.returns
returns c =
    ends c.args.start c.in_ok-with_abort.rest _ _ c.ended.ensures (omega (arith, c.in_ok-begin.ensures.shorter, c.in_ok-target.ensures.shorter, c.in_ok-with_abort.ensures.shorter))
    (λ k ds v o. o_rule (c.in_ok-begin.ensures.reads _ _ _ _ (c.in_ok-target.ensures.reads _ _ _ (c.in_ok-with_abort.ensures.reads _ _ _ _ o))))
    (λ ds. requeue_items c.in_ok-statement.statement (token c.in_ok-begin.begin.now) c.in_ok-target.target c.in_ok-with_abort.with_abort ds (c.in_ok-statement.ensures ∙ ap (λ z. statement.Requeue z c.in_ok-target.target c.in_ok-with_abort.with_abort) c.at.ensures))
