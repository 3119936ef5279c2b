use Rattle.std.proofs.Common.{ap, ◌∙◌, arith}
use Rattle.aud_grammar.specs.Grammar as g
use Rattle.aud_syntax.specs.declared.tree.Statement.TheVariants as statement
use Rattle.aud_grammar.specs.Actions.{token}
use Rattle.aud_grammar.specs.Ties.Outcome.{o_rule}
use Rattle.aud_cursor.proofs.Passing.{exit}
use Rattle.aud_cursor.proofs.Valued.{when}
use Rattle.aud_parse_expr.proofs.Joined.{ends}
use Rattle.aud_parse.proofs.Rolls.{boxed_exit_items}
use Rattle.aud_parse.proofs.statement.exit.Goals as goal

pub returns-in_err-t : goal.returns-in_err-t
returns-in_err-t c = exit _ _ _ c.from_residual.ensures.1 (c.in_err-t.ensures.reads c.args.room) (λ k ds v o. o_rule o)

pub returns-in_err-label : goal.returns-in_err-label
returns-in_err-label c = exit _ _ _ c.from_residual-in_err-label.ensures.1 (c.in_err-label.ensures.reads c.args.room) (λ k ds v o. o_rule (c.in_ok-t.ensures.reads _ _ _ _ o))

pub returns-in_err-condition : goal.returns-in_err-condition
returns-in_err-condition c = exit _ _ _ c.from_residual-in_err-condition.ensures.1 (c.in_err-condition.ensures g.When when).reads (λ k ds v o. o_rule (c.in_ok-t.ensures.reads _ _ _ _ (c.in_ok-label.ensures.reads _ _ _ _ o)))

pub returns : goal.returns
returns c =
    ends c.args.start c.in_ok-condition.rest _ _ c.ended.ensures (omega (arith, c.in_ok-t.ensures.shorter, c.in_ok-label.ensures.shorter, (c.in_ok-condition.ensures g.When when).shorter)) (λ k ds v o. o_rule (c.in_ok-t.ensures.reads _ _ _ _ (c.in_ok-label.ensures.reads _ _ _ _ ((c.in_ok-condition.ensures g.When when).reads _ _ _ o))))
    (λ ds. boxed_exit_items c.in_ok-statement.statement (token c.in_ok-t.t.now) c.in_ok-label.label c.in_ok-condition.condition ds (c.in_ok-statement.ensures ∙ ap (λ z. statement.Exit z c.in_ok-label.label c.in_ok-condition.condition) c.at.ensures))
