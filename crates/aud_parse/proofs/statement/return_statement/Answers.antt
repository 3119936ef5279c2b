use Rattle.std.proofs.Common.{ap, ◌∙◌, rules}
use Rattle.aud_syntax.specs.declared.tree.Statement.TheVariants as statement
use Rattle.aud_grammar.specs.Actions.{token}
use Rattle.aud_grammar.specs.Ties.Outcome.{o_rule}
use Rattle.aud_cursor.proofs.Passing.{exit}
use Rattle.aud_parse_expr.proofs.Joined.{ends}
use Rattle.aud_parse.proofs.Rolls.{return_items}
use Rattle.aud_parse.proofs.statement.return_statement.Goals as goal

pub returns-in_err-t : goal.returns-in_err-t
returns-in_err-t c = exit _ _ _ c.from_residual.ensures.1 (c.in_err-t.ensures.reads c.args.room) (λ k ds v o. o_rule o)

pub returns-in_err-value : goal.returns-in_err-value
returns-in_err-value c = exit _ _ _ c.from_residual-in_err-value.ensures.1 c.in_err-value.ensures.reads (λ k ds v o. o_rule (c.in_ok-t.ensures.reads _ _ _ _ o))

pub returns : goal.returns
returns c =
    ends c.args.start c.in_ok-value.rest _ _ c.ended.ensures (search rules) (λ k ds v o. o_rule (c.in_ok-t.ensures.reads _ _ _ _ (c.in_ok-value.ensures.reads _ _ _ o)))
    (λ ds. return_items c.in_ok-statement.statement (token c.in_ok-t.t.now) c.in_ok-value.value ds (c.in_ok-statement.ensures ∙ ap (λ z. statement.Return z c.in_ok-value.value) c.at.ensures))
