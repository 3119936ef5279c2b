use Rattle.std.proofs.Common.{ap, ◌∙◌, rules}
use Rattle.aud_syntax.specs.declared.tree.Statement.TheVariants as statement
use Rattle.aud_grammar.specs.Actions.{token}
use Rattle.aud_grammar.specs.Ties.Outcome.{o_rule}
use Rattle.aud_cursor.proofs.Passing.{exit_flat}
use Rattle.aud_parse_expr.proofs.Joined.{ends_flat}
use Rattle.aud_parse.proofs.Rolls.{raise_items}
use Rattle.aud_parse.proofs.statement.raise.Goals as goal

pub returns-in_err-t : goal.returns-in_err-t
returns-in_err-t c = exit_flat _ _ _ c.from_residual.ensures.1 (λ room. c.in_err-t.ensures.reads room) (λ room k ds v o. o_rule o)

pub returns-in_err-exception : goal.returns-in_err-exception
returns-in_err-exception c = exit_flat _ _ _ c.from_residual-in_err-exception.ensures.1 (λ room. c.in_err-exception.ensures.reads room) (λ room k ds v o. o_rule (c.in_ok-t.ensures.reads _ _ _ _ o))

pub returns : goal.returns
returns c = ends_flat c.args.start c.in_ok-exception.rest _ _ c.ended.ensures (search rules) (λ room k ds v o. o_rule (c.in_ok-t.ensures.reads _ _ _ _ (c.in_ok-exception.ensures.reads _ _ _ _ o))) (λ ds. raise_items c.in_ok-statement.statement (token c.in_ok-t.t.now) c.in_ok-exception.exception ds (c.in_ok-statement.ensures ∙ ap (λ z. statement.Raise z c.in_ok-exception.exception) c.at.ensures))
