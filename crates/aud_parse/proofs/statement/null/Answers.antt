use Rattle.std.proofs.Common.{rules}
use Rattle.aud_grammar.specs.Ties.Outcome.{o_rule}
use Rattle.aud_cursor.proofs.Passing.{exit_flat}
use Rattle.aud_parse_expr.proofs.Joined.{ends_flat}
use Rattle.aud_parse.proofs.Rolls.{boxed_items}
use Rattle.aud_parse.proofs.statement.null.Goals as goal

pub returns-in_err-t : goal.returns-in_err-t
returns-in_err-t c = exit_flat _ _ _ c.from_residual.ensures.1 (λ room. c.in_err-t.ensures.reads room) (λ room k ds v o. o_rule o)

pub returns : goal.returns
returns c = ends_flat c.args.start c.in_ok-t.rest _ _ c.ended.ensures (search rules) (λ room k ds v o. o_rule (c.in_ok-t.ensures.reads _ _ _ _ o)) (λ ds. rw c.at.ensures at (boxed_items c.in_ok-statement.statement _ ds c.in_ok-statement.ensures))
