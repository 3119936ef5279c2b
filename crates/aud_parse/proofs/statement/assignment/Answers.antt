use Rattle.std.proofs.Common.{refl, rules}
use Rattle.aud_grammar.specs.Ties.Outcome.{o_rule}
use Rattle.aud_cursor.proofs.Passing.{exit}
use Rattle.aud_parse_expr.proofs.Joined.{ends}
use Rattle.aud_parse.proofs.statement.assignment.Goals as goal

pub returns-in_err-rest : goal.returns-in_err-rest
returns-in_err-rest c = exit _ _ _ c.from_residual.ensures.1 (c.in_err-rest.ensures.reads c.args.room) (λ k ds v o. o_rule o)

pub returns-in_err-value : goal.returns-in_err-value
returns-in_err-value c = exit _ _ _ c.from_residual-in_err-value.ensures.1 c.in_err-value.ensures.reads (λ k ds v o. o_rule (c.in_ok-rest.ensures.reads _ _ _ _ o))

pub returns : goal.returns
returns c = ends c.args.start c.in_ok-value.rest _ _ c.ended.ensures (search rules) (λ k ds v o. o_rule (c.in_ok-rest.ensures.reads _ _ _ _ (c.in_ok-value.ensures.reads _ _ _ o))) (λ ds. rw c.into_inner.ensures refl)
