use Rattle.std.proofs.Common.{sym, ◌∙◌, rules}
use Rattle.aud_grammar.specs.Ties.Outcome.{o_yes, o_no}
use Rattle.aud_cursor.proofs.Passing.{exit}
use Rattle.aud_parse_expr.proofs.expression.opt_expression.Goals as goal

pub returns-in_err-value : goal.returns-in_err-value
returns-in_err-value c = exit _ _ _ c.from_residual.ensures.1 c.in_err-value.ensures.reads (λ k ds v o. o_yes (sym c.is_one_of.ensures ∙ c.if-is_one_of.true) o)

pub returns-then-is_one_of : goal.returns-then-is_one_of
returns-then-is_one_of c = record { reads = λ k ds v o. rw c.into_inner.ensures (o_yes (sym c.is_one_of.ensures ∙ c.if-is_one_of.true) (c.in_ok-value.ensures.reads _ _ _ o)); shorter = search rules }

pub returns : goal.returns
returns c = record { reads = λ k ds v o. o_no (sym c.is_one_of.ensures ∙ c.if-is_one_of.false) o; shorter = search rules }
