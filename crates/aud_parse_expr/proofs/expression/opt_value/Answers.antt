use Rattle.std.proofs.Common.{rules, arith}
use Rattle.aud_grammar.specs.Ties.Outcome.{o_yes, o_no}
use Rattle.aud_cursor.proofs.Passing.{exit}
use Rattle.aud_connective.proofs.Connecting.{next_so}
use Rattle.aud_parse_expr.proofs.expression.opt_value.Goals as goal

pub returns-in_err-value : goal.returns-in_err-value
returns-in_err-value c = λ p h. exit _ _ _ c.from_residual.ensures.1 (c.in_err-value.ensures p h).reads (λ k ds v o. o_yes (next_so c.args.start.tokens.now h.begins c.is.ensures c.if-is.true) o)

pub returns-then-is : goal.returns-then-is
returns-then-is c = λ p h. record {
  reads = λ k ds v o. rw c.into_inner.ensures (o_yes (next_so c.args.start.tokens.now h.begins c.is.ensures c.if-is.true) ((c.in_ok-value.ensures p h).reads _ _ _ o));
  shorter = omega (arith, (c.in_ok-value.ensures p h).shorter);
}

pub returns : goal.returns
returns c = λ p h. record { reads = λ k ds v o. o_no (next_so c.args.start.tokens.now h.begins c.is.ensures c.if-is.false) o; shorter = search rules }
