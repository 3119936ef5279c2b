use Rattle.std.proofs.Common.{rules}
use Rattle.aud_cursor.proofs.Passing.{exit, hand_after}
use Rattle.aud_cursor.proofs.Valued.{valued}
use Rattle.aud_parse_expr.proofs.Joined.{fewer_still}
use Rattle.aud_parse_expr.proofs.expression.value.Goals as goal

pub returns-in_err-rest : goal.returns-in_err-rest
returns-in_err-rest c = λ p h. exit _ _ _ c.from_residual.ensures.1 (c.in_err-rest.ensures.reads c.args.room) (λ k ds v o. valued h o)

pub returns : goal.returns
returns c = λ p h. record {
  reads = hand_after _ c.args.start c.in_ok-rest.rest _ c.expression.ensures.reads (λ k ds v o. valued h (c.in_ok-rest.ensures.reads _ _ _ _ o));
  shorter = fewer_still c.args.start c.in_ok-rest.rest _ c.expression.ensures.shorter (search rules);
}
