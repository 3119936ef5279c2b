use Rattle.std.proofs.Common.{arith}
use Rattle.aud_grammar.specs.Actions.{token}
use Rattle.aud_grammar.specs.Ties.Outcome.{o_rule}
use Rattle.aud_cursor.proofs.Passing.{to, exit}
use Rattle.aud_parse.proofs.Rolls.{while_items}
use Rattle.aud_parse.proofs.scheme.while_scheme.Goals as goal

pub returns-in_err-t : goal.returns-in_err-t
returns-in_err-t c = exit _ _ _ c.from_residual.ensures.1 (c.in_err-t.ensures.reads c.args.room) (λ k ds v o. o_rule o)

pub returns-in_err-condition : goal.returns-in_err-condition
returns-in_err-condition c = exit _ _ _ c.from_residual-in_err-condition.ensures.1 c.in_err-condition.ensures.reads (λ k ds v o. o_rule (c.in_ok-t.ensures.reads _ _ _ _ o))

pub returns : goal.returns
returns c = record { reads = λ k ds v o. rw c.at.ensures (to (o_rule (c.in_ok-t.ensures.reads _ _ _ _ (c.in_ok-condition.ensures.reads _ _ _ o))) (while_items c.in_ok-boxed.boxed (token c.in_ok-t.t.now) c.in_ok-condition.condition _ ds c.in_ok-boxed.ensures c.into_inner.ensures)); shorter = omega (arith, c.in_ok-t.ensures.shorter, c.in_ok-condition.ensures.shorter) }
