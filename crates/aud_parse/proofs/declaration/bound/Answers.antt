use Rattle.std.proofs.Common.{refl, arith}
use Rattle.aud_grammar.specs.Grammar as g
use Rattle.aud_grammar.specs.Actions.{token}
use Rattle.aud_grammar.specs.Ties.Outcome.{o_rule}
use Rattle.aud_cursor.proofs.Passing.{to, exit_flat}
use Rattle.aud_cursor.proofs.Valued.{negated}
use Rattle.aud_parse.proofs.Rolls.{bound_items}
use Rattle.aud_parse.proofs.declaration.bound.Goals as goal

pub returns-in_err-t : goal.returns-in_err-t
returns-in_err-t c = exit_flat _ _ _ c.from_residual.ensures.1 (λ room. c.in_err-t.ensures.reads room) (λ room k ds v o. o_rule ((c.mark-negative.ensures g.Negated negated).reads _ _ _ _ (o_rule o)))

pub returns : goal.returns
returns c = record {
  reads = λ room k ds v o. to (o_rule ((c.mark-negative.ensures g.Negated negated).reads _ _ _ _ (o_rule (c.in_ok-t.ensures.reads _ _ _ _ o)))) (bound_items c.in_ok-boxed.boxed _ (token c.in_ok-t.t.now) _ ds c.in_ok-boxed.ensures (rw (c.number_value-value.ensures, c.text.ensures, c.at.ensures) refl));
  shorter = omega (arith, (c.mark-negative.ensures g.Negated negated).shorter, c.in_ok-t.ensures.shorter);
}
