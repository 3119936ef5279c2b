use Rattle.std.proofs.Common.{[], ◌∷◌, sym, arith}
use Rattle.aud_lex.specs.declared.token.Kind.TheVariants as kind
use Rattle.aud_grammar.specs.Grammar as g
use Rattle.aud_grammar.specs.Actions.{token}
use Rattle.aud_grammar.specs.Ties.Outcome.{o_rule, o_this, o_other, o_last, o_yes, o_no}
use Rattle.aud_cursor.proofs.Passing.{to, token_passes, in_this, in_others, in_none}
use Rattle.aud_cursor.proofs.Valued.{in_out}
use Rattle.aud_cursor.proofs.Rolls.{mode_items}
use Rattle.aud_cursor.proofs.mode.opt_mode.Goals as goal

pub returns-in-Some : goal.returns-in-Some
returns-in-Some c = record {
  reads = λ room k ds v o.
      to (o_yes (in_this kind.In (kind.Out ∷ []) c.args.start.tokens.now c.in-Some.ensures.reads.0) (o_rule (o_this c.in-Some.ensures.reads.0 (o_rule (token_passes c.in-Some.ensures.reads _ _ _ ((c.mark-out.ensures g.InOut in_out).reads _ _ _ _ o))))))
      (mode_items (token c.in-Some.t.now) _ c.in_mode.result ds (rw (sym c.at.ensures) c.in_mode.ensures));
  shorter = omega (arith, c.in-Some.ensures.shorter, (c.mark-out.ensures g.InOut in_out).shorter);
}

pub returns-in-Some-accept : goal.returns-in-Some-accept
returns-in-Some-accept c = record {
  reads = λ room k ds v o. rw c.at-in-Some-accept.ensures (o_yes (in_others kind.In (kind.Out ∷ []) c.args.start.tokens.now c.in-Some-accept.ensures.reads.0) (o_rule (o_other c.in_default.ensures.reads (o_last (o_rule (token_passes c.in-Some-accept.ensures.reads _ _ _ o))))));
  shorter = omega (arith, c.in-Some-accept.ensures.shorter);
}

pub returns : goal.returns
returns c = record { reads = λ room k ds v o. o_no (in_none kind.In (kind.Out ∷ []) c.args.start.tokens.now c.in_default.ensures.reads c.in_default-accept.ensures.reads) o; shorter = omega arith }
