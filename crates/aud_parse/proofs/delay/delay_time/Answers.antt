use Rattle.std.proofs.Common.{sym, ◌∙◌, arith}
use Rattle.aud_grammar.specs.Actions.{token}
use Rattle.aud_grammar.specs.Ties.Outcome.{o_rule, o_this, o_other, o_last}
use Rattle.aud_parse.proofs.Completing.{exit_in}
use Rattle.aud_parse.proofs.Selects.{seconds_items, duration_items}
use Rattle.aud_parse.proofs.delay.delay_time.Goals as goal

pub returns-in_err-t : goal.returns-in_err-t
returns-in_err-t c = exit_in _ _ _ c.from_residual.ensures.1 (c.in_err-t.ensures.reads c.args.room) (λ k ds v o. o_rule (o_this (sym c.is.ensures ∙ c.if-is.true) (o_rule (o_rule o))))

pub returns-then-is : goal.returns-then-is
returns-then-is c = record {
  reads = λ k ds v o. (
    _,
    o_rule (o_this (sym c.is.ensures ∙ c.if-is.true) (o_rule (o_rule (c.in_ok-t.ensures.reads _ _ _ _ o)))),
    seconds_items c.in_ok-delay.delay (token c.args.begin.now) (token c.in_ok-t.t.now) ds (rw (sym c.at.ensures, sym c.real_of.ensures) c.in_ok-delay.ensures),
  );
  shorter = omega (arith, c.in_ok-t.ensures.shorter);
}

pub returns-in_err-named : goal.returns-in_err-named
returns-in_err-named c = exit_in _ _ _ c.from_residual-in_err-named.ensures.1 (c.in_err-named.ensures.reads c.args.room) (λ k ds v o. o_rule (o_other (sym c.is.ensures ∙ c.if-is.false) (o_last (o_rule o))))

pub returns-in_err-value : goal.returns-in_err-value
returns-in_err-value c = exit_in _ _ _ c.from_residual-in_err-value.ensures.1 c.in_err-value.ensures.reads (λ k ds v o. o_rule (o_other (sym c.is.ensures ∙ c.if-is.false) (o_last (o_rule (c.in_ok-named.ensures.reads _ _ _ _ o)))))

pub returns : goal.returns
returns c = record {
  reads = λ k ds v o. (
    _,
    o_rule (o_other (sym c.is.ensures ∙ c.if-is.false) (o_last (o_rule (c.in_ok-named.ensures.reads _ _ _ _ (c.in_ok-value.ensures.reads _ _ _ o))))),
    duration_items c.in_ok-delay-2.delay (token c.args.begin.now) (token c.in_ok-named.named.now) c.in_ok-value.value ds (rw (sym c.at-2.ensures, sym c.at-3.ensures) c.in_ok-delay-2.ensures),
  );
  shorter = omega (arith, c.in_ok-named.ensures.shorter, c.in_ok-value.ensures.shorter);
}
