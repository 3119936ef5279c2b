use Rattle.std.proofs.Common.{sym, ◌∙◌, arith}
use Rattle.aud_grammar.specs.Ties.Outcome.{o_rule, o_this, o_other, o_last}
use Rattle.aud_cursor.proofs.Passing.{exit}
use Rattle.aud_parse_expr.proofs.Joined.{at_room, joined, not_joined}
use Rattle.aud_parse.proofs.declaration.named.Goals as goal

pub returns-in_err-names : goal.returns-in_err-names
returns-in_err-names c = exit _ _ _ c.from_residual.ensures.1 (c.in_err-names.ensures.reads c.args.room) (λ k ds v o. o_rule o)

pub returns-in_err-rest : goal.returns-in_err-rest
returns-in_err-rest c = exit _ _ _ c.from_residual-in_err-rest.ensures.1 (c.in_err-rest.ensures.reads c.args.room) (λ k ds v o. o_rule (c.in_ok-names.ensures.reads _ _ _ _ o))

pub returns-in_err-names-2 : goal.returns-in_err-names-2
returns-in_err-names-2 c = exit _ _ _ c.from_residual-in_err-names-2.ensures.1 (not_joined _ _ c.in_err-names-2.ensures c.variable.ensures) (λ k ds v o. o_rule (c.in_ok-names.ensures.reads _ _ _ _ (c.in_ok-rest.ensures.reads _ _ _ _ (o_rule (o_this (sym c.is.ensures ∙ c.if-is.true) o)))))

pub returns-then-is : goal.returns-then-is
returns-then-is c =
    let j = joined _ c.in_ok-names-2.ensures c.variable.ensures in
    record { reads = λ k ds v o. rw j.first (o_rule (c.in_ok-names.ensures.reads _ _ _ _ (c.in_ok-rest.ensures.reads _ _ _ _ (o_rule (o_this (sym c.is.ensures ∙ c.if-is.true) (j.reads _ _ _ o)))))); shorter = omega (arith, c.in_ok-names.ensures.shorter, c.in_ok-rest.ensures.shorter) }

pub returns-in_err-names-3 : goal.returns-in_err-names-3
returns-in_err-names-3 c = exit _ _ _ c.from_residual-in_err-names-3.ensures.1 (not_joined _ _ c.in_err-names-3.ensures c.constant.ensures) (λ k ds v o. o_rule (c.in_ok-names.ensures.reads _ _ _ _ (c.in_ok-rest.ensures.reads _ _ _ _ (o_rule (o_other (sym c.is.ensures ∙ c.if-is.false) (o_this (sym c.is-2.ensures ∙ c.if-is-2.true) o))))))

pub returns-then-is-2 : goal.returns-then-is-2
returns-then-is-2 c =
    let j = joined _ c.in_ok-names-3.ensures c.constant.ensures in
    record { reads = λ k ds v o. rw j.first (o_rule (c.in_ok-names.ensures.reads _ _ _ _ (c.in_ok-rest.ensures.reads _ _ _ _ (o_rule (o_other (sym c.is.ensures ∙ c.if-is.false) (o_this (sym c.is-2.ensures ∙ c.if-is-2.true) (j.reads _ _ _ o))))))); shorter = omega (arith, c.in_ok-names.ensures.shorter, c.in_ok-rest.ensures.shorter) }

pub returns-in_err-names-4 : goal.returns-in_err-names-4
returns-in_err-names-4 c = exit _ _ _ c.from_residual-in_err-names-4.ensures.1 (not_joined _ _ c.in_err-names-4.ensures c.array.ensures) (λ k ds v o. o_rule (c.in_ok-names.ensures.reads _ _ _ _ (c.in_ok-rest.ensures.reads _ _ _ _ (o_rule (o_other (sym c.is.ensures ∙ c.if-is.false) (o_other (sym c.is-2.ensures ∙ c.if-is-2.false) (o_this (sym c.is-3.ensures ∙ c.if-is-3.true) o)))))))

pub returns-then-is-3 : goal.returns-then-is-3
returns-then-is-3 c =
    let j = joined _ c.in_ok-names-4.ensures c.array.ensures in
    record { reads = λ k ds v o. rw (c.into_inner-low.ensures, c.into_inner-high.ensures, j.first) (o_rule (c.in_ok-names.ensures.reads _ _ _ _ (c.in_ok-rest.ensures.reads _ _ _ _ (o_rule (o_other (sym c.is.ensures ∙ c.if-is.false) (o_other (sym c.is-2.ensures ∙ c.if-is-2.false) (o_this (sym c.is-3.ensures ∙ c.if-is-3.true) (j.reads _ _ _ o)))))))); shorter = omega (arith, c.in_ok-names.ensures.shorter, c.in_ok-rest.ensures.shorter) }

pub returns-in_err-names-5 : goal.returns-in_err-names-5
returns-in_err-names-5 c = exit _ _ _ c.from_residual-in_err-names-5.ensures.1 (not_joined _ _ c.in_err-names-5.ensures (at_room c.args.room c.exceptions.ensures)) (λ k ds v o. o_rule (c.in_ok-names.ensures.reads _ _ _ _ (c.in_ok-rest.ensures.reads _ _ _ _ (o_rule (o_other (sym c.is.ensures ∙ c.if-is.false) (o_other (sym c.is-2.ensures ∙ c.if-is-2.false) (o_other (sym c.is-3.ensures ∙ c.if-is-3.false) (o_last o))))))))

pub returns : goal.returns
returns c =
    let j = joined _ c.in_ok-names-5.ensures (at_room c.args.room c.exceptions.ensures) in
    record { reads = λ k ds v o. rw j.first (o_rule (c.in_ok-names.ensures.reads _ _ _ _ (c.in_ok-rest.ensures.reads _ _ _ _ (o_rule (o_other (sym c.is.ensures ∙ c.if-is.false) (o_other (sym c.is-2.ensures ∙ c.if-is-2.false) (o_other (sym c.is-3.ensures ∙ c.if-is-3.false) (o_last (j.reads _ _ _ o))))))))); shorter = omega (arith, c.in_ok-names.ensures.shorter, c.in_ok-rest.ensures.shorter) }
