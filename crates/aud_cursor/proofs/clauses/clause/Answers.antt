use Rattle.std.proofs.Common.{sym, ◌∙◌, rules}
use Rattle.aud_grammar.specs.Ties.Outcome.{o_rule, o_this, o_other, o_last}
use Rattle.aud_cursor.proofs.Passing.{exit_flat}
use Rattle.aud_cursor.proofs.clauses.clause.Goals as goal

pub returns-in_err-t : goal.returns-in_err-t
returns-in_err-t c = exit_flat _ _ _ c.from_residual.ensures.1 (λ room. c.in_err-t.ensures.reads room) (λ room k ds v o. o_rule (o_this (sym c.is.ensures ∙ c.if-is.true) (o_rule o)))

pub returns-in_err-rest : goal.returns-in_err-rest
returns-in_err-rest c = exit_flat _ _ _ c.from_residual-in_err-rest.ensures.1 (λ room. c.in_err-rest.ensures.reads room) (λ room k ds v o. o_rule (o_this (sym c.is.ensures ∙ c.if-is.true) (o_rule (c.in_ok-t.ensures.reads _ _ _ _ o))))

pub returns-then-is : goal.returns-then-is
returns-then-is c = record { reads = λ room k ds v o. rw c.at.ensures (o_rule (o_this (sym c.is.ensures ∙ c.if-is.true) (o_rule (c.in_ok-t.ensures.reads _ _ _ _ (c.in_ok-rest.ensures.reads _ _ _ _ o))))); shorter = search rules }

pub returns-in_err-t-2 : goal.returns-in_err-t-2
returns-in_err-t-2 c = exit_flat _ _ _ c.from_residual-in_err-t-2.ensures.1 (λ room. c.in_err-t-2.ensures.reads room) (λ room k ds v o. o_rule (o_other (sym c.is.ensures ∙ c.if-is.false) (o_last (o_rule o))))

pub returns-in_err-rest-2 : goal.returns-in_err-rest-2
returns-in_err-rest-2 c = exit_flat _ _ _ c.from_residual-in_err-rest-2.ensures.1 (λ room. c.in_err-rest-2.ensures.reads room) (λ room k ds v o. o_rule (o_other (sym c.is.ensures ∙ c.if-is.false) (o_last (o_rule (c.in_ok-t-2.ensures.reads _ _ _ _ o)))))

pub returns : goal.returns
returns c = record { reads = λ room k ds v o. rw c.at-2.ensures (o_rule (o_other (sym c.is.ensures ∙ c.if-is.false) (o_last (o_rule (c.in_ok-t-2.ensures.reads _ _ _ _ (c.in_ok-rest-2.ensures.reads _ _ _ _ o)))))); shorter = search rules }
