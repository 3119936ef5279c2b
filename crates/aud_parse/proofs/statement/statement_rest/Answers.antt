use Rattle.std.proofs.Common.{sym, ◌∙◌, arith}
use Rattle.aud_grammar.specs.Ties.Outcome.{o_rule, o_this, o_other, o_last}
use Rattle.aud_cursor.proofs.Passing.{exit}
use Rattle.aud_parse.proofs.statement.statement_rest.Goals as goal

pub returns-in_err-value : goal.returns-in_err-value
returns-in_err-value c = exit _ _ _ c.from_residual.ensures.1 c.in_err-value.ensures.reads (λ k ds v o. o_rule (o_this (sym c.is.ensures ∙ c.if-is.true) o))

pub returns-then-is : goal.returns-then-is
returns-then-is c = record { reads = λ k ds v o. o_rule (o_this (sym c.is.ensures ∙ c.if-is.true) (c.in_ok-value.ensures.reads _ _ _ o)); shorter = omega (arith, c.in_ok-value.ensures.shorter) }

pub returns-in_err-rest : goal.returns-in_err-rest
returns-in_err-rest c = exit _ _ _ c.from_residual-in_err-rest.ensures.1 (c.in_err-rest.ensures.reads c.args.room) (λ k ds v o. o_rule (o_other (sym c.is.ensures ∙ c.if-is.false) (o_last (o_rule o))))

pub returns : goal.returns
returns c = record { reads = λ k ds v o. o_rule (o_other (sym c.is.ensures ∙ c.if-is.false) (o_last (o_rule (c.in_ok-rest.ensures.reads _ _ _ _ o)))); shorter = omega (arith, c.in_ok-rest.ensures.shorter) }
