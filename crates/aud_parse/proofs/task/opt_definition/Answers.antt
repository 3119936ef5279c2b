use Rattle.std.proofs.Common.{sym, ◌∙◌, arith}
use Rattle.aud_grammar.specs.Ties.Outcome.{o_yes, o_no}
use Rattle.aud_cursor.proofs.Passing.{exit}
use Rattle.aud_parse.proofs.task.opt_definition.Goals as goal

pub returns-in_err-defined : goal.returns-in_err-defined
returns-in_err-defined c = exit _ _ _ c.from_residual.ensures.1 c.in_err-defined.ensures.reads (λ k ds v o. o_yes (sym c.is.ensures ∙ c.if-is.true) o)

pub returns-then-is : goal.returns-then-is
returns-then-is c = record { reads = λ k ds v o. o_yes (sym c.is.ensures ∙ c.if-is.true) (c.in_ok-defined.ensures.reads _ _ _ o); shorter = omega (arith, c.in_ok-defined.ensures.shorter) }

pub returns : goal.returns
returns c = record { reads = λ k ds v o. o_no (sym c.is.ensures ∙ c.if-is.false) o; shorter = omega arith }
