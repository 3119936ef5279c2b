use Rattle.std.proofs.Common.{sym, ◌∙◌, rules}
use Rattle.aud_grammar.specs.Ties.Outcome.{o_yes, o_no}
use Rattle.aud_cursor.proofs.Passing.{exit_flat}
use Rattle.aud_cursor.proofs.leaf.opt_ident.Goals as goal

pub returns-in_err-name : goal.returns-in_err-name
returns-in_err-name c = exit_flat _ _ _ c.from_residual.ensures.1 (λ room. c.in_err-name.ensures.reads room) (λ room k ds v o. o_yes (sym c.is.ensures ∙ c.if-is.true) o)

pub returns-then-is : goal.returns-then-is
returns-then-is c = record { reads = λ room k ds v o. o_yes (sym c.is.ensures ∙ c.if-is.true) (c.in_ok-name.ensures.reads _ _ _ _ o); shorter = search rules }

pub returns : goal.returns
returns c = record { reads = λ room k ds v o. o_no (sym c.is.ensures ∙ c.if-is.false) o; shorter = search rules }
