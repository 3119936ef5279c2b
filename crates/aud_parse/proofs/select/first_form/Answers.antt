use Rattle.std.proofs.Common.{sym, ◌∙◌}
use Rattle.aud_parse.specs.Ties.Alternatives.{b_accept, b_delay, b_terminate}
use Rattle.aud_parse.proofs.select.first_form.Goals as goal

pub returns-then-is : goal.returns-then-is
returns-then-is c = b_accept (sym c.is.ensures ∙ c.if-is.true)

pub returns-then-is-2 : goal.returns-then-is-2
returns-then-is-2 c = b_delay (sym c.is.ensures ∙ c.if-is.false) (sym c.is-2.ensures ∙ c.if-is-2.true)

pub returns : goal.returns
returns c = b_terminate (sym c.is.ensures ∙ c.if-is.false) (sym c.is-2.ensures ∙ c.if-is-2.false)
