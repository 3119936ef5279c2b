use Rattle.std.proofs.Common.{sym, ◌∙◌}
use Rattle.aud_grammar.specs.Ties.Outcome.{o_rule, o_this, o_other, o_last}
use Rattle.aud_parse.proofs.Heading.{head_on}
use Rattle.aud_parse.proofs.operation_head.operation_head.Goals as goal

pub returns-then-is : goal.returns-then-is
returns-then-is c = head_on c.args.start _ c.entry_head.ensures (λ k ds v o. o_rule (o_this (sym c.is.ensures ∙ c.if-is.true) o))

pub returns-then-is-2 : goal.returns-then-is-2
returns-then-is-2 c = head_on c.args.start _ c.procedure_head.ensures (λ k ds v o. o_rule (o_other (sym c.is.ensures ∙ c.if-is.false) (o_this (sym c.is-2.ensures ∙ c.if-is-2.true) o)))

pub returns : goal.returns
returns c = head_on c.args.start _ c.function_head.ensures (λ k ds v o. o_rule (o_other (sym c.is.ensures ∙ c.if-is.false) (o_other (sym c.is-2.ensures ∙ c.if-is-2.false) (o_last o))))
