use Rattle.std.proofs.Common.{sym, ◌∙◌, rules}
use Rattle.aud_grammar.specs.Ties.Outcome.{o_rule, o_this, o_other, o_last}
use Rattle.aud_cursor.proofs.Passing.{hand_on}
use Rattle.aud_parse.proofs.operation.operation.Goals as goal

pub returns-then-is : goal.returns-then-is
returns-then-is c = record { reads = hand_on _ c.args.start _ c.entry_operation.ensures.reads (λ k ds v o. o_rule (o_this (sym c.is.ensures ∙ c.if-is.true) o)); shorter = search rules }

pub returns-then-is-2 : goal.returns-then-is-2
returns-then-is-2 c = record { reads = hand_on _ c.args.start _ c.procedure_operation.ensures.reads (λ k ds v o. o_rule (o_other (sym c.is.ensures ∙ c.if-is.false) (o_this (sym c.is-2.ensures ∙ c.if-is-2.true) o))); shorter = search rules }

pub returns : goal.returns
returns c = record { reads = hand_on _ c.args.start _ c.function_operation.ensures.reads (λ k ds v o. o_rule (o_other (sym c.is.ensures ∙ c.if-is.false) (o_other (sym c.is-2.ensures ∙ c.if-is-2.false) (o_last o)))); shorter = search rules }
