use Rattle.std.proofs.Common.{sym, ◌∙◌, arith, rules}
use Rattle.aud_grammar.specs.Ties.Outcome.{o_rule, o_this, o_other, o_last}
use Rattle.aud_cursor.proofs.Passing.{exit, hand_on}
use Rattle.aud_parse.proofs.protected.private_item.Goals as goal

pub returns-in_err-operation : goal.returns-in_err-operation
returns-in_err-operation c = exit _ _ _ c.from_residual.ensures.1 c.in_err-operation.ensures.reads (λ k ds v o. o_rule (o_this (sym c.is_one_of.ensures ∙ c.if-is_one_of.true) (o_rule o)))

pub returns-then-is_one_of : goal.returns-then-is_one_of
returns-then-is_one_of c = record { reads = λ k ds v o. o_rule (o_this (sym c.is_one_of.ensures ∙ c.if-is_one_of.true) (o_rule (c.in_ok-operation.ensures.reads _ _ _ o))); shorter = omega (arith, c.in_ok-operation.ensures.shorter) }

pub returns : goal.returns
returns c = record { reads = hand_on _ c.args.start _ c.components.ensures.reads (λ k ds v o. o_rule (o_other (sym c.is_one_of.ensures ∙ c.if-is_one_of.false) (o_last o))); shorter = search rules }
