use Rattle.std.proofs.Common.{sym, ◌∙◌}
use Rattle.aud_grammar.specs.Ties.Outcome.{o_rule, o_this, o_other, o_last}
use Rattle.aud_cursor.proofs.Passing.{hand_on}
use Rattle.aud_cursor.proofs.choice_list.choices.Goals as goal

pub returns-then-is : goal.returns-then-is
returns-then-is c = record { reads = λ room. hand_on _ c.args.start _ (c.others.ensures.reads room) (λ k ds v o. o_rule (o_this (sym c.is.ensures ∙ c.if-is.true) o)); shorter = c.others.ensures.shorter }

pub returns : goal.returns
returns c = record { reads = λ room. hand_on _ c.args.start _ (c.named.ensures.reads room) (λ k ds v o. o_rule (o_other (sym c.is.ensures ∙ c.if-is.false) (o_last o))); shorter = c.named.ensures.shorter }
