use Rattle.std.proofs.Common.{rules}
use Rattle.aud_grammar.specs.Ties.Outcome.{o_rule, o_more}
use Rattle.aud_cursor.proofs.Passing.{exit, turns_none, turns_push, turns_over, word_passes}
use Rattle.aud_parse.proofs.abort.more_names.Goals as goal

pub turns-init : goal.turns-init
turns-init c = record { turns = rw c.new-all.ensures.items (turns_none _ _ _ _); shorter = search rules }

pub turns-preserved : goal.turns-preserved
turns-preserved c = record { turns = turns_push c.in_ok-next.next.value c.turns.invariant.turns c.in-Some.ensures.reads.0 (λ k ds v o. o_rule (word_passes c.in-Some.ensures.reads _ _ _ (c.in_ok-next.ensures.reads _ _ _ o))) c.in_ok-all.ensures; shorter = search rules }

pub returns-in_err-next : goal.returns-in_err-next
returns-in_err-next c = exit _ _ _ c.from_residual.ensures.1 c.in_err-next.ensures.reads (λ k ds v o. c.turns.invariant.turns.by _ _ _ (o_more c.in-Some.ensures.reads.0 (o_rule (word_passes c.in-Some.ensures.reads _ _ _ o))))

pub returns : goal.returns
returns c = turns_over c.turns.invariant.turns c.in_default.ensures.reads c.turns.invariant.shorter
