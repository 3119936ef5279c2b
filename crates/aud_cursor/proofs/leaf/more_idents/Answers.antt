use Rattle.std.proofs.Common.{rules}
use Rattle.aud_grammar.specs.Ties.Outcome.{o_more}
use Rattle.aud_cursor.proofs.Passing.{exit_flat, word_passes, turns_none, turns_push, turns_end}
use Rattle.aud_cursor.proofs.Valued.{begun_so, valued}
use Rattle.aud_cursor.proofs.leaf.more_idents.Goals as goal

pub turns-init : goal.turns-init
turns-init c = record { turns = λ p h room. rw c.new-all.ensures.items (turns_none _ _ _ _); shorter = search rules }

pub turns-preserved : goal.turns-preserved
turns-preserved c = record { turns = λ p h room. turns_push _ (c.turns.invariant.turns p h room) (begun_so p _ h.begins c.in-Some.ensures.reads.0) (λ k ds v o. valued h (word_passes c.in-Some.ensures.reads _ _ _ (c.in_ok-name.ensures.reads _ _ _ _ o))) c.in_ok-push.ensures.items; shorter = search rules }

pub returns-in_err-name : goal.returns-in_err-name
returns-in_err-name c = λ p h. exit_flat _ _ _ c.from_residual.ensures.1 (λ room. c.in_err-name.ensures.reads room) (λ room k ds v o. (c.turns.invariant.turns p h room).by _ _ _ (o_more (begun_so p _ h.begins c.in-Some.ensures.reads.0) (valued h (word_passes c.in-Some.ensures.reads _ _ _ o))))

pub returns : goal.returns
returns c = λ p h. record { reads = λ room. turns_end (c.turns.invariant.turns p h room) (begun_so p _ h.begins c.in_default.ensures.reads); shorter = search rules }
