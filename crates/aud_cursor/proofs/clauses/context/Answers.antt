use Rattle.std.proofs.Common.{sym, ◌∙◌, rules}
use Rattle.aud_grammar.specs.Ties.Outcome.{o_more}
use Rattle.aud_cursor.proofs.Passing.{exit_flat, turns_push, turns_end}
use Rattle.aud_cursor.proofs.clauses.context.Goals as goal

pub turns-preserved : goal.turns-preserved
turns-preserved c = record { turns = λ room. turns_push _ (c.turns.invariant.turns room) (sym c.is_one_of.ensures ∙ c.turns-test.true) (c.in_ok-next.ensures.reads room) c.in_ok-push.ensures.items; shorter = search rules }

pub returns-in_err-next : goal.returns-in_err-next
returns-in_err-next c = exit_flat _ _ _ c.from_residual.ensures.1 (λ room. c.in_err-next.ensures.reads room) (λ room k ds v o. (c.turns.invariant.turns room).by _ _ _ (o_more (sym c.is_one_of.ensures ∙ c.turns-test.true) o))

pub returns : goal.returns
returns c = record { reads = λ room. turns_end (c.turns.invariant.turns room) (sym c.is_one_of.ensures ∙ c.turns-test.false); shorter = search rules }
