use Rattle.std.proofs.Common.{sym, ◌∙◌, arith, rules}
use Rattle.aud_grammar.specs.Ties.Outcome.{o_more}
use Rattle.aud_cursor.proofs.Passing.{exit, turns_none, turns_push, turns_over}
use Rattle.aud_parse.proofs.protected.private_items.Goals as goal

pub turns-init : goal.turns-init
turns-init c = record { turns = rw c.new-all.ensures.items (turns_none _ _ _ _); shorter = search rules }

pub turns-preserved : goal.turns-preserved
turns-preserved c = record { turns = turns_push c.in_ok-next.next c.turns.invariant.turns (sym c.is_one_of.ensures ∙ c.turns-test.true) c.in_ok-next.ensures.reads c.in_ok-push.ensures.items; shorter = omega (arith, c.in_ok-next.ensures.shorter, c.turns.invariant.shorter) }

pub returns-in_err-next : goal.returns-in_err-next
returns-in_err-next c = exit _ _ _ c.from_residual.ensures.1 c.in_err-next.ensures.reads (λ k ds v o. c.turns.invariant.turns.by _ _ _ (o_more (sym c.is_one_of.ensures ∙ c.turns-test.true) o))

pub returns : goal.returns
returns c = turns_over c.turns.invariant.turns (sym c.is_one_of.ensures ∙ c.turns-test.false) c.turns.invariant.shorter
