use Rattle.std.proofs.Common.{◌∷◌, sym, ap, ◌∙◌, arith}
use Rattle.aud_grammar.specs.Ties.Outcome.{o_rule, o_more}
use Rattle.aud_cursor.specs.Ties.Items.{list_item}
use Rattle.aud_parse.specs.Ties.Items.{formal_item}
use Rattle.aud_cursor.proofs.Passing.{to, exit_flat, word_passes, heads_none, heads_push, heads_on, headed_items}
use Rattle.aud_parse.proofs.formals.in_formals.Goals as goal

pub returns-in_err-rest : goal.returns-in_err-rest
returns-in_err-rest c = exit_flat _ _ _ c.from_residual.ensures.1 (λ room. c.in_err-rest.ensures.reads room) (λ room k ds v o. o_rule o)

pub turns-init : goal.turns-init
turns-init c = record { inside = c.in_ok-rest.rest.tokens.now; opened = λ room. c.in_ok-rest.ensures.reads room; turns = λ room. heads_none c.new-all.ensures.items; shorter = omega (arith, c.in_ok-rest.ensures.shorter) }

pub returns-in_err-one : goal.returns-in_err-one
returns-in_err-one c = exit_flat _ _ _ c.from_residual-in_err-one.ensures.1 (λ room. c.in_err-one.ensures.reads room) (λ room k ds v o. o_rule (c.turns.invariant.opened _ _ _ _ ((c.turns.invariant.turns room).by _ _ _ o)))

pub returns-in_err-rest-2 : goal.returns-in_err-rest-2
returns-in_err-rest-2 c = exit_flat _ _ _ c.from_residual-in_err-rest-2.ensures.1 (λ room. c.in_err-rest-2.ensures.reads room) (λ room k ds v o. o_rule (c.turns.invariant.opened _ _ _ _ (heads_on c.in_ok-one.one (c.turns.invariant.turns room) (c.in_ok-one.ensures.reads room) c.in_default.ensures.reads _ _ _ o)))

pub returns-in_default : goal.returns-in_default
returns-in_default c = record {
  reads = λ room k ds v o.
      to (o_rule (c.turns.invariant.opened _ _ _ _ (heads_on c.in_ok-one.one (c.turns.invariant.turns room) (c.in_ok-one.ensures.reads room) c.in_default.ensures.reads _ _ _ (c.in_ok-rest-2.ensures.reads _ _ _ _ o))))
      (headed_items formal_item c.turns.all.items c.in_ok-one.one ds ∙ ap (λ l. list_item formal_item l ∷ ds) (sym c.in_ok-push.ensures.items));
  shorter = omega (arith, c.in_ok-one.ensures.shorter, c.in_ok-rest-2.ensures.shorter, c.turns.invariant.shorter);
}

pub turns-preserved : goal.turns-preserved
turns-preserved c = record {
  inside = c.turns.invariant.inside;
  opened = c.turns.invariant.opened;
  turns = λ room. heads_push c.in_ok-one.one (c.turns.invariant.turns room) (c.in_ok-one.ensures.reads room) (λ k ds v o. o_more c.in-Some.ensures.reads.0 (o_rule (word_passes c.in-Some.ensures.reads _ _ _ o))) c.in_ok-push.ensures.items;
  shorter = omega (arith, c.in_ok-one.ensures.shorter, c.in-Some.ensures.shorter, c.turns.invariant.shorter);
}
