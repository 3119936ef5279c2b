use Rattle.std.proofs.Common.{arith}
use Rattle.aud_grammar.specs.Ties.Outcome.{o_rule}
use Rattle.aud_cursor.proofs.Passing.{to, exit_flat}
use Rattle.aud_parse_expr.proofs.Joined.{at_room, joined, not_joined}
use Rattle.aud_parse.proofs.Rolls.{formal_items}
use Rattle.aud_parse.proofs.formals.formal.Goals as goal

pub returns-in_err-names : goal.returns-in_err-names
returns-in_err-names c = exit_flat _ _ _ c.from_residual.ensures.1 (λ room. c.in_err-names.ensures.reads room) (λ room k ds v o. o_rule o)

pub returns-in_err-rest : goal.returns-in_err-rest
returns-in_err-rest c = exit_flat _ _ _ c.from_residual-in_err-rest.ensures.1 (λ room. c.in_err-rest.ensures.reads room) (λ room k ds v o. o_rule (c.in_ok-names.ensures.reads _ _ _ _ o))

pub returns-in_err-names-2 : goal.returns-in_err-names-2
returns-in_err-names-2 c = exit_flat _ _ _ c.from_residual-in_err-names-2.ensures.1 (λ room. not_joined _ _ c.in_err-names-2.ensures (at_room room c.ident.ensures)) (λ room k ds v o. o_rule (c.in_ok-names.ensures.reads _ _ _ _ (c.in_ok-rest.ensures.reads _ _ _ _ (c.opt_mode-mode.ensures.reads _ _ _ _ o))))

pub returns : goal.returns
returns c = record {
  reads = λ room k ds v o.
      let j = joined _ c.in_ok-names-2.ensures (at_room room c.ident.ensures) in
      rw j.first (to (o_rule (c.in_ok-names.ensures.reads _ _ _ _ (c.in_ok-rest.ensures.reads _ _ _ _ (c.opt_mode-mode.ensures.reads _ _ _ _ (j.reads _ _ _ o))))) (formal_items c.in_ok-names.names _ c.in_ok-names-2.subtype ds));
  shorter = omega (arith, c.in_ok-names.ensures.shorter, c.in_ok-rest.ensures.shorter, c.opt_mode-mode.ensures.shorter, (joined _ c.in_ok-names-2.ensures (at_room 0 c.ident.ensures)).shorter);
}
