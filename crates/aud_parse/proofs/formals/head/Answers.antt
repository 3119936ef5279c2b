use Rattle.std.proofs.Common.{◌∷◌, sym, ap, arith}
use Rattle.aud_grammar.specs.Actions.{an_ident}
use Rattle.aud_cursor.specs.Ties.Items.{vec_item}
use Rattle.aud_parse.specs.Ties.Items.{formal_item}
use Rattle.aud_cursor.proofs.Passing.{to}
use Rattle.aud_parse_expr.proofs.Joined.{joined, not_joined}
use Rattle.aud_parse.proofs.Completing.{exit_among}
use Rattle.aud_parse.proofs.formals.head.Goals as goal

pub returns-in_err-name : goal.returns-in_err-name
returns-in_err-name c = exit_among _ _ _ c.from_residual.ensures.1 (c.in_err-name.ensures.reads c.args.room) (λ k ds v o. o)

pub returns-in_err-parts : goal.returns-in_err-parts
returns-in_err-parts c = exit_among _ _ _ c.from_residual-in_err-parts.ensures.1 (not_joined _ _ c.in_err-parts.ensures c.opt_formals.ensures) (λ k ds v o. c.in_ok-name.ensures.reads _ _ _ _ o)

pub returns : goal.returns
returns c =
    let j = joined _ c.in_ok-parts.ensures c.opt_formals.ensures in
    record {
      reads = λ k ds v o. to (c.in_ok-name.ensures.reads _ _ _ _ (j.reads _ _ _ o)) (ap (λ z. an_ident z ∷ vec_item formal_item c.in_ok-parts.parts.1 ∷ ds) (sym j.first));
      shorter = omega (arith, c.in_ok-name.ensures.shorter, j.shorter);
    }
