use Rattle.std.proofs.Common.{ap, sym, ◌∙◌, ◌∷◌, arith}
use Rattle.std.specs.Prelude.{Option, Vec}
use Rattle.std.specs.Global.{Global}
use Rattle.aud_syntax.specs.declared.tree.Ident.{Ident}
use Rattle.aud_syntax.specs.declared.tree.OperationBody.{OperationBody}
use Rattle.aud_grammar.specs.Grammar as g
use Rattle.aud_grammar.specs.Actions.{an_ident, token, made}
use Rattle.aud_cursor.specs.Ties.Items.{vec_item, opt_item}
use Rattle.aud_parse.specs.Ties.Items.{operation_body_item}
use Rattle.aud_parse_expr.proofs.Joined.{at_room, joined, not_joined}
use Rattle.aud_parse.proofs.Completing.{exit_in}
use Rattle.aud_parse.proofs.Objects.{protected_body_items}
use Rattle.aud_parse.proofs.protected.end_protected_body.Goals as goal

pub returns-in_err-parts : goal.returns-in_err-parts
returns-in_err-parts c = λ room. exit_in _ _ _ c.from_residual.ensures.1 (c.in_err-parts.ensures.reads room) (λ k ds v o. o)

pub returns-in_err-parts-2 : goal.returns-in_err-parts-2
returns-in_err-parts-2 c = λ room. exit_in _ _ _ c.from_residual-in_err-parts-2.ensures.1 (not_joined _ _ c.in_err-parts-2.ensures (at_room room c.opt_ident.ensures)) (λ k ds v o. c.in_ok-parts.ensures.reads.1 _ _ _ _ o)

pub returns-in_err-name : goal.returns-in_err-name
returns-in_err-name c = λ room.
    let j = joined _ c.in_ok-parts-2.ensures (at_room room c.opt_ident.ensures) in
    exit_in _ _ _ c.from_residual-in_err-name.ensures.1 (c.in_err-name.ensures.reads room) (λ k ds v o. c.in_ok-parts.ensures.reads.1 _ _ _ _ (j.reads _ _ _ o))

pub returns : goal.returns
returns c = λ room.
    let j = joined _ c.in_ok-parts-2.ensures (at_room room c.opt_ident.ensures) in
    record {
      reads = λ k ds v o. (
        _,
        c.in_ok-parts.ensures.reads.1 _ _ _ _ (j.reads _ _ _ (c.in_ok-name.ensures.reads.1 _ _ _ _ o)),
        ap (λ (z : Ident × Vec OperationBody Global). made g.Protected (token c.args.begin.now ∷ made g.ProtectedBody (an_ident z.0 ∷ vec_item operation_body_item z.1 ∷ opt_item an_ident c.in_ok-parts-2.parts.1 ∷ ds))) (sym (j.first ∙ c.in_ok-parts.ensures.reads.0))
            ∙ ap (λ (z : (Ident × Vec OperationBody Global) × Option Ident). made g.Protected (token c.args.begin.now ∷ made g.ProtectedBody (an_ident z.0.0 ∷ vec_item operation_body_item z.0.1 ∷ opt_item an_ident z.1 ∷ ds))) (sym c.in_ok-name.ensures.reads.0)
            ∙ protected_body_items c.in_ok-declaration.declaration (token c.args.begin.now) c.in_ok-name.name c.in_ok-name.bodies c.in_ok-name.end_name ds (rw (sym c.at.ensures) c.in_ok-declaration.ensures),
      );
      shorter = omega (arith, c.in_ok-parts.ensures.shorter, j.shorter, c.in_ok-name.ensures.shorter);
    }
