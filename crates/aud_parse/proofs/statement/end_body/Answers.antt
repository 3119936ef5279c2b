use Rattle.std.proofs.Common.{ap, sym, ◌∙◌, ◌∷◌, rules}
use Rattle.std.specs.Prelude.{Box, Vec}
use Rattle.std.specs.Global.{Global}
use Rattle.aud_syntax.specs.declared.tree.Statements.{Statements}
use Rattle.aud_syntax.specs.declared.tree.Handler.{Handler}
use Rattle.aud_grammar.specs.Grammar as g
use Rattle.aud_grammar.specs.Actions.{an_ident, token, made}
use Rattle.aud_cursor.specs.Ties.Items.{vec_item, opt_item}
use Rattle.aud_parse.specs.Ties.Items.{boxed_statements_item, handler_item}
use Rattle.aud_parse_expr.proofs.Joined.{at_room, joined, not_joined}
use Rattle.aud_parse.proofs.Completing.{exit_in}
use Rattle.aud_parse.proofs.Rolls.{body_items}
use Rattle.aud_parse.proofs.statement.end_body.Goals as goal

pub returns-in_err-parts : goal.returns-in_err-parts
returns-in_err-parts c = λ room. exit_in _ _ _ c.from_residual.ensures.1 (not_joined _ _ c.in_err-parts.ensures (at_room room c.token.ensures)) (λ k ds v o. o)

pub returns-in_err-parts-2 : goal.returns-in_err-parts-2
returns-in_err-parts-2 c = λ room.
    let j = joined _ c.in_ok-parts.ensures (at_room room c.token.ensures) in
    exit_in _ _ _ c.from_residual-in_err-parts-2.ensures.1 (not_joined _ _ c.in_err-parts-2.ensures (at_room room c.opt_ident.ensures)) (λ k ds v o. j.reads _ _ _ o)

pub returns-in_err-parts-3 : goal.returns-in_err-parts-3
returns-in_err-parts-3 c = λ room.
    let j = joined _ c.in_ok-parts.ensures (at_room room c.token.ensures) in
    let i = joined _ c.in_ok-parts-2.ensures (at_room room c.opt_ident.ensures) in
    exit_in _ _ _ c.from_residual-in_err-parts-3.ensures.1 (not_joined _ _ c.in_err-parts-3.ensures (at_room room c.token-2.ensures)) (λ k ds v o. j.reads _ _ _ (i.reads _ _ _ o))

pub returns : goal.returns
returns c = λ room.
    let j = joined _ c.in_ok-parts.ensures (at_room room c.token.ensures) in
    let i = joined _ c.in_ok-parts-2.ensures (at_room room c.opt_ident.ensures) in
    let l = joined _ c.in_ok-parts-3.ensures (at_room room c.token-2.ensures) in
    record {
      reads = λ k ds v o. (
        _,
        j.reads _ _ _ (i.reads _ _ _ (l.reads _ _ _ o)),
        ap (λ (z : Box Statements Global × Vec Handler Global). made g.Body (token c.args.begin.now ∷ boxed_statements_item z.0 ∷ vec_item handler_item z.1 ∷ token c.in_ok-parts.end.now ∷ opt_item an_ident c.in_ok-parts-2.name ∷ token c.in_ok-parts-3.last.now ∷ ds)) (sym (l.first ∙ i.first ∙ j.first))
            ∙ body_items c.in_ok-body.body (token c.args.begin.now) (token c.in_ok-parts.end.now) c.in_ok-parts-3.parts.0 c.in_ok-parts-3.parts.1 c.in_ok-parts-2.name (token c.in_ok-parts-3.last.now) ds (rw (sym c.at.ensures, sym c.at-2.ensures, sym c.at-3.ensures) c.in_ok-body.ensures),
      );
      shorter = search rules;
    }
