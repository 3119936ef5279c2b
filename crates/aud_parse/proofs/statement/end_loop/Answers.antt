use Rattle.std.proofs.Common.{ap, sym, ◌∙◌, ◌∷◌, arith}
use Rattle.std.specs.Prelude.{Option, Box}
use Rattle.std.specs.Global.{Global}
use Rattle.aud_text.specs.declared.place.Pos.{Pos}
use Rattle.aud_syntax.specs.declared.tree.Ident.{Ident}
use Rattle.aud_syntax.specs.declared.tree.Iteration.{Iteration}
use Rattle.aud_syntax.specs.declared.tree.Statements.{Statements}
use Rattle.aud_grammar.specs.Grammar as g
use Rattle.aud_grammar.specs.Actions.{an_ident, token, made}
use Rattle.aud_cursor.specs.Ties.Items.{opt_item}
use Rattle.aud_parse.specs.Ties.Items.{scheme_item, boxed_statements_item}
use Rattle.aud_parse.specs.Ties.Parts.{behind_label}
use Rattle.aud_parse_expr.proofs.Joined.{at_room, joined, not_joined}
use Rattle.aud_parse.proofs.Completing.{exit_in}
use Rattle.aud_parse.proofs.Rolls.{loop_items}
use Rattle.aud_parse.proofs.statement.end_loop.Goals as goal

pub returns-in_err-parts : goal.returns-in_err-parts
returns-in_err-parts c = λ room. exit_in _ _ _ c.from_residual.ensures.1 (c.in_err-parts.ensures.reads room) (λ k ds v o. o)

pub returns-in_err-parts-2 : goal.returns-in_err-parts-2
returns-in_err-parts-2 c = λ room. exit_in _ _ _ c.from_residual-in_err-parts-2.ensures.1 (c.in_err-parts-2.ensures.reads room) (λ k ds v o. c.in_ok-parts.ensures.reads.1 _ _ _ _ o)

pub returns-in_err-parts-3 : goal.returns-in_err-parts-3
returns-in_err-parts-3 c = λ room. exit_in _ _ _ c.from_residual-in_err-parts-3.ensures.1 (not_joined _ _ c.in_err-parts-3.ensures (at_room room c.opt_ident.ensures)) (λ k ds v o. c.in_ok-parts.ensures.reads.1 _ _ _ _ (c.in_ok-parts-2.ensures.reads.1 _ _ _ _ o))

pub returns-in_err-label : goal.returns-in_err-label
returns-in_err-label c = λ room.
    let j = joined _ c.in_ok-parts-3.ensures (at_room room c.opt_ident.ensures) in
    exit_in _ _ _ c.from_residual-in_err-label.ensures.1 (not_joined _ _ c.in_err-label.ensures (at_room room c.token.ensures)) (λ k ds v o. c.in_ok-parts.ensures.reads.1 _ _ _ _ (c.in_ok-parts-2.ensures.reads.1 _ _ _ _ (j.reads _ _ _ o)))

pub returns : goal.returns
returns c = λ room.
    let j = joined _ c.in_ok-parts-3.ensures (at_room room c.opt_ident.ensures) in
    let i = joined _ c.in_ok-label.ensures (at_room room c.token.ensures) in
    record {
      reads = λ k ds v o. (
        _,
        c.in_ok-parts.ensures.reads.1 _ _ _ _ (c.in_ok-parts-2.ensures.reads.1 _ _ _ _ (j.reads _ _ _ (i.reads _ _ _ o))),
        ap (λ (z : Option Ident × Option (Pos × Box Iteration Global) × Box Statements Global). behind_label z.0 (made g.Loop (opt_item scheme_item z.1 ∷ token c.args.begin.now ∷ boxed_statements_item z.2 ∷ opt_item an_ident c.in_ok-parts-3.name ∷ token c.in_ok-label.last.now ∷ ds)))
            (sym (i.first ∙ j.first ∙ c.in_ok-parts-2.ensures.reads.0 ∙ c.in_ok-parts.ensures.reads.0))
            ∙ loop_items c.in_ok-statement.statement c.in_ok-label.label c.in_ok-label.scheme (token c.args.begin.now) c.in_ok-label.inner c.in_ok-parts-3.name (token c.in_ok-label.last.now) ds (rw (sym c.at.ensures, sym c.at-2.ensures) c.in_ok-statement.ensures),
      );
      shorter = omega (arith, c.in_ok-parts.ensures.shorter, c.in_ok-parts-2.ensures.shorter);
    }
