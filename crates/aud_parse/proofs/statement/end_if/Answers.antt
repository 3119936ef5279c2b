use Rattle.std.proofs.Common.{ap, sym, ◌∙◌, ◌∷◌, arith}
use Rattle.std.specs.Prelude.{Option, Box, Vec}
use Rattle.std.specs.Global.{Global}
use Rattle.aud_syntax.specs.declared.tree.Arm.{Arm}
use Rattle.aud_syntax.specs.declared.tree.Expression.{Expression}
use Rattle.aud_syntax.specs.declared.tree.Statements.{Statements}
use Rattle.aud_grammar.specs.Grammar as g
use Rattle.aud_grammar.specs.Actions.{token, made}
use Rattle.aud_cursor.specs.Ties.Items.{vec_item, opt_item, boxed_item}
use Rattle.aud_parse_expr.specs.Ties.Items.{expression_item}
use Rattle.aud_parse.specs.Ties.Items.{arm_item, boxed_statements_item}
use Rattle.aud_parse.proofs.Completing.{exit_in}
use Rattle.aud_parse.proofs.Rolls.{if_items}
use Rattle.aud_parse.proofs.statement.end_if.Goals as goal

pub returns-in_err-parts : goal.returns-in_err-parts
returns-in_err-parts c = λ room. exit_in _ _ _ c.from_residual.ensures.1 (c.in_err-parts.ensures.reads room) (λ k ds v o. o)

pub returns-in_err-parts-2 : goal.returns-in_err-parts-2
returns-in_err-parts-2 c = λ room. exit_in _ _ _ c.from_residual-in_err-parts-2.ensures.1 (c.in_err-parts-2.ensures.reads room) (λ k ds v o. c.in_ok-parts.ensures.reads.1 _ _ _ _ o)

pub returns-in_err-first : goal.returns-in_err-first
returns-in_err-first c = λ room. exit_in _ _ _ c.from_residual-in_err-first.ensures.1 (c.in_err-first.ensures.reads room) (λ k ds v o. c.in_ok-parts.ensures.reads.1 _ _ _ _ (c.in_ok-parts-2.ensures.reads.1 _ _ _ _ o))

pub returns : goal.returns
returns c = λ room. record {
  reads = λ k ds v o. (
    _,
    c.in_ok-parts.ensures.reads.1 _ _ _ _ (c.in_ok-parts-2.ensures.reads.1 _ _ _ _ (c.in_ok-first.ensures.reads.1 _ _ _ _ o)),
    ap (λ (z : (Box Expression Global × Box Statements Global) × Vec Arm Global × Option (Box Statements Global)). made g.If (token c.args.begin.now ∷ boxed_item expression_item z.0.0 ∷ boxed_statements_item z.0.1 ∷ vec_item arm_item z.1 ∷ opt_item boxed_statements_item z.2 ∷ ds))
        (sym (c.in_ok-first.ensures.reads.0 ∙ c.in_ok-parts-2.ensures.reads.0 ∙ c.in_ok-parts.ensures.reads.0))
        ∙ if_items c.in_ok-statement.statement (token c.args.begin.now) c.in_ok-first.first.0 c.in_ok-first.first.1 c.in_ok-first.others c.in_ok-first.otherwise ds (rw (sym c.at.ensures) c.in_ok-statement.ensures),
  );
  shorter = omega (arith, c.in_ok-parts.ensures.shorter, c.in_ok-parts-2.ensures.shorter, c.in_ok-first.ensures.shorter);
}
