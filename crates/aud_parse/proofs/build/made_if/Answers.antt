use Rattle.std.proofs.Common.{ap, ◌∙◌}
use Rattle.std.proofs.lemmas.Result.{IfOk-weaker}
use Rattle.aud_syntax.specs.declared.tree.Arm.{Arm}
use Rattle.aud_syntax.specs.Plain as m
use Rattle.aud_syntax.specs.Ties.View.{plain_expression, plain_statement, plain_statements, plain_others, plain_if, arm_list}
use Rattle.aud_syntax.proofs.Opened.{if_roll}
use Rattle.aud_parse.proofs.build.made_if.Goals as goal

pub returns : goal.returns
returns c =
    IfOk-weaker c.boxed-2.result _ _ (λ b h.
    ap plain_statement h
    ∙ ap plain_if c.in_ok-statement.ensures
    ∙ if_roll c.into_inner-first.result c.args.others c.in_ok-otherwise.otherwise
    ∙ ap (λ (a : Arm). m.if_then a.at (plain_expression a.condition) (plain_statements a.statements) (arm_list c.args.others.items) (plain_others c.in_ok-otherwise.otherwise.items)) (c.into_inner-first.ensures ∙ c.in_ok-arm.ensures)
    ∙ ap (λ l. m.if_then c.args.at (plain_expression c.args.first.0.value) (plain_statements c.args.first.1.value) (arm_list c.args.others.items) (plain_others l)) c.in_ok-otherwise.ensures) c.boxed-2.ensures
