use Rattle.std.proofs.Common.{ap, ◌∙◌}
use Rattle.std.proofs.lemmas.Result.{IfOk-weaker}
use Rattle.aud_syntax.specs.declared.tree.Body.{Body}
use Rattle.aud_syntax.specs.Plain as m
use Rattle.aud_syntax.specs.Ties.View.{plain_declaration, plain_declarations, plain_task_body, plain_body}
use Rattle.aud_syntax.proofs.Opened.{task_body_roll}
use Rattle.aud_parse.proofs.build.made_task_body.Goals as goal

pub returns : goal.returns
returns c =
    IfOk-weaker c.boxed-2.result _ _ (λ b h.
    ap plain_declaration h
    ∙ ap plain_task_body c.in_ok-task.ensures
    ∙ task_body_roll c.args.at c.args.name c.args.declarations c.into_inner-body.result
    ∙ ap (λ (z : Body). m.task_body c.args.at c.args.name (plain_declarations c.args.declarations.items) (plain_body z)) c.into_inner-body.ensures) c.boxed-2.ensures
