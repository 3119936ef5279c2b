use Rattle.std.proofs.Common.{ap, ◌∙◌}
use Rattle.std.proofs.lemmas.Result.{IfOk-weaker}
use Rattle.aud_syntax.specs.declared.tree.Statements.{Statements}
use Rattle.aud_syntax.specs.Plain as m
use Rattle.aud_syntax.specs.Ties.View.{plain_statements, plain_body, handler_list}
use Rattle.aud_syntax.proofs.Opened.{body_roll}
use Rattle.aud_parse.proofs.build.made_body.Goals as goal

pub returns : goal.returns
returns c =
    IfOk-weaker c.boxed.result _ _ (λ b h.
    ap plain_body h
    ∙ body_roll c.args.begin c.into_inner-statements.result c.args.parts.1 c.args.end c.args.last.0 c.args.last.1
    ∙ ap (λ (z : Statements). m.body c.args.begin (plain_statements z) (handler_list c.args.parts.1.items) c.args.end c.args.last.0 c.args.last.1) c.into_inner-statements.ensures) c.boxed.ensures
