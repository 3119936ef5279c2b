use Rattle.std.proofs.Common.{ap, ◌∙◌}
use Rattle.std.proofs.lemmas.Result.{IfOk-weaker}
use Rattle.aud_syntax.specs.declared.tree.Statements.{Statements}
use Rattle.aud_syntax.specs.Plain as m
use Rattle.aud_syntax.specs.Ties.View.{plain_statements, plain_other}
use Rattle.aud_syntax.proofs.Opened.{or_else_open}
use Rattle.aud_parse.proofs.build_select.or_else_of.Goals as goal

pub returns : goal.returns
returns c =
    IfOk-weaker c.boxed.result _ _ (λ b h.
    ap plain_other h
    ∙ or_else_open c.into_inner-statements.result
    ∙ ap (λ (z : Statements). m.or_else (plain_statements z)) c.into_inner-statements.ensures) c.boxed.ensures
