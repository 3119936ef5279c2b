use Rattle.std.proofs.Common.{ap, ◌∙◌}
use Rattle.std.proofs.lemmas.Result.{IfOk-weaker}
use Rattle.aud_syntax.specs.declared.tree.Name.{Name}
use Rattle.aud_syntax.specs.Plain as m
use Rattle.aud_syntax.specs.Ties.View.{plain_name, plain_names, plain_abort, plain_statement}
use Rattle.aud_parse.proofs.build.made_abort.Goals as goal

pub returns : goal.returns
returns c =
    IfOk-weaker c.boxed-2.result _ _ (λ b h.
    ap plain_statement h
    ∙ ap plain_abort c.in_ok-statement.ensures
    ∙ ap (λ (z : Name). m.abort c.args.at (plain_name z) (plain_names c.args.others.items)) c.into_inner-first.ensures) c.boxed-2.ensures
