use Rattle.std.proofs.Common.{map, ap, ◌∙◌}
use Rattle.std.proofs.lemmas.Result.{IfOk-weaker}
use Rattle.aud_syntax.specs.declared.tree.Body.{Body}
use Rattle.aud_syntax.specs.Plain as m
use Rattle.aud_syntax.specs.Ties.View.{plain_formal, plain_declaration, plain_declarations, plain_procedure, plain_body}
use Rattle.aud_syntax.proofs.Opened.{procedure_roll}
use Rattle.aud_parse.proofs.build.made_procedure.Goals as goal

pub returns : goal.returns
returns c =
    IfOk-weaker c.boxed-2.result _ _ (λ b h.
    ap plain_declaration h
    ∙ ap plain_procedure c.in_ok-procedure.ensures
    ∙ procedure_roll c.args.at c.args.specification.0 c.args.specification.1 c.args.declarations c.into_inner-body.result
    ∙ ap (λ (z : Body). m.procedure c.args.at c.args.specification.0 (map plain_formal c.args.specification.1.items) (plain_declarations c.args.declarations.items) (plain_body z)) c.into_inner-body.ensures) c.boxed-2.ensures
