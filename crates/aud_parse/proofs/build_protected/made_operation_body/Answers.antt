use Rattle.std.proofs.Common.{map, ap, ◌∙◌}
use Rattle.std.proofs.lemmas.Result.{IfOk-weaker}
use Rattle.aud_syntax.specs.declared.tree.Body.{Body}
use Rattle.aud_syntax.specs.Ties.View.{plain_body, plain_declarations, plain_formal, plain_operation_body, made_operation_body}
use Rattle.aud_syntax.proofs.Opened.{operation_body_roll}
use Rattle.aud_parse.specs.declared.operation_head.OperationHead.{OperationHead}
use Rattle.aud_parse.proofs.build_protected.made_operation_body.Goals as goal

pub returns : goal.returns
returns c =
    let parts = c.into_inner-kind.result in
    IfOk-weaker c.boxed.result _ _ (λ b h.
    ap plain_operation_body h
    ∙ operation_body_roll parts.kind parts.at parts.name parts.formals c.args.declarations c.into_inner-body.result
    ∙ ap (λ (z : OperationHead). made_operation_body z.kind z.at z.name (map plain_formal z.formals.items) (plain_declarations c.args.declarations.items) (plain_body c.into_inner-body.result)) c.into_inner-kind.ensures
    ∙ ap (λ (z : Body). made_operation_body c.args.head.value.kind c.args.head.value.at c.args.head.value.name (map plain_formal c.args.head.value.formals.items) (plain_declarations c.args.declarations.items) (plain_body z)) c.into_inner-body.ensures) c.boxed.ensures
