use Rattle.std.proofs.Common.{ap, sym, ◌∙◌}
use Rattle.std.proofs.lemmas.Result.{IfOk-weaker}
use Rattle.aud_syntax.specs.declared.tree.Body.{Body}
use Rattle.aud_syntax.specs.Plain as m
use Rattle.aud_syntax.specs.Ties.View.{plain_statement, plain_block, plain_body, plain_declarations}
use Rattle.aud_syntax.proofs.Opened.{block_roll, body_open}
use Rattle.aud_grammar.specs.Actions.{begin_of}
use Rattle.aud_parse.specs.Ties.Parts.{declares_at, is_declared, declared_in}
use Rattle.aud_parse.proofs.build.made_block.Goals as goal

pub returns : goal.returns
returns c =
    IfOk-weaker c.boxed-2.result _ _ (λ b h.
    ap plain_statement h
    ∙ ap plain_block c.in_ok-statement.ensures
    ∙ block_roll c.args.label c.declares_at-at.result c.is_declared-is_declared.result c.declared_in-declarations.result c.into_inner-body.result
    ∙ ap (λ z. m.block c.args.label z c.is_declared-is_declared.result (plain_declarations c.declared_in-declarations.result.items) (plain_body c.into_inner-body.result)) (c.declares_at-at.ensures ∙ ap (λ z. declares_at c.args.declare z) (sym (ap begin_of (body_open c.into_inner-body.result))))
    ∙ ap (λ z. m.block c.args.label (declares_at c.args.declare (begin_of (plain_body c.into_inner-body.result))) z (plain_declarations c.declared_in-declarations.result.items) (plain_body c.into_inner-body.result)) c.is_declared-is_declared.ensures
    ∙ ap (λ z. m.block c.args.label (declares_at c.args.declare (begin_of (plain_body c.into_inner-body.result))) (is_declared c.args.declare) z (plain_body c.into_inner-body.result)) c.declared_in-declarations.ensures
    ∙ ap (λ (z : Body). m.block c.args.label (declares_at c.args.declare (begin_of (plain_body z))) (is_declared c.args.declare) (declared_in c.args.declare) (plain_body z)) c.into_inner-body.ensures) c.boxed-2.ensures
