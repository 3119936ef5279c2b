use Rattle.std.specs.Prelude.{List, ◌++◌}
use Rattle.std.proofs.Common.{ap, ◌∙◌, sym}
use Rattle.aud_text.specs.declared.place.Pos.{Pos}
use Rattle.aud_syntax.specs.declared.tree.Body.{out-Body}
use Rattle.aud_syntax.proofs.Opened.{body_open}
use Rattle.aud_typed.specs.Tree as tree
use Rattle.aud_typed.specs.Ties.View.{plain_body, statements_in, handlers_in}
use Rattle.aud_check_bodies.specs.Statements.{begin_of, body_with}
use Rattle.aud_check_bodies.specs.Ties.Arms.{plain_parts, plain_items}
use Rattle.aud_typing.proofs.Notes.{boxes}
use Rattle.aud_check_bodies.proofs.Parts.{body_parts}
use Rattle.aud_check_bodies.proofs.made.body_of.Goals as goal

pub returns : goal.returns
returns c =
    let source = c.args.source.now in
    let begin = (out-Body source).begin in
    let end = (out-Body source).end in
    let handlers = c.args.parts.1 in
    let declared : Pos → List tree.Statement = λ at. plain_items c.args.declarations ++ tree.activation c.args.activates at in
    boxes plain_body c.boxed.result _ _ c.boxed.ensures (body_parts c.args.declarations begin c.args.activates c.into_inner.result handlers end
    ∙ ap (λ z. tree.body (tree.part_of (declared begin)) begin (statements_in z) (handlers_in handlers.items) end) c.into_inner.ensures
    ∙ ap (λ z. body_with (declared (begin_of z)) z (plain_parts c.args.parts)) (sym (body_open source)))
