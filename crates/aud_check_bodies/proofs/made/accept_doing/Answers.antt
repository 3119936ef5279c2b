use Rattle.std.specs.Prelude.{[], ◌++◌}
use Rattle.std.proofs.Common.{◌≡◌, ap, ◌∙◌}
use Rattle.aud_syntax.specs.Ties.View.{plain_body as plain_source}
use Rattle.aud_typed.specs.Tree as tree
use Rattle.aud_typed.specs.Ties.View.{plain_body, plain_statements}
use Rattle.aud_check_bodies.specs.Accepts.{TypedAccept}
use Rattle.aud_check_bodies.specs.Statements.{body_with}
use Rattle.aud_check_bodies.specs.Ties.Arms.{plain_accepted, plain_parts}
use Rattle.aud_typing.proofs.Notes.{boxes}
use Rattle.aud_check_bodies.proofs.Parts.{accepted_roll, done_roll}
use Rattle.aud_check_bodies.proofs.made.accept_doing.Goals as goal

pub returns : goal.returns
returns c =
    let made : tree.Doing → TypedAccept = λ d. record { at = c.args.at; entry = c.args.entry; doing = d } in
    let source = plain_source c.args.source.now in
    let doing : plain_body c.into_inner-body.result ≡ body_with [] source (plain_parts c.args.parts) =
    ap plain_body c.into_inner-body.ensures ∙ c.in_ok-body.ensures ∙ ap (λ xs. body_with (plain_statements xs ++ []) source (plain_parts c.args.parts)) c.new.ensures.items in
    boxes plain_accepted c.boxed.result _ _ c.boxed.ensures (accepted_roll c.args.at c.args.entry _ ∙ ap made (done_roll c.args.region c.into_inner-body.result ∙ ap (tree.with_do c.args.region) doing))
