use Rattle.std.proofs.Common.{ap, ◌∙◌}
use Rattle.aud_typed.specs.Tree as tree
use Rattle.aud_typed.specs.Ties.View.{plain_boolean}
use Rattle.aud_check_bodies.specs.Selects.{accepts}
use Rattle.aud_check_bodies.specs.Ties.Arms.{plain_accepted, plain_alternative, plain_items}
use Rattle.aud_typing.proofs.Notes.{boxes}
use Rattle.aud_check_bodies.proofs.Parts.{accepts_parts}
use Rattle.aud_check_bodies.proofs.select.accepting.Goals as goal

pub returns : goal.returns
returns c =
    let behind = tree.part_of (plain_items c.args.after) in
    boxes plain_alternative c.boxed.result _ _ c.boxed.ensures (accepts_parts c.into_inner-guard.result c.into_inner-accept.result c.args.after
    ∙ ap (λ g. accepts (plain_boolean g) (plain_accepted c.into_inner-accept.result) behind) c.into_inner-guard.ensures
    ∙ ap (λ a. accepts (plain_boolean c.args.head.0.value) (plain_accepted a) behind) c.into_inner-accept.ensures)
