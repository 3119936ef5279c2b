use Rattle.std.proofs.Common.{ap, ◌∙◌}
use Rattle.aud_typed.specs.Tree as tree
use Rattle.aud_typed.specs.Ties.View.{plain_boolean, plain_delay}
use Rattle.aud_check_bodies.specs.Selects.{delays}
use Rattle.aud_check_bodies.specs.Ties.Arms.{plain_alternative, plain_items}
use Rattle.aud_typing.proofs.Notes.{boxes}
use Rattle.aud_check_bodies.proofs.Parts.{delays_parts}
use Rattle.aud_check_bodies.proofs.select.delaying.Goals as goal

pub returns : goal.returns
returns c =
    let behind = tree.part_of (plain_items c.args.after) in
    boxes plain_alternative c.boxed.result _ _ c.boxed.ensures (delays_parts c.into_inner-guard.result c.into_inner-delay.result c.args.after
    ∙ ap (λ g. delays (plain_boolean g) (plain_delay c.into_inner-delay.result) behind) c.into_inner-guard.ensures
    ∙ ap (λ e. delays (plain_boolean c.args.head.0.value) (plain_delay e) behind) c.into_inner-delay.ensures)
