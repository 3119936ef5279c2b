use Rattle.std.proofs.Common.{ap, subst, ◌∙◌}
use Rattle.aud_syntax.specs.Ties.View.{plain_unit}
use Rattle.aud_check_bodies.specs.Programs.{faults, typed, program_with}
use Rattle.aud_check_bodies.specs.Tables.{Tables}
use Rattle.aud_check_bodies.specs.Ties.Tables.{plain_tables}
use Rattle.aud_typing.specs.Ties.Typing.{Leaves}
use Rattle.aud_check_bodies.proofs.unit.typed_within.Goals as goal

pub returns : goal.returns
returns c =
    let u = plain_unit c.args.node.now in
    let t : Tables = plain_tables c.fill-name.new.tables in
    let b = c.in_ok-tables in
    let filled = subst (λ r. Leaves (λ n. program_with n t) r c.args.faults.now c.fill-name.new.faults (faults u) (typed u)) b.ensures.next c.fill-name.ensures in
    (filled.0, ap (λ v. program_with b.name (plain_tables v)) b.ensures.first ∙ filled.1)
