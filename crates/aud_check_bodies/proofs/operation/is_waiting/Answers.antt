use Rattle.std.proofs.Common.{◌∙◌}
use Rattle.aud_names.specs.Objects.{is_unit}
use Rattle.aud_names.proofs.Firsts.{found_answers}
use Rattle.aud_check_bodies.proofs.ObjectBodies.{found_waits}
use Rattle.aud_check_bodies.proofs.operation.is_waiting.Goals as goal

pub returns : goal.returns
returns c =
    let xs = c.args.awaited.now in
    let test = is_unit c.args.unit in
    c.is_some.ensures ∙ found_waits test xs c.index_of_unit.result (found_answers test xs c.index_of_unit.result c.index_of_unit.ensures)
