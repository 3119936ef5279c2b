use Rattle.std.proofs.Common.{◌≡◌, drop}
use Rattle.aud_names.specs.Ties.Regions.{plain_region, names_in}
use Rattle.aud_check_bodies.specs.Objects.{with_object_parts, component_parts}
use Rattle.aud_check_bodies.proofs.object.add_component_parts.Given as goal

abbrev pub invariant-loop-other : goal.invariant-loop-other
invariant-loop-other l =
    with_object_parts (component_parts l.fn.object (drop l.other-index l.names.others.items) l.fn.kind) (plain_region l.around)
    ≡ with_object_parts (component_parts l.fn.object (names_in l.fn.names) l.fn.kind) (plain_region l.fn.around)
