use Rattle.std.proofs.Common.{◌≡◌, drop}
use Rattle.aud_fault.specs.Least.{noted}
use Rattle.aud_names.specs.Ties.Regions.{plain_region, names_in}
use Rattle.aud_check_bodies.specs.Objects.{with_all_parts, parts_twice}
use Rattle.aud_check_bodies.proofs.object.add_components.Given as goal

abbrev pub invariant-loop-other : goal.invariant-loop-other
invariant-loop-other l = record {
  region : with_all_parts (drop l.other-index l.names.others.items) l.kind l.instance (plain_region l.own) ≡ with_all_parts (names_in l.fn.names) l.kind l.instance (plain_region l.fn.own);
  noted : noted l.faults (parts_twice (drop l.other-index l.names.others.items) l.kind l.instance (plain_region l.own)) ≡ noted l.fn.faults (parts_twice (names_in l.fn.names) l.kind l.instance (plain_region l.fn.own));
}
