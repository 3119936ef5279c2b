use Rattle.std.proofs.Common.{◌≡◌, drop}
use Rattle.aud_fault.specs.Least.{noted}
use Rattle.aud_check_bodies.specs.Declarations.{declared_names, twice_faults}
use Rattle.aud_names.specs.Ties.Regions.{plain_region, names_in}
use Rattle.aud_check_bodies.proofs.declaration.declare.Given as goal

abbrev pub invariant-loop-other : goal.invariant-loop-other
invariant-loop-other l = record {
  region : declared_names (drop l.other-index l.names.others.items) l.kind (plain_region l.region) ≡ declared_names (names_in l.fn.names) l.kind (plain_region l.fn.region);
  noted : noted l.faults (twice_faults (drop l.other-index l.names.others.items) l.kind (plain_region l.region)) ≡ noted l.fn.faults (twice_faults (names_in l.fn.names) l.kind (plain_region l.fn.region));
}
