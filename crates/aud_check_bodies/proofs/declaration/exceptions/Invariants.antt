use Rattle.std.proofs.Common.{◌≡◌, drop}
use Rattle.aud_fault.specs.Least.{noted}
use Rattle.aud_check_bodies.specs.Declarations.{declared_exceptions, exceptions_twice}
use Rattle.aud_names.specs.Ties.Regions.{names_in}
use Rattle.aud_check_bodies.specs.Ties.DeclarativePart.{plain_exceptions}
use Rattle.aud_check_bodies.proofs.declaration.exceptions.Given as goal

abbrev pub invariant-loop-other : goal.invariant-loop-other
invariant-loop-other l = record {
  declared : declared_exceptions (drop l.other-index l.names.others.items) (plain_exceptions l.region l.exceptions) ≡ declared_exceptions (names_in l.fn.names) (plain_exceptions l.fn.region l.fn.exceptions);
  noted : noted l.faults (exceptions_twice (drop l.other-index l.names.others.items) (plain_exceptions l.region l.exceptions)) ≡ noted l.fn.faults (exceptions_twice (names_in l.fn.names) (plain_exceptions l.fn.region l.fn.exceptions));
}
