use Rattle.std.proofs.Common.{◌≡◌, drop}
use Rattle.aud_fault.specs.Least.{noted}
use Rattle.aud_check_bodies.specs.Objects.{without_object_bodies}
use Rattle.aud_check_bodies.proofs.object.without_object_bodies.Given as goal

abbrev pub invariant-loop-object : goal.invariant-loop-object
invariant-loop-object l = noted l.faults (without_object_bodies (drop l.object-index l.awaited)) ≡ noted l.fn.faults (without_object_bodies l.awaited)
