use Rattle.std.proofs.Common.{◌≡◌, drop}
use Rattle.aud_fault.specs.Least.{noted}
use Rattle.aud_check_bodies.specs.Objects.{without_part_bodies}
use Rattle.aud_check_bodies.proofs.object.without_part_bodies.Given as goal

abbrev pub invariant-loop-part : goal.invariant-loop-part
invariant-loop-part l = noted l.faults (without_part_bodies (drop l.part-index l.awaited)) ≡ noted l.fn.faults (without_part_bodies l.awaited)
