use Rattle.std.proofs.Common.{◌≡◌, drop}
use Rattle.aud_fault.specs.Least.{noted}
use Rattle.aud_check_bodies.specs.Tasks.{without_bodies}
use Rattle.aud_check_bodies.proofs.task.without_bodies.Given as goal

abbrev pub invariant-loop-task : goal.invariant-loop-task
invariant-loop-task l = noted l.faults (without_bodies (drop l.task-index l.awaited)) ≡ noted l.fn.faults (without_bodies l.awaited)
