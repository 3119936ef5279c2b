use Rattle.std.proofs.Common.{drop}
use Rattle.aud_gen.proofs.Openings.{Types_left}
use Rattle.aud_gen.proofs.program.task_bodies.Given as goal

abbrev pub invariant-loop-task_type : goal.invariant-loop-task_type
invariant-loop-task_type l = Types_left l.bodies.items (drop l.task_type-index l.types) l.types
