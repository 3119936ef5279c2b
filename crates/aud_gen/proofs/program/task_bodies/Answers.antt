use Rattle.std.proofs.Common.{arith}
use Rattle.aud_gen.proofs.Openings.{all_types}
use Rattle.aud_gen.proofs.program.task_bodies.Goals as goal

pub returns : goal.returns
returns c = all_types c.args.types.now c.loop-task_type.task_type-index c.loop-task_type.bodies.items (omega (arith, c.loop-task_type-test.false)) c.loop-task_type.invariant
