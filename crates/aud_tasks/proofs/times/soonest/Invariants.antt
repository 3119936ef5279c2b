use Rattle.std.proofs.Common.{◌≡◌, None}
use Rattle.aud_typed.specs.Tree.{Plan}
use Rattle.aud_tasks.specs.Moving as moving
use Rattle.aud_tasks.proofs.MoveLaws.Moving.{times}
use Rattle.aud_tasks.proofs.times.soonest.Given as goal

abbrev pub invariant-loop-task : goal.invariant-loop-task
invariant-loop-task l = (plan : Plan) → moving.soonest l.found (times plan l.code l.state l.task) ≡ moving.soonest None (times plan l.code l.state 0)
