use Rattle.aud_tasks.proofs.Running.Hindering.{AreIdleBelow}
use Rattle.aud_tasks.proofs.hindering.are_idle.Given as goal

abbrev pub invariant-loop-object : goal.invariant-loop-object
invariant-loop-object l = AreIdleBelow l.state l.object
