use Rattle.std.specs.Prelude.{map}
use Rattle.aud_worlds.specs.Ties.Calls.{plain_reply, IsRun}
use Rattle.aud_worlds.specs.Ties.Runs.{seen}
use Rattle.aud_worlds.proofs.run.world_run.Given as goal

abbrev pub invariant-loop-event : goal.invariant-loop-event
invariant-loop-event l = IsRun l.fn.limits.items l.yielded (seen l.hall l.out.items) (map plain_reply l.replies.items)
