use Rattle.std.proofs.Common.{◌≡◌, drop}
use Rattle.aud_meaning.specs.Listings.Waits.{again_on}
use Rattle.aud_meaning.specs.Parts.{call_of, owns}
use Rattle.aud_debug.proofs.waits.again_on.Given as goal

abbrev pub invariant-loop-task : goal.invariant-loop-task
invariant-loop-task l = again_on l.id (drop l.task (owns l.state.tasks)) l.owner ≡ again_on l.id (owns l.state.tasks) (call_of l.id l.state).owner
