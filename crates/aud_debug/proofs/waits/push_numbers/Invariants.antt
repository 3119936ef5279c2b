use Rattle.std.proofs.Common.{◌≡◌, ◌++◌, drop}
use Rattle.aud_meaning.specs.Listings.Values.{numbered}
use Rattle.aud_debug.proofs.waits.push_numbers.Given as goal

abbrev pub invariant-loop-task : goal.invariant-loop-task
invariant-loop-task l = l.out.items ++ numbered (drop l.task-index l.tasks) ≡ l.initial.out.items ++ numbered l.tasks
