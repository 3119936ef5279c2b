use Rattle.std.proofs.Common.{◌≡◌, ◌++◌, drop}
use Rattle.aud_meaning.specs.Listings.Values.{numbered}
use Rattle.aud_debug.specs.Ties.Watched.{tasks_of}
use Rattle.aud_debug.proofs.objects.push_tasks.Given as goal

abbrev pub invariant-loop-action : goal.invariant-loop-action
invariant-loop-action l = l.out.items ++ numbered (drop l.action-index (tasks_of l.actions)) ≡ l.initial.out.items ++ numbered (tasks_of l.actions)
