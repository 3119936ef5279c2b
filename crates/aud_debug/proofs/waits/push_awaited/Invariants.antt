use Rattle.std.proofs.Common.{◌≡◌, ◌++◌}
use Rattle.aud_meaning.specs.Listings.Values.{numbered}
use Rattle.aud_debug.proofs.Waiting.{awaited_from}
use Rattle.aud_debug.proofs.waits.push_awaited.Given as goal

abbrev pub invariant-loop-task : goal.invariant-loop-task
invariant-loop-task l = l.out.items ++ numbered (awaited_from l.activator l.task l.state) ≡ l.initial.out.items ++ numbered (awaited_from l.activator 0 l.state)
