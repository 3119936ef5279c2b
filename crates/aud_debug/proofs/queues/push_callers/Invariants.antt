use Rattle.std.proofs.Common.{◌≡◌, ◌++◌, drop}
use Rattle.aud_debug.specs.Ties.Rows.{calls_on}
use Rattle.aud_debug.proofs.queues.push_callers.Given as goal

abbrev pub invariant-loop-call : goal.invariant-loop-call
invariant-loop-call l = l.out.items ++ calls_on (drop l.call-index l.calls) l.state ≡ l.initial.out.items ++ calls_on l.calls l.state
