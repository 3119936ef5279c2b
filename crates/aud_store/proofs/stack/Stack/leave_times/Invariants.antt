use Rattle.std.proofs.Common.{◌≡◌}
use Rattle.aud_meaning.specs.Ties.Stack.{closed_times}
use Rattle.aud_store.proofs.stack.Stack.leave_times.Given as goal

abbrev pub invariant-loop : goal.invariant-loop
invariant-loop l = l.self ≡ closed_times l.counter l.fn.self
