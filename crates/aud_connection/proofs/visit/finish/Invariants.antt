use Rattle.std.proofs.Common.{◌≡◌}
use Rattle.aud_connection.proofs.visit.finish.Given as goal

abbrev pub invariant-loop : goal.invariant-loop
invariant-loop g l = (goal.iterator-loop g).can_next l.iterator' × (goal.iterator-loop g).is_finite l.iterator' × (l.pass.limits ≡ l.initial.pass.limits) × (l.pass.sent ≡ l.initial.pass.sent)
