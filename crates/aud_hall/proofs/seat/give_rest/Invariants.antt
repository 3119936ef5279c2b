use Rattle.std.proofs.Common.{◌≡◌, ◌-◌, ◌≤◌, length}
use Rattle.aud_hall.proofs.Giving.{given_some}
use Rattle.aud_hall.proofs.seat.give_rest.Given as goal

abbrev pub invariant-loop-next : goal.invariant-loop-next
invariant-loop-next l =
    (l.bench ≡ given_some l.requests l.initial.bench (l.next - length l.initial.bench.journal)) × (length l.initial.bench.journal ≤ l.next)

abbrev pub decreases-loop-next : goal.decreases-loop-next
decreases-loop-next l = length l.requests - l.next
