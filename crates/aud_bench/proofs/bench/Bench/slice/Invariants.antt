use Rattle.std.proofs.Common.{◌≡◌, ◌+◌, ◌-◌, ◌≤◌, false}
use Rattle.aud_bench.proofs.bench.Bench.slice.Given as goal

abbrev pub invariant-requests : goal.invariant-requests
invariant-requests l =
    (l.done ≤ l.units) × (l.self.journal ≡ l.initial.self.journal) × (l.self.limits ≡ l.initial.self.limits) × (l.self.spent ≡ false) × (l.self.units ≡ l.initial.self.units + l.done)
    × (l.self.taken ≡ l.initial.self.taken)

abbrev pub decreases-requests : goal.decreases-requests
decreases-requests l = l.units - l.done
