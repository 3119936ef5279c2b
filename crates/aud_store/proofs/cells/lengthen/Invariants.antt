use Rattle.std.proofs.Common.{◌≡◌, ◌++◌, ◌+◌, ◌-◌, ◌≤◌, length, replicate}
use Rattle.aud_store.proofs.cells.lengthen.Given as goal

abbrev pub invariant-loop : goal.invariant-loop
invariant-loop l = (l.cells.items ≡ l.fn.cells.items ++ replicate l.counter l.value) × (length l.cells.items + (l.count - l.counter) ≤ l.cells.capacity)
