use Rattle.std.proofs.Common.{◌≡◌, ◌+◌, ◌-◌, ◌++◌}
use Rattle.aud_sequential.specs.Parked.{numbers_from}
use Rattle.aud_sequential.proofs.progress.tasks.cells_of.Given as goal

abbrev pub invariant-loop-index : goal.invariant-loop-index
invariant-loop-index l = l.cells.items ++ numbers_from (l.first + l.index) (l.count - l.index) ≡ numbers_from l.first l.count
