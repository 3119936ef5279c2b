use Rattle.std.proofs.Common.{◌≡◌, ◌++◌, drop, map}
use Rattle.aud_meaning.specs.Run.{picks}
use Rattle.aud_tasks.proofs.enabled.list_alternatives.Given as goal

abbrev pub invariant-loop-number : goal.invariant-loop-number
invariant-loop-number l = l.moves.items ++ map (picks l.task) (drop l.number-index l.numbers) ≡ l.fn.moves.items ++ map (picks l.task) l.numbers
