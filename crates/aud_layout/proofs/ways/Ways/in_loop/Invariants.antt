use Rattle.std.proofs.Common.{◌≡◌, ◌∷◌, ◌++◌, drop}
use Rattle.aud_layout.proofs.ways.Ways.in_loop.Given as goal

abbrev pub invariant-loop-way : goal.invariant-loop-way
invariant-loop-way l = l.exits.items ++ drop l.way-index l.way-items ≡ record { to = l.next; loops = 0 } ∷ l.way-items
