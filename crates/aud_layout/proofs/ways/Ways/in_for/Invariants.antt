use Rattle.std.proofs.Common.{◌≡◌, ◌∷◌, ◌++◌, drop}
use Rattle.std.specs.Prelude.{map}
use Rattle.aud_code.specs.View.{plain_way}
use Rattle.aud_layout.specs.Layout.{one_more}
use Rattle.aud_layout.proofs.ways.Ways.in_for.Given as goal

abbrev pub invariant-loop-way : goal.invariant-loop-way
invariant-loop-way l = map plain_way l.exits.items ++ map one_more (map plain_way (drop l.way-index l.way-items)) ≡ record { to = l.next; loops = 1 } ∷ map one_more (map plain_way l.way-items)
