use Rattle.std.proofs.Common.{◌≡◌, suc, ◌+◌, ◌++◌, drop}
use Rattle.std.specs.Prelude.{map}
use Rattle.aud_code.specs.View.{plain_way}
use Rattle.aud_layout.specs.Layout.{stub_ways}
use Rattle.aud_layout.proofs.ways.Ways.in_block.Given as goal

abbrev pub invariant-loop : goal.invariant-loop
invariant-loop l =
    (l.place ≡ l.last + l.index) × (map plain_way l.exits.items ++ stub_ways (map plain_way (drop l.index l.items)) (suc l.place) ≡ stub_ways (map plain_way l.items) (suc l.last))
