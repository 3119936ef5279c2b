use Rattle.std.proofs.Common.{◌≡◌, ◌++◌, drop}
use Rattle.aud_typed.specs.Ties.View.{plain_shown}
use Rattle.aud_meaning.specs.Listings.{values}
use Rattle.aud_debug.proofs.values.push_values.Given as goal

abbrev pub invariant-loop-cell : goal.invariant-loop-cell
invariant-loop-cell l =
    l.out.items ++ values (plain_shown l.shown) (drop l.cell-index l.cells) ≡ l.initial.out.items ++ values (plain_shown l.shown) l.cells
