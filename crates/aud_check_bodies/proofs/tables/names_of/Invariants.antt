use Rattle.std.proofs.Common.{◌≡◌, ◌++◌, map}
use Rattle.aud_typed.specs.Ties.View.{plain_named}
use Rattle.aud_check_bodies.specs.Regions.{shown_names}
use Rattle.aud_check_bodies.proofs.tables.names_of.Given as goal

abbrev pub invariant-loop-name : goal.invariant-loop-name
invariant-loop-name l = map plain_named l.names.items ++ shown_names l.name-iterator ≡ shown_names l.region.symbols.entries
