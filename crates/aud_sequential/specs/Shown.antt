-- The bodies of a program in memory.
use Rattle.std.specs.Prelude.{ℕ, List, map, slice_index_or}
use Rattle.aud_typed.specs.declared.program.Unit as declared
use Rattle.aud_typed.specs.Tree.{UnitPlan, unit_plan}
use Rattle.aud_typed.specs.Ties.View.{plain_unit}
use Rattle.aud_meaning.specs.Parts.{no_unit}

-- their plans, by their numbers
abbrev pub plans_of : List declared.Unit → List UnitPlan
plans_of units = map unit_plan (map plain_unit units)

abbrev pub unit_in : List UnitPlan → ℕ → UnitPlan
unit_in units n = slice_index_or units n no_unit
