-- Where ways in memory lead.
use Rattle.std.specs.Prelude.{ℕ, List, [], ◌∷◌, ◌++◌, map}
use Rattle.aud_code.specs.Places.{Way}
use Rattle.aud_code.specs.View.{plain_way}
use Rattle.aud_layout.specs.Layout.{Around}
use Rattle.aud_layout.specs.declared.ways.Ways.{Ways}

-- to a place, with no frame of a loop that is left
abbrev pub way_to : ℕ → Way
way_to place = record { to = place; loops = 0 }

-- what surrounds statements out of which these ways lead, and of which exceptions go to out
abbrev pub around : ℕ → Ways → Around
around out w = record { out = out; within = w.within; exits = map plain_way w.exits.items; back = plain_way w.back }

abbrev pub all_ways : Around → List Way
all_ways a = a.exits ++ a.back ∷ []
