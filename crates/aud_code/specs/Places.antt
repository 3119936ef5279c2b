-- Places in code, at which tasks stand, and the ways between them.
use Rattle.std.specs.Prelude.{ℕ, List, [], ◌∷◌, Option, Some, None, Bool, true, false, ◌||◌, if◌then◌else◌}
use Rattle.aud_typed.specs.declared.program.Exception.{Exception}
use Rattle.aud_meaning.specs.Items.{names_it}

-- out of a loop or a body: the place, and how many loops' frames go at once
pub record Way : Type 0 where
  pub to : ℕ
  pub loops : ℕ

pub record Guard : Type 0 where
  pub others : Bool
  pub choices : List Exception
  pub to : ℕ

-- where a task stands: at a step, with the places of the statements that entered the bodies under way, innermost first
pub record Spot : Type 0 where
  pub place : ℕ
  pub returns : List ℕ

abbrev pub goes : ℕ → Spot → Spot
goes place s = record s { place = place }

abbrev pub goes_there : Option ℕ → Spot → Spot
goes_there None s = s
goes_there (Some n) s = goes n s

abbrev pub goes_way : Option Way → Spot → Spot
goes_way None s = s
goes_way (Some w) s = goes w.to s

abbrev pub loops_of : Option Way → ℕ
loops_of None = 0
loops_of (Some w) = w.loops

abbrev pub guarded : Exception → List Guard → Option ℕ
guarded x [] = None
guarded x (g ∷ gs) = if g.others || names_it x g.choices then Some g.to else guarded x gs

abbrev pub is_there : Option ℕ → Bool
is_there None = false
is_there (Some n) = true
