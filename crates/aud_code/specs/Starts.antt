-- Where tasks stand: at places where steps begin, whatever is ordered.
use Rattle.std.specs.Prelude.{◌≡◌, ◌⊎◌, ℕ, List, [], ◌∷◌, length}
use Rattle.aud_meaning.specs.Configuration.{TaskAt}
use Rattle.aud_code.specs.Places.{Spot}
use Rattle.aud_code.specs.Flat.{FlatLine}
use Rattle.aud_code.specs.Sound.{IsStart}

-- a step begins there, or it is behind all lines, where a task has nothing left to do
abbrev pub IsPlace : List FlatLine → ℕ → Type 0
IsPlace lines n = IsStart lines n ⊎ (n ≡ length lines)

abbrev pub ArePlaces : List FlatLine → List ℕ → Type 0
ArePlaces lines [] = Unit {0}
ArePlaces lines (n ∷ ns) = IsPlace lines n × ArePlaces lines ns

-- of a task, with the places of its callers
pub record IsSpot (lines : List FlatLine) (s : Spot) : Type 0 where
  pub place : IsPlace lines s.place
  pub returns : ArePlaces lines s.returns

abbrev pub AreSpots : List FlatLine → List (TaskAt Spot) → Type 0
AreSpots lines [] = Unit {0}
AreSpots lines (t ∷ ts) = IsSpot lines t.control × AreSpots lines ts
