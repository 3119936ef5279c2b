-- What verification finds out, line by line.
use Rattle.std.specs.Prelude.{◌≡◌, ◌↔◌, ◌≤◌, ◌<◌, ℕ, ◌+◌, List, length, Bool, true, false, Option, Some, None, slice_get}
use Rattle.aud_code.specs.Instruction.{Instruction, PassIfFalse, PassIfTrue}
use Rattle.aud_code.specs.Flat.{FlatLine, instructs, end, instructions_from}
use Rattle.aud_code.specs.Frames.{At, EachAt, StepFits}
use Rattle.aud_code.specs.Sound.{Counts, IsStart, EachStart, Leads}
use Rattle.aud_code.specs.declared.counts.Counts.{Counts as InMemory}

-- the cells of an object have begun, where that is needed
abbrev pub IsMet : Bool → Bool → Type 0
IsMet true begun = begun ≡ true
IsMet false begun = Unit {0}

-- no more is needed than there is
pub record IsEnough (need : InMemory) (c : Counts) : Type 0 where
  pub integers : need.integers ≤ c.integers
  pub booleans : need.booleans ≤ c.booleans
  pub targets : need.targets ≤ c.targets
  pub names : need.names ≤ c.names
  pub cells : IsMet need.cells c.cells

-- what comes then is fine exactly with what is needed
abbrev pub Needs : (Counts → Type 0) → InMemory → Type 0
Needs P need = (c : Counts) → P c ↔ IsEnough need c

-- how many instructions one passes, if it passes any
abbrev pub passed_of : Instruction → ℕ
passed_of (PassIfFalse n) = n
passed_of (PassIfTrue n) = n
passed_of i = 0

-- so many instructions stand from a place on, before the ending of their step
abbrev pub Before : List FlatLine → ℕ → Type 0
Before lines count = length (instructions_from lines) ≡ count

-- an ending leads to steps, and the step behind it fits its frames
abbrev pub LineFineBy : List FlatLine → ℕ → Option FlatLine → Type 0
LineFineBy lines place None = Unit {0}
LineFineBy lines place (Some (instructs i)) = Unit {0}
LineFineBy lines place (Some (end l)) = Leads lines l × StepFits lines (place + 1)

abbrev pub LineFine : List FlatLine → ℕ → Type 0
LineFine lines place = LineFineBy lines place (slice_get lines place)

-- bodies begin with steps, and with no frame of a construct; each step leads to steps, and fits its frames
abbrev pub Framed : List FlatLine → List ℕ → ℕ → Type 0
Framed lines starts spare =
    ((EachStart lines starts × IsStart lines spare) × (EachAt lines starts None × At lines spare None))
    × (StepFits lines 0 × ((k : ℕ) → k < length lines → LineFine lines k))
