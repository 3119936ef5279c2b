-- What readers and writers tell of their calls.
use Rattle.std.specs.Prelude.{◌≡◌, ℕ, ◌+◌, ◌≤◌, List, ◌++◌, Option}
use Rattle.std.specs.Io.KnownBytes.{Appends}

-- at most so many calls were counted
abbrev pub CountsUpTo : ℕ → ℕ → ℕ → Type 0
CountsUpTo most old new = (old ≤ new) × (new ≤ old + most)

-- bytes are written, whichever
abbrev pub Grows : Option (List ℕ) → Option (List ℕ) → Type 0
Grows old new = (some : List ℕ) × Appends old new some

-- what is written begins with these bytes
abbrev pub AppendsFirst : Option (List ℕ) → Option (List ℕ) → List ℕ → Type 0
AppendsFirst old new bytes = (rest : List ℕ) × Appends old new (bytes ++ rest)

-- a prefix of the bytes is written
abbrev pub AppendsPrefix : Option (List ℕ) → Option (List ℕ) → List ℕ → Type 0
AppendsPrefix old new bytes = (some rest : List ℕ) × Appends old new some × (bytes ≡ some ++ rest)
