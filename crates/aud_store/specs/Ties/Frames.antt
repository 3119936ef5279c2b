-- Frames by their numbers: of all that were ever made one changes, or only those that are named are left.
use Rattle.std.specs.Prelude.{ℕ, suc, ℤ, List, [], ◌∷◌, map, nat_eq, ◌||◌, if◌then◌else◌, slice_index_or, slice_set}
use Rattle.std.specs.List.{range_with_len}
use Rattle.aud_meaning.specs.Parts.{contains}

-- the frame of this number as its variables lead to, if there is one
abbrev pub with_frame : ℕ → (List ℤ → List ℤ) → List (List ℤ) → List (List ℤ)
with_frame number f frames = slice_set frames number (f (slice_index_or frames number []))

-- so many frames, each with the cells of its number
abbrev pub laid : ℕ → (ℕ → List ℤ) → List (List ℤ)
laid made cells = map cells (range_with_len 0 made)

-- from this number on: the first one of all and those that are named are as they were, the others are without cells
abbrev pub named_from : ℕ → List ℕ → List (List ℤ) → List (List ℤ)
named_from n named [] = []
named_from n named (frame ∷ frames) = (if nat_eq n 0 || contains n named then frame else []) ∷ named_from (suc n) named frames

abbrev pub only_named : List ℕ → List (List ℤ) → List (List ℤ)
only_named named frames = named_from 0 named frames
