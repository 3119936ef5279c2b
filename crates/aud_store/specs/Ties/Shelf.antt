-- Frames that are kept, each under a key.
use Rattle.std.specs.Prelude.{◌≡◌, ◌≢◌, ℕ, zero, suc, ◌<◌, ◌≤◌, ℤ, List, [], ◌∷◌, length, Option, Some, None, IsSome, nat_eq, if◌then◌else◌, slice_index_or}
use Rattle.std.specs.List.{All, AllPairs, Contains}
use Rattle.slab.specs.Slab.{Slab, get}
use Rattle.smallvec.specs.SmallVec.{SmallVec}
use Rattle.aud_store.specs.declared.shelf.Kept.{Kept}
use Rattle.aud_store.specs.declared.shelf.Shelf.{Shelf}

-- what lies in slots: cells
abbrev pub Slots : Type 0
Slots = Slab (SmallVec ℤ)

abbrev pub cells_in : Option (SmallVec ℤ) → List ℤ
cells_in None = []
cells_in (Some cells) = cells.items

-- the cells of the frame of this number; none where it is not kept
abbrev pub kept_cells : Slots → List Kept → ℕ → List ℤ
kept_cells slots [] number = []
kept_cells slots (k ∷ ks) number = if nat_eq number k.number then cells_in (get slots k.key) else kept_cells slots ks number

abbrev pub cells_on : Shelf → ℕ → List ℤ
cells_on s number = kept_cells s.slots s.kept.items number

-- the first frame lies apart
abbrev pub frame_of : List ℤ → Shelf → ℕ → List ℤ
frame_of first s zero = first
frame_of first s (suc n) = cells_on s (suc n)

-- of two that are kept: their numbers rise, and their keys differ
abbrev pub Precedes : Kept → Kept → Type 0
Precedes j k = (j.number < k.number) × (j.key ≢ k.key)

-- it is one of so many frames that were made, and not the first, and its key has cells
abbrev pub IsKept : ℕ → Slots → Kept → Type 0
IsKept made slots k = (0 < k.number) × (k.number < made) × IsSome (get slots k.key)

pub record IsShelf (made : ℕ) (s : Shelf) : Type 0 where
  pub ordered : AllPairs Precedes s.kept.items
  pub filled : All (IsKept made s.slots) s.kept.items

-- the frame of this number is kept under this key
abbrev pub Keeps : List Kept → ℕ → ℕ → Type 0
Keeps kept number key = Contains kept (record { number = number; key = key })

-- it stands at this place
pub record IsAt (kept : List Kept) (number at : ℕ) : Type 0 where
  pub within : at < length kept
  pub found : (d : Kept) → (slice_index_or kept at d).number ≡ number

-- it is not kept, and would stand at this place
pub record IsGap (kept : List Kept) (number at : ℕ) : Type 0 where
  pub within : at ≤ length kept
  pub before : (i : ℕ) (d : Kept) → i < at → (slice_index_or kept i d).number < number
  pub behind : (i : ℕ) (d : Kept) → at ≤ i → i < length kept → number < (slice_index_or kept i d).number

-- the frame of this number has the cells that its own lead to, and each other one its own
pub record Changes (number : ℕ) (to : List ℤ → List ℤ) (old new : Shelf) : Type 0 where
  pub this : cells_on new number ≡ to (cells_on old number)
  pub others : (n : ℕ) → n ≢ number → cells_on new n ≡ cells_on old n

-- each one has its own
abbrev pub IsSame : Shelf → Shelf → Type 0
IsSame old new = (n : ℕ) → cells_on new n ≡ cells_on old n
