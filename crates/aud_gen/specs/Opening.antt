-- What is counted of the frames beside code so far.
use Rattle.std.specs.Prelude.{◌≡◌, ◌≤◌, ℕ, List, [], ◌∷◌, ◌++◌, Option, Some, map, slice_index_or}
use Rattle.aud_typed.specs.declared.program.Entry.{Entry}
use Rattle.aud_typed.specs.declared.program.TaskType.{TaskType}
use Rattle.aud_typed.specs.declared.program.Unit as declared
use Rattle.aud_typed.specs.Ties.View.{plain_entry}
use Rattle.aud_code.specs.Flat.{EndLine, FlatLine}
use Rattle.aud_code.specs.Frames.{found}
use Rattle.aud_layout.specs.Opened.{BodyCounts}

abbrev pub Grows : List ℕ → List ℕ → Type 0
Grows old new = (more : List ℕ) × (new ≡ old ++ more)

-- the step that begins at a place, or goes on there, stands within this frame
abbrev pub StepWithin : List FlatLine → ℕ → Option ℕ → Type 0
StepWithin lines place within = (l : EndLine) → found lines place ≡ Some l → l.within ≡ within

-- from one place up to another these are counted, and stay so where more are counted
abbrev pub AreCounted : List FlatLine → ℕ → ℕ → ℕ → List ℕ → Type 0
AreCounted lines base first last seen = (all : List ℕ) → Grows seen all → BodyCounts lines all base first last

-- each body begins where the one before it does, or behind that
abbrev pub AreOrdered : ℕ → List ℕ → ℕ → ℕ → Type 0
AreOrdered from [] spare last = (from ≤ spare) × (spare ≤ last)
AreOrdered from (s ∷ ss) spare last = (from ≤ s) × AreOrdered s ss spare last

abbrev pub body_in_type : TaskType → ℕ
body_in_type t = t.unit

abbrev pub level_in : declared.Unit → ℕ
level_in u = u.level

-- how many frames the barrier of an entry sees: those that the entry's body sees besides its own
abbrev pub frames_before : List declared.Unit → Entry → ℕ
frames_before units e = slice_index_or (map level_in units) (plain_entry e).unit 0
