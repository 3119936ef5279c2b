-- The table of frames that belongs to code: within a construct there is one more than where the step stands that opened its frame, and
-- directly in a body there are its own and those that it sees.
use Rattle.std.specs.Prelude.{◌≡◌, ◌<◌, ◌≤◌, ℕ, suc, List, [], ◌∷◌, length, map, Option, Some, None, slice_get, slice_index_or}
use Rattle.aud_typed.specs.Tree.{UnitPlan, TaskPlan, EntryPlan, Plan, Program}
use Rattle.aud_meaning.specs.Parts.{unit_of}
use Rattle.aud_code.specs.Flat.{EndLine, FlatLine}
use Rattle.aud_code.specs.Frames.{found}
use Rattle.aud_layout.specs.Assembly.{flat_program}

-- how many are open within a frame, of a body in which directly there are so many
abbrev pub opened_in : List ℕ → ℕ → Option ℕ → ℕ
opened_in seen base None = base
opened_in seen base (Some opened) = suc (slice_index_or seen opened 0)

-- the frame was opened further in front
abbrev pub IsBefore : Option ℕ → ℕ → Type 0
IsBefore None place = Unit {0}
IsBefore (Some opened) place = opened < place

-- where the next body begins
abbrev pub next_start : List ℕ → ℕ → ℕ
next_start [] spare = spare
next_start (s ∷ ss) spare = s

module _ (lines : List FlatLine) (seen : List ℕ) where
  abbrev pub PlaceCounts : ℕ → ℕ → Type 0
  PlaceCounts base place = (l : EndLine) → found lines place ≡ Some l → IsBefore l.within place → slice_get seen place ≡ Some (opened_in seen base l.within)

  -- of a body, from one place up to another
  abbrev pub BodyCounts : ℕ → ℕ → ℕ → Type 0
  BodyCounts base first last = (place : ℕ) → first ≤ place → place < last → PlaceCounts base place

  -- of all bodies, by how many frames they see and where they begin; what is run for a number that no body has sees its own alone
  abbrev pub BodiesCount : List ℕ → List ℕ → ℕ → Type 0
  BodiesCount [] starts spare = BodyCounts 1 spare (length lines)
  BodiesCount (n ∷ ns) [] spare = ⊥
  BodiesCount (n ∷ ns) (s ∷ ss) spare = BodyCounts (suc n) s (next_start ss spare) × BodiesCount ns ss spare

abbrev pub level_of : UnitPlan → ℕ
level_of u = u.level

abbrev pub body_of : TaskPlan → ℕ
body_of t = t.unit

-- the body of each task type
abbrev pub task_bodies : Program → List ℕ
task_bodies program = map body_of program.plan.tasks

-- how many frames each barrier sees, by its entry's number: those that its body sees besides its own
abbrev pub frames_before : Plan → EntryPlan → ℕ
frames_before plan e = (unit_of plan e.unit).level

abbrev pub barrier_frames : Program → List ℕ
barrier_frames program = map (frames_before program.plan) program.plan.entries

-- a table counts the frames of a program's code
abbrev pub CountsFrames : Program → List ℕ → Type 0
CountsFrames program seen = BodiesCount (flat_program program).lines seen (map level_of program.plan.units) (flat_program program).starts (flat_program program).spare
