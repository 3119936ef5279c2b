-- The moves of one task, and the times that tasks wait for, as memory tells them.
use Rattle.std.specs.Prelude.{◌≡◌, ◌<◌, ℕ, min, List, [], ◌∷◌, length, drop, map, filter, Option, Some, None, Bool, true, nat_le, if◌then◌else◌, is_some, slice_get}
use Rattle.aud_typed.specs.Tree.{Plan}
use Rattle.aud_meaning.specs.declared.state.Move.{Move}
use Rattle.aud_meaning.specs.declared.state.OpenDelay.{OpenDelay}
use Rattle.aud_meaning.specs.Configuration.{All}
use Rattle.aud_meaning.specs.Control.{Coming, simply, selecting, calling}
use Rattle.aud_meaning.specs.Run.{moves_from, own_move, picks, seen, turn_moves, turn_times}
use Rattle.aud_code.specs.Places.{Spot}
use Rattle.aud_code.specs.Flat.{Flat, barrier_at, flat_controls}
use Rattle.aud_tasks.specs.Turning.{turn_in}

-- one for each of these delays whose time has come
abbrev pub picked : ℕ → ℕ → List OpenDelay → List Move
picked task clock ds = map (λ (d : OpenDelay). picks task d.alternative) (filter (λ (d : OpenDelay). nat_le d.time clock) ds)

-- its only one, where that is enabled
abbrev pub alone_if : Bool → ℕ → List Move
alone_if b task = if b then own_move task ∷ [] else []

-- those of the task of a number
abbrev pub moves_of : Plan → Flat → ℕ → All Spot → List Move
moves_of plan code n c = turn_moves plan (barrier_at code) (turn_in plan code n c) n (seen plan (flat_controls plan code) c)

-- those of the tasks from a number on
abbrev pub moves_behind : Plan → Flat → ℕ → All Spot → List Move
moves_behind plan code n c = let d = seen plan (flat_controls plan code) c in moves_from plan (barrier_at code) n (drop n d.tasks) d

-- whether there are some
abbrev pub has_some : List Move → Bool
has_some ms = is_some (slice_get ms 0)

-- the first one from a number on that has a move
pub record IsNextMover (plan : Plan) (code : Flat) (from task : ℕ) (c : All Spot) : Type 0 where
  pub within : task < length c.tasks
  pub behind : moves_behind plan code from c ≡ moves_behind plan code task c
  pub moves : has_some (moves_of plan code task c) ≡ true

-- what comes next of a task that is at no choice
abbrev pub IsSingle : Coming → Type 0
IsSingle (selecting ones) = ⊥
IsSingle (calling task entry) = ⊥
IsSingle next = Unit {0}

-- what comes next of a task that has its own move whatever others do
abbrev pub IsSimple : Coming → Type 0
IsSimple (simply w) = Unit {0}
IsSimple next = ⊥

-- the times that it waits for
abbrev pub times_of : Plan → Flat → ℕ → All Spot → List ℕ
times_of plan code n c = turn_times plan (barrier_at code) (turn_in plan code n c) (seen plan (flat_controls plan code) c)

-- the soonest of some times, and of one that was found before them
abbrev pub sooner : Option ℕ → ℕ → ℕ
sooner None time = time
sooner (Some found) time = min found time

abbrev pub soonest : Option ℕ → List ℕ → Option ℕ
soonest found [] = found
soonest found (time ∷ times) = soonest (Some (sooner found time)) times
