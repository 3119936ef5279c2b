-- The configurations that a program comes to, and what holds of each of them.
use Rattle.std.specs.Prelude.{◌≡◌, ℕ, List, Option, Some, None, slice_get}
use Rattle.aud_text.specs.declared.limits.Limits.{Limits}
use Rattle.aud_typed.specs.Tree.{Plan}
use Rattle.aud_meaning.specs.declared.state.Move.{Move}
use Rattle.aud_meaning.specs.declared.state.Status.TheVariants.{Running}
use Rattle.aud_meaning.specs.Configuration.{TaskAt, All}
use Rattle.aud_meaning.specs.Run.{advanced, moves_at, opening_with, run_with, step_with, supplied}
use Rattle.aud_code.specs.Places.{Spot}
use Rattle.aud_code.specs.Flat.{Flat, flat_controls}
use Rattle.aud_code.specs.Seen.{IsSeen}
use Rattle.aud_code.specs.Sound.{Counts, IsSound}
use Rattle.aud_over.specs.Over.{forgotten}
use Rattle.aud_framed.specs.Framed.{HasLevels, MeetsBy}
use Rattle.aud_framed.specs.Stepping.{HasWays, IsKept}

-- Whatever choices wait, whatever time it is, and whichever enabled moves are taken.
pub data Reached (plan : Plan) (code : Flat) (name : List ℕ) (limits : Limits) : All Spot → Type 0 where
  begins : Reached plan code name limits (opening_with plan name ((flat_controls plan code).begins 0))
  chooses : (choices : List ℕ) (c : All Spot) → Reached plan code name limits c → Reached plan code name limits (record c { choices = choices })
  waits : (milliseconds : ℕ) (c : All Spot) → Reached plan code name limits c → Reached plan code name limits (advanced milliseconds c)
  steps : (number : ℕ) (m : Move) (c : All Spot) →
      slice_get (moves_at plan (flat_controls plan code) c) number ≡ Some m → Reached plan code name limits c →
      Reached plan code name limits (step_with plan (flat_controls plan code) limits c m)

-- each enabled move of a task that runs meets what code alone doesn't say
abbrev pub MeetsIf : Plan → Flat → Option (TaskAt Spot) → ℕ → All Spot → Type 0
MeetsIf plan code None n c = Unit {0}
MeetsIf plan code (Some t) n c = t.own.status ≡ Running → MeetsBy plan code (Some t) n c

abbrev pub AllMeet : Plan → Flat → List ℕ → Limits → Type 0
AllMeet plan code name limits =
    (c : All Spot) (number : ℕ) (m : Move) → Reached plan code name limits c →
    slice_get (moves_at plan (flat_controls plan code) c) number ≡ Some m → MeetsIf plan code (slice_get c.tasks m.task) m.task c

-- Then tasks hold their frames in each of them.
abbrev pub RunFramedLaw : Type 0
RunFramedLaw =
    (plan : Plan) (code : Flat) (table : List Counts) (tasks barriers seen : List ℕ) (name : List ℕ) (limits : Limits) (c : All Spot) →
    IsSound code → IsSeen code table tasks barriers seen → HasLevels plan code tasks seen → HasWays code → AllMeet plan code name limits →
    Reached plan code name limits c → IsKept plan code seen c

-- The same is left of it as of one that the program comes to.
abbrev pub Comes : Plan → Flat → List ℕ → Limits → All Spot → Type 0
Comes plan code name limits d = (c : All Spot) × Reached plan code name limits c × (forgotten c ≡ forgotten d)

-- So it is of one with other parts that are over, of what the user supplies, and of steps and runs.
pub record GoesOn (plan : Plan) (code : Flat) (name : List ℕ) (limits : Limits) : Type 0 where
  pub begins : Comes plan code name limits (opening_with plan name ((flat_controls plan code).begins 0))
  pub kept : (c d : All Spot) → forgotten d ≡ forgotten c → Comes plan code name limits c → Comes plan code name limits d
  pub supplies : (choices : List ℕ) (c : All Spot) → Comes plan code name limits c → Comes plan code name limits (supplied choices c)
  pub waits : (milliseconds : ℕ) (c : All Spot) → Comes plan code name limits c → Comes plan code name limits (advanced milliseconds c)
  pub steps : (number : ℕ) (m : Move) (c : All Spot) →
      slice_get (moves_at plan (flat_controls plan code) c) number ≡ Some m → Comes plan code name limits c →
      Comes plan code name limits (step_with plan (flat_controls plan code) limits c m)
  pub runs : (n : ℕ) (c : All Spot) → Comes plan code name limits c → Comes plan code name limits (run_with plan (flat_controls plan code) limits n c)

abbrev pub ComesLaw : Type 0
ComesLaw = (plan : Plan) (code : Flat) (name : List ℕ) (limits : Limits) → GoesOn plan code name limits

-- Tasks hold their frames there, too.
abbrev pub ComesFramedLaw : Type 0
ComesFramedLaw =
    (plan : Plan) (code : Flat) (table : List Counts) (tasks barriers seen : List ℕ) (name : List ℕ) (limits : Limits) (c : All Spot) →
    IsSound code → IsSeen code table tasks barriers seen → HasLevels plan code tasks seen → HasWays code → AllMeet plan code name limits →
    Comes plan code name limits c → IsKept plan code seen c
