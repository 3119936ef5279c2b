-- Steps by their turns.
use Rattle.std.specs.Prelude.{◌≡◌, ℕ, List, Option, Some, None, false, slice_get}
use Rattle.aud_text.specs.declared.limits.Limits.{Limits}
use Rattle.aud_typed.specs.Tree.{Plan}
use Rattle.aud_meaning.specs.declared.state.Move.{Move}
use Rattle.aud_meaning.specs.declared.state.Pending.{Pending}
use Rattle.aud_meaning.specs.declared.state.Status.TheVariants.{Running}
use Rattle.aud_meaning.specs.Configuration.{TaskAt, All}
use Rattle.aud_meaning.specs.Control.{ending, ends, is_left_by}
use Rattle.aud_meaning.specs.Orders.{carried_out}
use Rattle.aud_meaning.specs.Parts.{in_action, sight_of}
use Rattle.aud_meaning.specs.Run.{is_leave, moves_at, scene_of, step_with}
use Rattle.aud_meaning.specs.Step.{done}
use Rattle.aud_code.specs.Places.{Spot, loops_of}
use Rattle.aud_code.specs.Flat.{Flat, asked_at, coming_at, end_at, flat_controls}
use Rattle.aud_code.specs.Seen.{IsSeen}
use Rattle.aud_code.specs.Sound.{Counts, IsSound}
use Rattle.aud_framed.specs.Enabled.{ComingTells}
use Rattle.aud_framed.specs.Framed.{HasLevels, IsFramed, MeetsBy}
use Rattle.aud_framed.specs.Stepping.{AskedBy, HasWays, IsKept}

-- The innermost construct is left by its leaving step, or by an exception.
abbrev pub EndsKeptLaw : Type 0
EndsKeptLaw =
    (plan : Plan) (code : Flat) (table : List Counts) (tasks barriers seen : List ℕ) (limits : Limits) (alternative : Option ℕ) (n loops : ℕ) (c : All Spot) (t : TaskAt Spot) (p : Pending) →
    IsSound code → IsSeen code table tasks barriers seen → HasWays code → IsKept plan code seen c →
    slice_get c.tasks n ≡ Some t → t.own.status ≡ Running → t.own.serving ≡ None → t.own.restart ≡ None → ComingTells n c ending →
    (t.own.pending ≡ None → AskedBy (end_at code t.control.place).last (loops_of (end_at code t.control.place).exit) (ends loops) → IsKept plan code seen (done (carried_out (flat_controls plan code)) plan (flat_controls plan code).barrier limits alternative (ends loops) n c)) × (t.own.pending ≡ Some p → t.own.again ≡ None → IsKept plan code seen (done (carried_out (flat_controls plan code)) plan (flat_controls plan code).barrier limits alternative (is_left_by p) n c))

-- Whatever a task's own statements ask. One that is abnormal acts within an action, or at the end of a master.
abbrev pub ActsKeptLaw : Type 0
ActsKeptLaw =
    (plan : Plan) (code : Flat) (table : List Counts) (tasks barriers seen : List ℕ) (limits : Limits) (alternative : Option ℕ) (n : ℕ) (c : All Spot) (t : TaskAt Spot) →
    IsSound code → IsSeen code table tasks barriers seen → HasLevels plan code tasks seen → HasWays code → IsKept plan code seen c →
    slice_get c.tasks n ≡ Some t → t.own.status ≡ Running → t.own.serving ≡ None → t.own.restart ≡ None → MeetsBy plan code (Some t) n c →
    ComingTells n c (coming_at code plan t.own.pending (sight_of n c) t.control) →
    (in_action n c ≡ false → is_leave (coming_at code plan t.own.pending (sight_of n c) t.control) t.own ≡ false → t.own.abnormal ≡ false) →
    IsFramed plan code seen (done (carried_out (flat_controls plan code)) plan (flat_controls plan code).barrier limits alternative (asked_at code t.own.pending (scene_of plan (flat_controls plan code) n c) t.control) n c)

-- An enabled step keeps the frames that tasks hold, if a task that runs meets what code alone doesn't say.
abbrev pub FramedLaw : Type 0
FramedLaw =
    (plan : Plan) (code : Flat) (table : List Counts) (tasks barriers seen : List ℕ) (limits : Limits) (c : All Spot) (number : ℕ) (m : Move) (t : TaskAt Spot) →
    IsSound code → IsSeen code table tasks barriers seen → HasLevels plan code tasks seen → HasWays code → IsKept plan code seen c →
    slice_get (moves_at plan (flat_controls plan code) c) number ≡ Some m → slice_get c.tasks m.task ≡ Some t → (t.own.status ≡ Running → MeetsBy plan code (Some t) m.task c) →
    IsKept plan code seen (step_with plan (flat_controls plan code) limits c m)
