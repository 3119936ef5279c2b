-- The step of a task's own statements.
use Rattle.std.specs.Prelude.{◌≡◌, ℕ, Option, Some, slice_get}
use Rattle.aud_text.specs.declared.limits.Limits.{Limits}
use Rattle.aud_typed.specs.Tree.{Plan}
use Rattle.aud_meaning.specs.declared.state.Pending.{Pending}
use Rattle.aud_meaning.specs.Configuration.{TaskAt, All}
use Rattle.aud_meaning.specs.Control.{Asked}
use Rattle.aud_meaning.specs.declared.state.Move.{Move}
use Rattle.aud_meaning.specs.Run.{turn_taken}
use Rattle.aud_meaning.specs.Step.{done}
use Rattle.aud_code.specs.Control.{going}
use Rattle.aud_code.specs.Flat.{Flat, EndLine, asked_at, asked_last, barrier_at, end_at}
use Rattle.aud_code.specs.Instruction.{Ended}
use Rattle.aud_code.specs.Places.{Spot, loops_of}
use Rattle.aud_state.specs.Fast.{scene}
use Rattle.aud_tasks.specs.declared.turn.Turn.{Turn}
use Rattle.aud_tasks.specs.Turning.{turned}

-- the task of a number does what is asked for, by the alternative that the move picks
abbrev pub DoesAsked : Plan → Flat → Limits → Option ℕ → ℕ → Asked → All Spot → All Spot → Type 0
DoesAsked plan code limits alternative n a old new =
    new ≡ done (going code) plan (barrier_at code) limits alternative a n old

-- what an ending asks for, where the evaluation before it ended so
abbrev pub DoesEnd : Plan → Flat → Limits → Option ℕ → ℕ → EndLine → Ended → All Spot → All Spot → Type 0
DoesEnd plan code limits alternative n l x old new = DoesAsked plan code limits alternative n (asked_last l.last (loops_of l.exit) l.at (scene n old) x) old new

-- the same at the place where the task stands
abbrev pub EndsThere : Plan → Flat → Limits → Option ℕ → ℕ → Ended → All Spot → All Spot → Type 0
EndsThere plan code limits alternative n x old new = (t : TaskAt Spot) → slice_get old.tasks n ≡ Some t → DoesEnd plan code limits alternative n (end_at code t.control.place) x old new

-- the step of its own statements
abbrev pub ActsSo : Plan → Flat → Limits → Option ℕ → ℕ → All Spot → All Spot → Type 0
ActsSo plan code limits alternative n old new =
    (t : TaskAt Spot) → slice_get old.tasks n ≡ Some t → DoesAsked plan code limits alternative n (asked_at code t.own.pending (scene n old) t.control) old new

abbrev pub ActsPending : Plan → Flat → Limits → Option ℕ → ℕ → Option Pending → All Spot → All Spot → Type 0
ActsPending plan code limits alternative n p old new =
    (t : TaskAt Spot) → slice_get old.tasks n ≡ Some t → DoesAsked plan code limits alternative n (asked_at code p (scene n old) t.control) old new

-- what it does at its turn, whose step is counted already
abbrev pub TakesTurn : Plan → Flat → Limits → Move → Turn → All Spot → All Spot → Type 0
TakesTurn plan code limits m u old new =
    (t : TaskAt Spot) → slice_get old.tasks m.task ≡ Some t →
    new ≡ turn_taken (going code) plan (barrier_at code) limits (turned plan code m.task old u) (asked_at code t.own.pending (scene m.task old) t.control) m old
