-- What decides on the moves of a task beside its own part.
use Rattle.std.specs.Prelude.{◌≡◌, ◌<◌, ℕ, List, [], ◌∷◌, length, Option, Some, None, Bool, true, false, slice_get}
use Rattle.aud_typed.specs.Tree.{Plan}
use Rattle.aud_meaning.specs.Configuration as configuration
use Rattle.aud_meaning.specs.Configuration.{for_accept, Opened, TaskAt, All}
use Rattle.aud_meaning.specs.Control.{Coming, ending, selecting, calling, starting}
use Rattle.aud_meaning.specs.Evaluation.{Sight, number_in}
use Rattle.aud_meaning.specs.Parts.{own_of, sight_of, unit_of}
use Rattle.aud_meaning.specs.Run.{again_left, construct_left}
use Rattle.aud_code.specs.declared.line.Among.{Among}
use Rattle.aud_code.specs.declared.line.Among.TheVariants as among
use Rattle.aud_code.specs.declared.line.Last.{Last}
use Rattle.aud_code.specs.declared.line.Last.TheVariants.{Concerns, Does, Ends, Guards, Leaves}
use Rattle.aud_code.specs.Eval.{accepts_in, named_in}
use Rattle.aud_code.specs.Flat.{Flat, no_scene}
use Rattle.aud_code.specs.Instruction.{Ended}
use Rattle.aud_code.specs.Places.{Spot}
use Rattle.aud_expr.specs.Flow.{evaluated_by}
use Rattle.aud_store.specs.declared.purpose.Purpose.{Purpose}
use Rattle.aud_store.specs.declared.purpose.Purpose.TheVariants.{Accept}
use Rattle.aud_tasks.specs.declared.again.Target.{Target}
use Rattle.aud_tasks.specs.declared.choice.Choice.{Choice}
use Rattle.aud_tasks.specs.declared.choice.Choice.TheVariants.{Select, Call}
use Rattle.aud_tasks.specs.declared.choice.Start.{Start}
use Rattle.aud_tasks.specs.Turning.{coming_in}

-- what is evaluated up to the mark
abbrev pub marked : Flat → ℕ → TaskAt Spot → All Spot → Ended
marked code n t c = evaluated_by true code t.control.place (no_scene (sight_of n c))

abbrev pub comes_of : Choice → Ended → Coming
comes_of Select x = selecting (accepts_in x)
comes_of (Call entry) x = calling (named_in x) entry

-- a step of this choice comes next of the task of a number
abbrev pub ComesTo : Choice → Plan → Flat → ℕ → All Spot → Type 0
ComesTo choice plan code n c = (t : TaskAt Spot) → slice_get c.tasks n ≡ Some t → (t.control.place < length code.lines) × (coming_in plan code n c ≡ comes_of choice (marked code n t c))

-- whether the step with this ending is one
abbrev pub choice_of : Last → Option Choice
choice_of (Concerns a next) = by a
  where
    by : Among → Option Choice
    by (among.Select has_else own offers) = Some Select
    by (among.Call entry kind otherwise) = Some (Call entry)
    by other = None
choice_of last = None

-- the call of an object that the step with this ending is, by a task that sees this
abbrev pub start_in : Plan → Last → Sight → Option Start
start_in plan (Concerns a next) s = by a
  where
    by : Among → Option Start
    by (among.CallObject v entry kind otherwise) = Some (record { object = number_in v s; reading = false })
    by (among.Operation v unit) = Some (record { object = number_in v s; reading = (unit_of plan unit).is_function })
    by other = None
start_in plan last s = None

-- no call of an object comes next
abbrev pub IsNoStart : Coming → Type 0
IsNoStart (starting object reading) = ⊥
IsNoStart next = Unit {0}

-- whether it is a statement's that concerns its task alone
abbrev pub is_alone : Last → Bool
is_alone (Does e next) = true
is_alone last = false

-- The end of an accept that makes its call again (RM 9.5.4).

-- a step with this ending counts as one that leaves a construct
abbrev pub is_end : Last → Bool
is_end (Guards gs) = true
is_end (Ends c next) = true
is_end (Leaves n to) = true
is_end last = false

abbrev pub is_ending : Coming → Bool
is_ending ending = true
is_ending next = false

-- what an accept's frame is opened for
abbrev pub is_accept : Purpose → Bool
is_accept (Accept call) = true
is_accept purpose = false

abbrev pub for_an_accept : configuration.Purpose → Bool
for_an_accept (for_accept call) = true
for_an_accept purpose = false

-- an accept is the innermost one of these
abbrev pub leaves_accept : List Opened → Bool
leaves_accept [] = false
leaves_accept (o ∷ os) = for_an_accept o.purpose

-- where the task of a number makes a call again if it leaves a construct next: on a task's entry
abbrev pub again_in : ℕ → All Spot → Option (ℕ × ℕ)
again_in n c = let own = own_of n c in again_left own.pending own.again (construct_left own)

abbrev pub target_in : Option Target → Option (ℕ × ℕ)
target_in None = None
target_in (Some t) = Some (t.task, t.entry)

-- so memory tells it
abbrev pub MakesAgain : Flat → ℕ → All Spot → Option Target → Type 0
MakesAgain code n c None = (plan : Plan) → coming_in plan code n c ≡ ending → again_in n c ≡ None
MakesAgain code n c (Some t) = ((plan : Plan) → coming_in plan code n c ≡ ending) × (again_in n c ≡ Some (t.task, t.entry))
