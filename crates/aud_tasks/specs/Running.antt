-- What runs of a program with all its tasks do.
use Rattle.std.specs.Prelude.{◌≡◌, ◌<◌, ℕ, ◌+◌, ◌*◌, ◌≤◌, ◌⊎◌, List, [], ◌∷◌, length, Option, Some, None, Bool, true, false, slice_get}
use Rattle.aud_text.specs.declared.limits.Limits.{Limits}
use Rattle.aud_typed.specs.Tree.{Plan}
use Rattle.aud_meaning.specs.Configuration.{TaskAt, All}
use Rattle.aud_meaning.specs.declared.state.Move.{Move}
use Rattle.aud_meaning.specs.declared.state.Status.TheVariants.{Running}
use Rattle.aud_meaning.specs.Control.{Scene, ending, ends}
use Rattle.aud_meaning.specs.Evaluation.{Sight}
use Rattle.aud_meaning.specs.Parts.{any, depends, is_idle, object_of, own_of, sight_of}
use Rattle.aud_meaning.specs.Run.{Turn, acting, construct_left, master_left_by, own_move, moves_at, run_with, state_at, step_with, take_one}
use Rattle.aud_meaning.specs.Why.Limits.{IsWithin}
use Rattle.aud_code.specs.Places.{Spot}
use Rattle.aud_code.specs.declared.line.Last.{Last}
use Rattle.aud_code.specs.declared.line.Last.TheVariants.{Ends, Leaves}
use Rattle.aud_code.specs.Flat.{Flat, asked_at, coming_at, flat_controls}
use Rattle.aud_code.specs.View.{EndsPlainly}
use Rattle.aud_over.specs.Over.{forgotten}
use Rattle.aud_tasks.specs.declared.run.Ran.{Ran}
use Rattle.aud_state.specs.declared.fast.Taken.{Taken}
use Rattle.aud_tasks.specs.Choices.{IsNoStart}
use Rattle.aud_tasks.specs.Counting.{executed, most_of_barriers, most_ticks, step_ticks, ticks_of_one, Counts}
use Rattle.aud_state.specs.Reads.{IsPlain}
use Rattle.aud_tasks.specs.Moving.{IsSimple, has_some, moves_of}
use Rattle.aud_tasks.specs.Turning.{coming_in}

-- the same is left in new as after n steps from old, or after those until no move is enabled, and what was done is told
pub record RunsLeaving (plan : Plan) (code : Flat) (limits : Limits) (n : ℕ) (old new : All Spot) (ran : Ran) : Type 0 where
  pub left : forgotten new ≡ forgotten (run_with plan (flat_controls plan code) limits n old)
  pub steps : ran.steps + old.steps ≡ new.steps
  pub state : ran.state ≡ state_at plan (flat_controls plan code) new
  pub few : ran.ticks ≤ ran.steps * most_ticks plan code
  pub counts : Counts (executed plan code limits ran.steps old) (ran.steps * most_of_barriers plan code) ran.ticks
  -- the limits hold of it, if they held before
  pub kept : IsWithin Spot limits old → IsWithin Spot limits new

-- the move was taken, and no choice is used up
pub record Took (plan : Plan) (code : Flat) (limits : Limits) (m : Move) (old new : All Spot) (ran : Ran) : Type 0 where
  pub next : new ≡ step_with plan (flat_controls plan code) limits old m
  pub one : ran.steps ≡ 1
  pub steps : new.steps ≡ old.steps + 1
  pub state : ran.state ≡ state_at plan (flat_controls plan code) new
  pub few : ran.ticks ≤ most_ticks plan code
  pub counts : Counts (step_ticks plan code old m) (most_of_barriers plan code) ran.ticks

-- without one nothing has changed
abbrev pub Takes : Plan → Flat → Limits → Option Move → All Spot → All Spot → Option Ran → Type 0
Takes plan code limits None old new taken = (taken ≡ None) × (new ≡ old)
Takes plan code limits (Some m) old new taken = (ran : Ran) × (taken ≡ Some ran) × Took plan code limits m old new ran

-- Parts of a run.

-- its own statements go on
abbrev pub is_acting : Turn → Bool
is_acting (acting next) = true
is_acting u = false

-- k steps lead from old to new, so that k + n lead from old to where n lead from new
abbrev pub RunsOn : Plan → Flat → Limits → ℕ → All Spot → All Spot → Type 0
RunsOn plan code limits k old new = (n : ℕ) → run_with plan (flat_controls plan code) limits (k + n) old ≡ run_with plan (flat_controls plan code) limits n new

-- at most n steps that a run does first
pub record RunsFirst (plan : Plan) (code : Flat) (limits : Limits) (n : ℕ) (old new : All Spot) (taken : Taken) : Type 0 where
  pub leads : RunsOn plan code limits taken.steps old new
  pub steps : taken.steps + old.steps ≡ new.steps
  pub within : taken.steps ≤ n
  pub few : taken.ticks ≤ taken.steps * most_ticks plan code
  pub counts : Counts (executed plan code limits taken.steps old) (taken.steps * most_of_barriers plan code) taken.ticks

-- the steps that come next: at least one, at most n; none where no move is enabled
abbrev pub RunsNext : Plan → Flat → Limits → ℕ → All Spot → All Spot → Option Taken → Type 0
RunsNext plan code limits n old new None = (moves_at plan (flat_controls plan code) old ≡ []) × (new ≡ old)
RunsNext plan code limits n old new (Some taken) = RunsFirst plan code limits n old new taken × (0 < taken.steps)

-- no choice is used up for a move: there are no others, or no choice waits
abbrev pub IsUnchosen : List Move → List ℕ → Type 0
IsUnchosen [] choices = Unit {0}
IsUnchosen (m ∷ ms) [] = Unit {0}
IsUnchosen (m ∷ ms) (choice ∷ choices) = ⊥

-- the move of the task of a number is taken, its only one, and no choice is used up for it; it runs as usual
pub record GoesOn (plan : Plan) (code : Flat) (n : ℕ) (c : All Spot) : Type 0 where
  pub others : List Move
  pub moves : moves_at plan (flat_controls plan code) c ≡ own_move n ∷ others
  pub unchosen : IsUnchosen others c.choices
  pub plain : IsPlain (own_of n c)
  pub only : moves_of plan code n c ≡ own_move n ∷ []

-- the ending of a step that leaves a construct
abbrev pub EndsConstruct : Last → Type 0
EndsConstruct (Ends c next) = Unit {0}
EndsConstruct (Leaves n to) = Unit {0}
EndsConstruct last = ⊥

-- the task of a number is to leave a block or procedure next, on which no task depends
pub record LeavesAlone (code : Flat) (n : ℕ) (c : All Spot) : Type 0 where
  pub task : TaskAt Spot
  pub there : slice_get c.tasks n ≡ Some task
  pub none : task.own.pending ≡ None
  pub uncut : c.shared.cut ≡ false
  pub plain : EndsPlainly code
  pub loops : ℕ
  pub asks : (s : Scene) → asked_at code None s task.control ≡ ends loops
  pub comes : (plan : Plan) (s : Sight) → coming_at code plan None s task.control ≡ ending
  pub master : ℕ
  pub leaves : master_left_by (construct_left task.own) ≡ Some master
  pub free : any (λ (t : TaskAt Spot). depends master t.own) c.tasks ≡ false

-- no object has an action under way
abbrev pub AreIdle : All Spot → Type 0
AreIdle c = (object : ℕ) → is_idle (object_of object c) ≡ true

-- no task but that of a number is to begin one next
abbrev pub BeginsAlone : Plan → Flat → ℕ → All Spot → Type 0
BeginsAlone plan code n c = (k : ℕ) (t : TaskAt Spot) → slice_get c.tasks k ≡ Some t → ¬ (k ≡ n) → t.own.status ≡ Running → IsNoStart (coming_at code plan t.own.pending (sight_of k c) t.control)

-- What variables hold keeps no other task from an action. Which object that would be of, a variable tells; which entries are open to
-- one that services an object, too, but that has a move in any case.
abbrev pub HindersNone : Plan → Flat → ℕ → All Spot → Type 0
HindersNone plan code n c = AreIdle c ⊎ BeginsAlone plan code n c

-- the task of a number runs as usual and what comes next of it is simple, if it has a move
abbrev pub ActsSimply : Plan → Flat → ℕ → All Spot → Type 0
ActsSimply plan code n c = has_some (moves_of plan code n c) ≡ true → IsPlain (own_of n c) × IsSimple (coming_in plan code n c)

-- so does each
abbrev pub AreSimple : Plan → Flat → All Spot → Type 0
AreSimple plan code c = (n : ℕ) → ActsSimply plan code n c

-- a move is the step of its task's own statements, and that task has a move
pub record IsOwnMove (plan : Plan) (code : Flat) (m : Move) (c : All Spot) : Type 0 where
  pub own : m ≡ own_move m.task
  pub some : has_some (moves_of plan code m.task c) ≡ true

-- no task that runs is to begin an action of an object
abbrev pub BeginsNone : Plan → Flat → All Spot → Type 0
BeginsNone plan code c = (k : ℕ) (t : TaskAt Spot) → slice_get c.tasks k ≡ Some t → t.own.status ≡ Running → IsNoStart (coming_at code plan t.own.pending (sight_of k c) t.control)

-- the moves stay as they are while tasks that have some go on from one simple step to the next
pub record AreSteady (plan : Plan) (code : Flat) (c : All Spot) : Type 0 where
  pub simple : AreSimple plan code c
  pub starts : AreIdle c ⊎ BeginsNone plan code c

-- a move is taken; before it, where there are others, the next choice is used up
pub record Picks (plan : Plan) (code : Flat) (m : Move) (old new : All Spot) : Type 0 where
  pub first : Move
  pub others : List Move
  pub moves : moves_at plan (flat_controls plan code) old ≡ first ∷ others
  pub taken : (limits : Limits) → take_one plan (flat_controls plan code) limits first others old ≡ step_with plan (flat_controls plan code) limits new m
  pub ticks : ticks_of_one plan code first others old ≡ step_ticks plan code new m
  pub there : m.task < length old.tasks
  pub kept : new ≡ record old { choices = new.choices }

-- or there is no move
abbrev pub Chooses : Plan → Flat → All Spot → All Spot → Option Move → Type 0
Chooses plan code old new None = (moves_at plan (flat_controls plan code) old ≡ []) × (new ≡ old)
Chooses plan code old new (Some m) = Picks plan code m old new
