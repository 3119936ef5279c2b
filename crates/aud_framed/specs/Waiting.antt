-- What a task stands at, by its status.
use Rattle.std.specs.Prelude.{◌≡◌, ℕ, List, [], ◌∷◌, length, None, Bool, false, slice_get}
use Rattle.aud_typed.specs.Tree.{Plan, ObjectPlan}
use Rattle.aud_meaning.specs.declared.state.OpenAccept.{OpenAccept}
use Rattle.aud_meaning.specs.declared.state.Status.{Status}
use Rattle.aud_meaning.specs.declared.state.Status.TheVariants.{Created, Running, Activating, Accepting, Delaying, Calling, Completed, Terminated}
use Rattle.aud_meaning.specs.Configuration.{TaskAt}
use Rattle.aud_meaning.specs.Parts.{any, contains, unit_of}
use Rattle.aud_code.specs.Places.{Spot}
use Rattle.aud_code.specs.Instruction.{Activate, Delay}
use Rattle.aud_code.specs.Flat.{Last, Does, EndLine, FlatLine, Flat, start_at}
use Rattle.aud_code.specs.Frames.{found, Found, IsWritten, OpensAccept, BodyAt}
use Rattle.aud_code.specs.Seen.{DoingSees}
use Rattle.aud_framed.specs.Held.{AtCall, StandsAt, objects_in}

-- the entry is an object's
abbrev pub is_of_object : Plan → ℕ → Bool
is_of_object plan entry = any (λ (o : ObjectPlan). contains entry o.entries) plan.objects

module _ (lines : List FlatLine) (seen : List ℕ) where
  -- what an accept does that is open stands where the step leads, and has the frames that the step opens
  abbrev pub IsOffered : EndLine → ℕ → ℕ → OpenAccept → Type 0
  IsOffered l place n a = IsWritten (slice_get l.bodies a.alternative) (λ b. BodyAt lines a.region l.within place b × DoingSees seen a.region n b)

  abbrev pub EachOffered : EndLine → ℕ → ℕ → List OpenAccept → Type 0
  EachOffered l place n [] = Unit {0}
  EachOffered l place n (a ∷ more) = IsOffered l place n a × EachOffered l place n more

-- each is of an entry of a task
abbrev pub AllOfTasks : Plan → List OpenAccept → Type 0
AllOfTasks plan [] = Unit {0}
AllOfTasks plan (a ∷ more) = (is_of_object plan a.entry ≡ false) × AllOfTasks plan more

module _ (plan : Plan) (code : Flat) (seen : List ℕ) where
  -- a task that is created sees what its body will see besides its own frame
  pub record IsCreated (t : TaskAt Spot) : Type 0 where
    pub place : t.control ≡ record { place = start_at code t.own.unit; returns = [] }
    pub display : length t.own.display ≡ (unit_of plan t.own.unit).level
    pub opened : t.own.opened ≡ []
    pub none : t.own.pending ≡ None

  abbrev pub Stands : TaskAt Spot → Type 0
  Stands t = StandsAt code.lines seen t.own.pending t.control t.own.display t.own.opened

  -- a blocked task stands at the statement that it waits at, and nothing is pending
  abbrev pub StandsStill : (Last → Type 0) → TaskAt Spot → Type 0
  StandsStill waits t = Stands t × (t.own.pending ≡ None) × Found (found code.lines t.control.place) (λ l. waits l.last)

  -- at an accept or selective accept, which leads into each accept that is open
  abbrev pub Accepts : TaskAt Spot → Type 0
  Accepts t = Found (found code.lines t.control.place) (λ l. OpensAccept l.last × EachOffered code.lines seen l t.control.place (length t.own.display) t.own.waits.accepts)

  -- one that is completed does nothing any more; one that accepts is in no object's body
  abbrev pub TaskFramed : Status → TaskAt Spot → Type 0
  TaskFramed Created t = IsCreated t
  TaskFramed Running t = Stands t
  TaskFramed Activating t = StandsStill (λ last. last ≡ Does Activate) t
  TaskFramed Accepting t = Stands t × ((t.own.pending ≡ None) × (Accepts t × (AllOfTasks plan t.own.waits.accepts × (objects_in t.own.opened ≡ []))))
  TaskFramed Delaying t = StandsStill (λ last. last ≡ Does Delay) t
  TaskFramed Calling t = Stands t × (t.own.pending ≡ None) × AtCall code.lines (t.control.place ∷ [])
  TaskFramed Completed t = Unit {0}
  TaskFramed Terminated t = Unit {0}

  abbrev pub AllFramed : List (TaskAt Spot) → Type 0
  AllFramed [] = Unit {0}
  AllFramed (t ∷ ts) = TaskFramed t.own.status t × AllFramed ts
