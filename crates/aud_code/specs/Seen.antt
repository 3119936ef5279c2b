-- The table of frames beside code: before each line, how many frames are open whose variables may be named there, the main procedure's
-- first. It is checked line by line, against what is written where the line leads. While an object is declared there is one more, of its
-- own components.
use Rattle.std.specs.Prelude.{◌≡◌, ◌⊎◌, ◌<◌, ◌≤◌, ℕ, zero, suc, ◌+◌, List, [], ◌∷◌, length, Bool, true, false, Option, Some, None, slice_get, slice_index_or}
use Rattle.aud_typed.specs.declared.program.ArrayAt.{ArrayAt}
use Rattle.aud_typed.specs.declared.program.Variable.{Variable}
use Rattle.aud_meaning.specs.declared.state.Construct.TheVariants as construct
use Rattle.aud_meaning.specs.declared.state.OpenAccept.{OpenAccept}
use Rattle.aud_code.specs.Places.{Way, Guard}
use Rattle.aud_code.specs.Instruction.{Instruction, Load, LoadElement, Count, Find, FindElement, Ending, DeclareTasks, Loop, Block, Proc, Operation, CallObject, RequeueObject, Accept, Select}
use Rattle.aud_code.specs.Flat.{Last, Does, Continues, Guards, Ends, Leaves, EndLine, FlatLine, instructs, end, Flat, start_at}
use Rattle.aud_code.specs.Frames.{IsWritten, OpensWith, found, opener, Found}
use Rattle.aud_code.specs.Sound.{Counts}

-- an array without elements has no variable
abbrev pub ArrayOpen : ArrayAt → ℕ → Type 0
ArrayOpen a n = (a.length ≡ 0) ⊎ (a.first.level < n)

-- each variable that it names is of a frame that is open
abbrev pub NamesOpen : Instruction → ℕ → Type 0
NamesOpen (Load v) n = v.level < n
NamesOpen (LoadElement a) n = ArrayOpen a n
NamesOpen (Count v entry) n = v.level < n
NamesOpen (Find v t) n = v.level < n
NamesOpen (FindElement a t) n = ArrayOpen a n
NamesOpen i n = Unit {0}

-- an object's own frame is one more, where its cells have begun
abbrev pub with_own : Bool → ℕ → ℕ
with_own true n = suc n
with_own false n = n

abbrev pub open_with : Option Counts → ℕ → ℕ
open_with None n = n
open_with (Some c) n = with_own c.cells n

-- within the frame that a step opens there is one more
abbrev pub inside : Ending → ℕ → ℕ
inside (Loop f) n = suc n
inside (Block region) n = suc n
inside e n = n

module _ (seen : List ℕ) where
  -- at a place so many fewer are open than n
  abbrev pub Fewer : ℕ → ℕ → ℕ → Type 0
  Fewer k n place = IsWritten (slice_get seen place) (λ m. m + k ≡ n)

  abbrev pub EachSame : ℕ → List ℕ → Type 0
  EachSame n [] = Unit {0}
  EachSame n (p ∷ ps) = Fewer 0 n p × EachSame n ps

  -- the first way leads to where k fewer are open than n, the others to where m are
  abbrev pub WaysSee : ℕ → ℕ → ℕ → List ℕ → Type 0
  WaysSee k n m [] = Unit {0}
  WaysSee k n m (p ∷ ps) = Fewer k n p × EachSame m ps

  -- what an accept does has one more; where it does nothing, it is what follows
  abbrev pub DoingSees : Option ℕ → ℕ → ℕ → Type 0
  DoingSees None n p = Fewer 0 n p
  DoingSees (Some region) n p = Fewer 0 (suc n) p

  -- the one or the other
  abbrev pub EitherSee : ℕ → List ℕ → Type 0
  EitherSee n [] = Unit {0}
  EitherSee n (p ∷ ps) = (Fewer 0 n p ⊎ Fewer 0 (suc n) p) × EitherSee n ps

  abbrev pub BodiesSee : Ending → ℕ → List ℕ → Type 0
  BodiesSee (Accept entry region) n [] = ⊥
  BodiesSee (Accept entry region) n (p ∷ ps) = DoingSees region n p × EitherSee n ps
  BodiesSee e n ps = EitherSee n ps

  -- an accept that is opened in a selective accept's step
  abbrev pub OpenedSees : Last → List ℕ → ℕ → OpenAccept → Type 0
  OpenedSees (Does (Select has_else)) ps n a = IsWritten (slice_get ps a.alternative) (DoingSees a.region n)
  OpenedSees last ps n a = Unit {0}

  abbrev pub StepSees : Option EndLine → ℕ → OpenAccept → Type 0
  StepSees None n a = Unit {0}
  StepSees (Some l) n a = OpenedSees l.last l.bodies n a

  abbrev pub WaySees : ℕ → Option Way → Type 0
  WaySees n None = Unit {0}
  WaySees n (Some w) = Fewer w.loops n w.to

  abbrev pub GuardsSee : ℕ → List Guard → Type 0
  GuardsSee n [] = Unit {0}
  GuardsSee n (g ∷ gs) = Fewer 0 n g.to × GuardsSee n gs

  -- the innermost frame is one more than where the step stands that opened it
  abbrev pub WithinSees : Option ℕ → ℕ → Type 0
  WithinSees None n = Unit {0}
  WithinSees (Some opened) n = Fewer 1 n opened

  -- An exception leads out of as many loops as are around the step, which its frames tell; directly in a body it leads out of none.
  abbrev pub OutSees : Option ℕ → ℕ → ℕ → Type 0
  OutSees None n out = Fewer 0 n out
  OutSees (Some opened) n out = IsWritten (slice_get seen out) (λ m. m ≤ n)

  -- a body is entered where n are open: it sees some of them, and its own
  abbrev pub BodySees : ℕ → ℕ → Type 0
  BodySees n place = IsWritten (slice_get seen place) (λ m. (1 ≤ m) × (m ≤ suc n))

-- A variable that has an object's number lies in the innermost frame around the object's own. The body of an operation sees the frames up to
-- that one, that of the object, and its own; the barrier of an entry is asked without its own.
abbrev pub OperationSees : List ℕ → Variable → ℕ → Type 0
OperationSees seen v place = IsWritten (slice_get seen place) (λ m. m ≡ v.level + 3)

abbrev pub BarrierSees : List ℕ → Variable → ℕ → Type 0
BarrierSees barriers v entry = IsWritten (slice_get barriers entry) (λ m. m ≡ v.level + 2)

-- or else, in the object's body, it is the first of the object's frame
abbrev pub BarrierSeesAgain : List ℕ → Variable → ℕ → Type 0
BarrierSeesAgain barriers v entry = IsWritten (slice_get barriers entry) (λ m. (m ≡ v.level + 2) ⊎ ((v.index ≡ 0) × (m ≡ v.level + 1)))

-- the body of each task type and how many frames each barrier sees, by their numbers, of which code itself says nothing
module _ (code : Flat) (tasks barriers seen : List ℕ) where
  -- the bodies that are entered, the barriers that are asked, and objects that are named
  abbrev pub EndingSees : Ending → ℕ → Type 0
  EndingSees (DeclareTasks ts) n = BodySees seen n (start_at code (slice_index_or tasks ts.task_type 0))
  EndingSees (Proc unit) n = BodySees seen n (start_at code unit)
  EndingSees (Operation v unit) n = (v.level < n) × OperationSees seen v (start_at code unit)
  EndingSees (CallObject v entry form) n = (v.level < n) × BarrierSees barriers v entry
  EndingSees (RequeueObject v entry formals abort) n = (v.level < n) × BarrierSeesAgain barriers v entry
  EndingSees e n = Unit {0}

  -- behind the end of a construct its frame is left; what is around it stands within the step that opened it
  abbrev pub BehindSees : ℕ → EndLine → ℕ → Type 0
  BehindSees zero l next = ⊥
  BehindSees (suc n) l next = Fewer seen 0 n next × Found (opener code.lines l.within) (λ o. OutSees seen o.within n l.out)

  abbrev pub LastSees : Last → ℕ → EndLine → Type 0
  LastSees (Does e) n l =
      EndingSees e n × (WaysSee seen 0 n (inside e n) l.ways × (BodiesSee seen e n l.bodies × (WaySees seen n l.exit × OutSees seen l.within n l.out)))
  LastSees (Continues f) n l = WaysSee seen 1 n n l.ways
  LastSees (Guards gs) n l = GuardsSee seen n gs × Fewer seen 0 n l.out
  LastSees (Ends construct.Unit next) n l = Unit {0}
  LastSees (Ends construct.Block next) n l = BehindSees n l next
  LastSees (Ends construct.Accept next) n l = BehindSees n l next
  LastSees (Leaves loops to) n l = Fewer seen (suc loops) n to

-- barriers name variables of frames that are open
abbrev pub AllOpen : List Instruction → ℕ → Type 0
AllOpen [] n = Unit {0}
AllOpen (i ∷ is) n = NamesOpen i n × AllOpen is n

abbrev pub BarriersSee : List (List Instruction) → List ℕ → Type 0
BarriersSee [] [] = Unit {0}
BarriersSee [] (n ∷ ns) = ⊥
BarriersSee (b ∷ bs) [] = ⊥
BarriersSee (b ∷ bs) (n ∷ ns) = AllOpen b n × BarriersSee bs ns

-- beside a table of operands
module _ (code : Flat) (table : List Counts) (tasks barriers seen : List ℕ) where
  -- An instruction names variables of frames that are open, and the line behind it has as many. An ending leads to where the frames are
  -- open that are written there.
  abbrev pub LineSees : Option FlatLine → ℕ → ℕ → Type 0
  LineSees None place n = Unit {0}
  LineSees (Some (instructs i)) place n =
      NamesOpen i (open_with (slice_get table place) n) × (Fewer seen 0 n (suc place) × OpensWith i (λ a. StepSees seen (found code.lines place) n a))
  LineSees (Some (end l)) place n = WithinSees seen l.within n × LastSees code tasks barriers seen l.last n l

  abbrev pub PlaceSees : ℕ → Type 0
  PlaceSees place = IsWritten (slice_get seen place) (LineSees (slice_get code.lines place) place)

  -- the main procedure has its own frame alone
  pub record IsSeen : Type 0 where
    pub main : BodySees seen 0 (start_at code 0)
    pub each : (place : ℕ) → place < length code.lines → PlaceSees place
    pub barriers_see : BarriersSee code.barriers barriers
