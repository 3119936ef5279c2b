-- The frames that a task holds where it stands: those that are written beside its code.
use Rattle.std.specs.Prelude.{◌≡◌, ◌⊎◌, ℕ, suc, List, [], ◌∷◌, length, Option, None, Some, Bool, true, false, slice_get}
use Rattle.aud_typed.specs.Tree.{For}
use Rattle.aud_typed.specs.declared.program.Variable.{Variable}
use Rattle.aud_meaning.specs.declared.state.Construct.TheVariants as construct
use Rattle.aud_meaning.specs.declared.state.Pending.{Pending}
use Rattle.aud_meaning.specs.declared.state.Resumed.{Resumed}
use Rattle.aud_meaning.specs.declared.state.Status.TheVariants.{Running, Calling}
use Rattle.aud_meaning.specs.Configuration.{Purpose, for_body, for_block, for_loop, for_procedure, for_operation, for_entry, for_accept, Opened}
use Rattle.aud_code.specs.Places.{Spot}
use Rattle.aud_code.specs.Instruction.{CallKind, Loop, Block, Accept, Select, CallTask, CallObject}
use Rattle.aud_code.specs.Flat.{Last, Does, Continues, Guards, Ends, Leaves, EndLine, FlatLine}
use Rattle.aud_code.specs.Frames.{found, opener, Found}
use Rattle.aud_code.specs.Sound.{IsStart, IsStatement}

-- an exception that has left a block, or what an accept does, is pending at its end: the frame is gone
abbrev pub has_left : Option Pending → Last → Bool
has_left (Some p) (Ends construct.Block next) = true
has_left (Some p) (Ends construct.Accept next) = true
has_left pending last = false

-- else an exception is pending at a statement
abbrev pub MayPend : Option Pending → Last → Type 0
MayPend (Some p) (Does e) = Unit {0}
MayPend (Some p) (Continues f) = ⊥
MayPend (Some p) (Guards gs) = ⊥
MayPend (Some p) (Ends construct.Block next) = Unit {0}
MayPend (Some p) (Ends construct.Accept next) = Unit {0}
MayPend (Some p) (Ends construct.Unit next) = ⊥
MayPend (Some p) (Leaves loops to) = ⊥
MayPend None last = Unit {0}

-- what the step opened a frame for
abbrev pub OpenedBy : Last → Purpose → Type 0
OpenedBy last for_body = ⊥
OpenedBy last for_block = (region : ℕ) × (last ≡ Does (Block region))
OpenedBy last for_loop = (f : For) × (last ≡ Does (Loop f))
OpenedBy last (for_procedure r) = ⊥
OpenedBy last (for_operation n r) = ⊥
OpenedBy last (for_entry n id served back) = ⊥
OpenedBy last (for_accept id) = ((entry : ℕ) × (region : Option ℕ) × (last ≡ Does (Accept entry region))) ⊎ ((has_else : Bool) × (last ≡ Does (Select has_else)))

-- the objects in whose bodies a task is, innermost first
abbrev pub objects_in : List Opened → List ℕ
objects_in [] = []
objects_in (x ∷ xs) = by x.purpose (objects_in xs)
  where
    by : Purpose → List ℕ → List ℕ
    by for_body rest = rest
    by for_block rest = rest
    by for_loop rest = rest
    by (for_procedure r) rest = rest
    by (for_operation n r) rest = n ∷ rest
    by (for_entry n id served back) rest = n ∷ rest
    by (for_accept id) rest = rest

-- the body of the task itself has no caller, and its frame is the outermost
abbrev pub IsOutermost : List ℕ → List Opened → Type 0
IsOutermost [] [] = Unit {0}
IsOutermost returns os = ⊥

-- an entry call
abbrev pub IsCall : Last → Type 0
IsCall last = ((entry : ℕ) × (form : CallKind) × (last ≡ Does (CallTask entry form))) ⊎ ((v : Variable) × (entry : ℕ) × (form : CallKind) × (last ≡ Does (CallObject v entry form)))

module _ (lines : List FlatLine) where
  -- a statement, at which an exception may be pending that ends the call
  abbrev pub AtStatement : List ℕ → Type 0
  AtStatement [] = ⊥
  AtStatement (r ∷ rs) = Found (found lines r) (λ l. IsStatement l.last)

  abbrev pub AtCall : List ℕ → Type 0
  AtCall [] = ⊥
  AtCall (r ∷ rs) = Found (found lines r) (λ l. IsCall l.last)

  -- a task that does an entry's body ran before, or waited for its own call
  abbrev pub GoesBack : Resumed → List ℕ → Type 0
  GoesBack back returns = (back.status ≡ Running) ⊎ ((back.status ≡ Calling) × (back.pending ≡ None) × AtCall returns)

module _ (lines : List FlatLine) (seen : List ℕ) where
  abbrev pub IsOpenAt : ℕ → ℕ → Type 0
  IsOpenAt place n = slice_get seen place ≡ Some n

  -- what is written at a place is seen there; what is opened there, or around it where its frame is gone
  abbrev pub StandsBy : (Option ℕ → Type 0) → Bool → EndLine → ℕ → List ℕ → Type 0
  StandsBy go false l place display = IsOpenAt place (length display) × go l.within
  StandsBy go true l place display = IsOpenAt place (suc (length display)) × Found (opener lines l.within) (λ o. go o.within)

  abbrev pub StandsWith : (Option ℕ → Type 0) → Option Pending → ℕ → List ℕ → Type 0
  StandsWith go pending place display = Found (found lines place) (λ l. MayPend pending l.last × StandsBy go (has_left pending l.last) l place display)

  -- so does the caller, at the statement that entered the body
  abbrev pub CallerStands : (Option ℕ → List ℕ → Type 0) → Option Pending → List ℕ → List ℕ → Type 0
  CallerStands go pending [] display = ⊥
  CallerStands go pending (r ∷ rs) display = StandsWith (λ w. go w rs) pending r display

  abbrev pub Entered : (Option ℕ → List ℕ → Type 0) → Purpose → List ℕ → List ℕ → List Opened → Type 0
  Entered go for_body returns saved os = IsOutermost returns os
  Entered go for_block returns saved os = ⊥
  Entered go for_loop returns saved os = ⊥
  Entered go (for_procedure r) returns saved os = AtStatement lines returns × CallerStands go None returns saved
  Entered go (for_operation n r) returns saved os = AtStatement lines returns × CallerStands go None returns saved
  Entered go (for_entry n id served back) returns saved os = GoesBack lines back returns × CallerStands go back.pending returns saved
  Entered go (for_accept id) returns saved os = ⊥

  -- the open frames are those of the steps around a place, innermost first, each seen from where its step stands; then that of the body,
  -- and those of its callers
  abbrev pub Holds : Option ℕ → List ℕ → List Opened → Type 0
  Holds w returns [] = ⊥
  Holds (Some m) returns (o ∷ os) = Found (found lines m) (λ l. OpenedBy l.last o.purpose × (IsOpenAt m (length o.saved) × Holds l.within returns os × IsStart lines m))
  Holds None returns (o ∷ os) = Entered (λ w rs. Holds w rs os) o.purpose returns o.saved os

  abbrev pub StandsAt : Option Pending → Spot → List ℕ → List Opened → Type 0
  StandsAt pending s display os = StandsWith (λ w. Holds w s.returns os) pending s.place display
