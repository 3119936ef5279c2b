-- Instructions that never miss an operand: the counts of operands are followed along all ways, as the evaluation would go.
use Rattle.std.specs.Prelude.{◌≡◌, ℕ, zero, suc, List, [], ◌∷◌, length, Bool, true, false, Option, Some, None, slice_get}
use Rattle.aud_code.specs.Places.{Way, Guard}
use Rattle.aud_code.specs.Instruction.{Instruction, Push, Load, LoadElement, OnOne, OnTwo, Count, Check, Cell, PushTruth, Truth, Negate, Relate, Compare, Combine, PassIfFalse, PassIfTrue, IsCallable, IsTerminated, Find, FindElement, LoadFound, Pass, PassCopy, AppendText, AppendImage, AppendTruth, AppendNewLine, Name, Milliseconds, Seconds, BeginObject, Component, OpensAccept, OpensDelay, OpensTerminate, Mark, PassUnlessNext, SetTime, Ending, Declare, DeclareObject, Activate, Assign, If, While, Loop, Exit, ReturnValue, CallTask, RequeueTask, Operands, Ended, Reached, Marked, Raised, Lost}
use Rattle.aud_code.specs.Flat.{Last, Does, Continues, Guards, Ends, Leaves, EndLine, FlatLine, end, Flat, instructions_at, instructions_from, end_at, end_from}
use Rattle.aud_code.specs.Frames.{found, Found, At, EachAt, StepFits}

-- how many operands there are, and whether an object is being declared
pub record Counts : Type 0 where
  pub integers : ℕ
  pub booleans : ℕ
  pub targets : ℕ
  pub names : ℕ
  pub cells : Bool

abbrev pub no_counts : Counts
no_counts = record { integers = 0; booleans = 0; targets = 0; names = 0; cells = false }

abbrev pub is_some : {A : Type 0} → Option A → Bool
is_some None = false
is_some (Some x) = true

abbrev pub counts_of : Operands → Counts
counts_of o = record { integers = length o.integers; booleans = length o.booleans; targets = length o.targets; names = length o.names; cells = is_some o.cells }

-- there is one; what is left
abbrev pub Takes : ℕ → (ℕ → Type 0) → Type 0
Takes zero go = ⊥
Takes (suc n) go = go n

abbrev pub AndThen : Type 1
AndThen = ℕ → Counts → Type 0

abbrev pub InstructionFine : Instruction → AndThen → Counts → Type 0
InstructionFine (Push z) go c = go 0 (record c { integers = suc c.integers })
InstructionFine (Load v) go c = go 0 (record c { integers = suc c.integers })
InstructionFine (LoadElement a) go c = Takes c.integers (λ n. go 0 (record c { integers = suc n }))
InstructionFine (OnOne f) go c = Takes c.integers (λ n. go 0 (record c { integers = suc n }))
InstructionFine (OnTwo f) go c = Takes c.integers (λ n. Takes n (λ m. go 0 (record c { integers = suc m })))
InstructionFine (Count v entry) go c = go 0 (record c { integers = suc c.integers })
InstructionFine (Check t) go c = Takes c.integers (λ n. go 0 (record c { integers = suc n }))
InstructionFine Cell go c = Takes c.booleans (λ n. go 0 (record c { booleans = n; integers = suc c.integers }))
InstructionFine (PushTruth b) go c = go 0 (record c { booleans = suc c.booleans })
InstructionFine Truth go c = Takes c.integers (λ n. go 0 (record c { integers = n; booleans = suc c.booleans }))
InstructionFine Negate go c = Takes c.booleans (λ n. go 0 (record c { booleans = suc n }))
InstructionFine (Relate f) go c = Takes c.integers (λ n. Takes n (λ m. go 0 (record c { integers = m; booleans = suc c.booleans })))
InstructionFine (Compare f) go c = Takes c.booleans (λ n. Takes n (λ m. go 0 (record c { booleans = suc m })))
InstructionFine (Combine f) go c = Takes c.booleans (λ n. Takes n (λ m. go 0 (record c { booleans = suc m })))
InstructionFine (PassIfFalse k) go c = Takes c.booleans (λ n. go 0 (record c { booleans = n }) × go k (record c { booleans = suc n }))
InstructionFine (PassIfTrue k) go c = Takes c.booleans (λ n. go 0 (record c { booleans = n }) × go k (record c { booleans = suc n }))
InstructionFine IsCallable go c = Takes c.integers (λ n. go 0 (record c { integers = n; booleans = suc c.booleans }))
InstructionFine IsTerminated go c = Takes c.integers (λ n. go 0 (record c { integers = n; booleans = suc c.booleans }))
InstructionFine (Find v t) go c = go 0 (record c { targets = suc c.targets })
InstructionFine (FindElement a t) go c = Takes c.integers (λ n. go 0 (record c { integers = n; targets = suc c.targets }))
InstructionFine LoadFound go c = Takes c.targets (λ n. go 0 (record c { integers = suc c.integers }))
InstructionFine Pass go c = Takes c.integers (λ n. go 0 (record c { integers = n }))
InstructionFine (PassCopy k) go c = Takes c.integers (λ n. Takes c.targets (λ m. go 0 (record c { integers = n; targets = m })))
InstructionFine (AppendText text) go c = go 0 c
InstructionFine AppendImage go c = Takes c.integers (λ n. go 0 (record c { integers = n }))
InstructionFine AppendTruth go c = Takes c.booleans (λ n. go 0 (record c { booleans = n }))
InstructionFine AppendNewLine go c = go 0 c
InstructionFine Name go c = Takes c.integers (λ n. go 0 (record c { integers = n; names = suc c.names }))
InstructionFine (Milliseconds ms) go c = go 0 c
InstructionFine Seconds go c = Takes c.integers (λ n. go 0 (record c { integers = n }))
InstructionFine BeginObject go c = go 0 (record c { cells = true })
InstructionFine Component go c = Takes c.integers (λ n. go 0 (record c { integers = n }))
InstructionFine (OpensAccept a) go c = Takes c.booleans (λ n. go 0 (record c { booleans = n }))
InstructionFine (OpensDelay k) go c = Takes c.booleans (λ n. go 0 (record c { booleans = n }))
InstructionFine OpensTerminate go c = Takes c.booleans (λ n. go 0 (record c { booleans = n }))
InstructionFine Mark go c = go 0 c
InstructionFine (PassUnlessNext n k) go c = go 0 c × go k c
InstructionFine (SetTime n) go c = go 0 c

-- up to the ending, which wants its counts
module _ (End : Counts → Type 0) where
  abbrev pub AreFine : List Instruction → ℕ → Counts → Type 0
  AreFine [] n c = End c
  AreFine (i ∷ is) (suc n) c = AreFine is n c
  AreFine (i ∷ is) zero c = InstructionFine i (AreFine is) c

  -- no operand is missing, and the ending has what it wants
  abbrev pub NotLost : Ended → Type 0
  NotLost (Reached o) = End (counts_of o)
  NotLost (Marked o) = Unit {0}
  NotLost (Raised raise) = Unit {0}
  NotLost Lost = ⊥

abbrev pub EndingFine : Ending → Counts → Type 0
EndingFine (Declare up_to) c = Takes c.integers (λ n. Unit {0})
EndingFine (DeclareObject k) c = c.cells ≡ true
EndingFine Assign c = Takes c.targets (λ n. Takes c.integers (λ m. Unit {0}))
EndingFine If c = Takes c.booleans (λ n. Unit {0})
EndingFine While c = Takes c.booleans (λ n. Unit {0})
EndingFine (Loop f) c = Takes c.integers (λ n. Takes n (λ m. Unit {0}))
EndingFine Exit c = Takes c.booleans (λ n. Unit {0})
EndingFine ReturnValue c = Takes c.integers (λ n. Unit {0})
EndingFine (CallTask entry form) c = Takes c.names (λ n. Unit {0})
EndingFine (RequeueTask entry formals abort) c = Takes c.names (λ n. Unit {0})
EndingFine e c = Unit {0}

abbrev pub LastFine : Last → Counts → Type 0
LastFine (Does e) c = EndingFine e c
LastFine (Continues f) c = Unit {0}
LastFine (Guards gs) c = Unit {0}
LastFine (Ends con next) c = Unit {0}
LastFine (Leaves n next) c = Unit {0}

-- a step begins there: an ending stands before it, or nothing
abbrev pub IsStart : List FlatLine → ℕ → Type 0
IsStart lines zero = Unit {0}
IsStart lines (suc n) = (l : EndLine) × (slice_get lines n ≡ Some (end l))

abbrev pub EachStart : List FlatLine → List ℕ → Type 0
EachStart lines [] = Unit {0}
EachStart lines (n ∷ ns) = IsStart lines n × EachStart lines ns

abbrev pub WayStart : List FlatLine → Option Way → Type 0
WayStart lines None = Unit {0}
WayStart lines (Some w) = IsStart lines w.to

abbrev pub GuardsStart : List FlatLine → List Guard → Type 0
GuardsStart lines [] = Unit {0}
GuardsStart lines (g ∷ gs) = IsStart lines g.to × GuardsStart lines gs

-- where a step leads by itself
abbrev pub LastLeads : List FlatLine → Last → Type 0
LastLeads lines (Does e) = Unit {0}
LastLeads lines (Continues f) = Unit {0}
LastLeads lines (Guards gs) = GuardsStart lines gs
LastLeads lines (Ends c next) = IsStart lines next
LastLeads lines (Leaves n next) = IsStart lines next

-- an exception may be pending there that was not raised there
abbrev pub IsStatement : Last → Type 0
IsStatement (Does e) = Unit {0}
IsStatement last = ⊥

-- behind an activation a statement begins, at which Tasking_Error is pending where it failed (RM 9.2(5))
abbrev pub ActivatesBefore : List FlatLine → Last → List ℕ → Type 0
ActivatesBefore lines (Does Activate) (n ∷ ns) = Found (found lines n) (λ l. IsStatement l.last)
ActivatesBefore lines last ns = Unit {0}

pub record Leads (lines : List FlatLine) (l : EndLine) : Type 0 where
  pub out : IsStart lines l.out
  pub ways : EachStart lines l.ways
  pub bodies : EachStart lines l.bodies
  pub exit : WayStart lines l.exit
  pub last : LastLeads lines l.last
  pub activates : ActivatesBefore lines l.last l.ways

-- a barrier finds its operands, and leaves a truth value, as a condition does
abbrev pub Decides : List Instruction → Type 0
Decides is = AreFine (LastFine (Does If)) is 0 no_counts

abbrev pub AllDecide : List (List Instruction) → Type 0
AllDecide [] = Unit {0}
AllDecide (b ∷ bs) = Decides b × AllDecide bs

-- lines that are a barrier: their ending takes that truth value
abbrev pub TakesTruth : Last → Type 0
TakesTruth (Does If) = Unit {0}
TakesTruth last = ⊥

pub record IsBarrier (lines : List FlatLine) : Type 0 where
  pub fine : AreFine (LastFine (end_from lines 0).last) (instructions_from lines) 0 no_counts
  pub taken : TakesTruth (end_from lines 0).last

-- Sound code: each step finds its operands, leads to steps, an activation to a statement, and leaves the frames open that are to be
-- open there; and each barrier decides.
pub record IsSound (code : Flat) : Type 0 where
  pub operands : (n : ℕ) → IsStart code.lines n → AreFine (LastFine (end_at code n).last) (instructions_at code n) 0 no_counts
  pub leads : (n : ℕ) (l : EndLine) → slice_get code.lines n ≡ Some (end l) → Leads code.lines l
  pub starts : EachStart code.lines code.starts × IsStart code.lines code.spare
  pub frames : (n : ℕ) → IsStart code.lines n → StepFits code.lines n
  -- bodies begin with no frame of a construct
  pub framed : EachAt code.lines code.starts None × At code.lines code.spare None
  pub barriers : AllDecide code.barriers
