-- The table of operands beside code: how many of each sort stand before each line. It is checked line by line, against what is
-- written where the line leads.
use Rattle.std.specs.Prelude.{◌≡◌, ◌≤◌, ℕ, zero, suc, ◌+◌, ◌-◌, List, [], ◌∷◌, length, map, Some, true, ◌||◌, slice_get}
use Rattle.aud_code.specs.Instruction.{Instruction, Push, Load, LoadElement, OnOne, OnTwo, Count, Check, Cell, PushTruth, Truth, Negate, Relate, Compare, Combine, PassIfFalse, PassIfTrue, IsCallable, IsTerminated, Find, FindElement, LoadFound, Pass, PassCopy, AppendText, AppendImage, AppendTruth, AppendNewLine, Name, Milliseconds, Seconds, BeginObject, Component, OpensAccept, OpensDelay, OpensTerminate, Mark, PassUnlessNext, SetTime}
use Rattle.aud_code.specs.Flat.{FlatLine, instructs, end, instructions_from}
use Rattle.aud_code.specs.Frames.{found, Found}
use Rattle.aud_code.specs.Seen.{IsSeen}
use Rattle.aud_code.specs.Sound.{Counts, no_counts, AndThen, InstructionFine, LastFine, TakesTruth, IsSound}
use Rattle.aud_code.specs.View.{frames_in, plain_code, plain_line}
use Rattle.aud_code.specs.declared.counts.Counts.{Counts as InMemory}
use Rattle.aud_code.specs.declared.counts.Effect.{Effect}
use Rattle.aud_code.specs.declared.line.Barrier.{Barrier}
use Rattle.aud_code.specs.declared.line.Code.{Code}

-- The check.

-- to the line behind n others, at the furthest to the ending of the step, where these operands are written
abbrev pub LeadsTo : List FlatLine → List Counts → AndThen
LeadsTo ls cs n c = (n ≤ length (instructions_from ls)) × (slice_get cs n ≡ Some c)

-- a step begins with no operands
abbrev pub BeginsWithNone : List Counts → Type 0
BeginsWithNone [] = Unit {0}
BeginsWithNone (c ∷ cs) = c ≡ no_counts

-- a line finds its operands among those that are written before it, and leaves those that are written where it leads
abbrev pub LineTabled : FlatLine → Counts → List FlatLine → List Counts → Type 0
LineTabled (instructs i) c ls cs = InstructionFine i (LeadsTo ls cs) c
LineTabled (end l) c ls cs = LastFine l.last c × BeginsWithNone cs

abbrev pub Tabled : List FlatLine → List Counts → Type 0
Tabled [] [] = Unit {0}
Tabled [] (c ∷ cs) = ⊥
Tabled (l ∷ ls) [] = ⊥
Tabled (l ∷ ls) (c ∷ cs) = LineTabled l c ls cs × Tabled ls cs

abbrev pub IsTabled : List FlatLine → List Counts → Type 0
IsTabled lines table = BeginsWithNone table × Tabled lines table

-- of the first line alone
abbrev pub FirstTabled : List FlatLine → List Counts → Type 0
FirstTabled [] cs = Unit {0}
FirstTabled (l ∷ ls) [] = Unit {0}
FirstTabled (l ∷ ls) (c ∷ cs) = LineTabled l c ls cs

-- In memory.

abbrev pub counts : InMemory → Counts
counts c = record { integers = c.integers; booleans = c.booleans; targets = c.targets; names = c.names; cells = c.cells }

-- a barrier's table fits it, and its ending takes a truth value
pub record IsDecided (b : Barrier) : Type 0 where
  pub tabled : IsTabled (map plain_line b.lines.items) (map counts b.operands.items)
  pub taken : Found (found (map plain_line b.lines.items) 0) (λ l. TakesTruth l.last)

abbrev pub AllDecided : List Barrier → Type 0
AllDecided [] = Unit {0}
AllDecided (b ∷ bs) = IsDecided b × AllDecided bs

-- what is verified: both tables fit the code, each barrier is decided, and the code is sound
pub record IsVerified (code : Code) : Type 0 where
  pub tabled : IsTabled (plain_code code).lines (map counts code.operands.items)
  pub seen : IsSeen (plain_code code) (map counts code.operands.items) code.tasks.items (frames_in code.barriers.items) code.seen.items
  pub decided : AllDecided code.barriers.items
  pub sound : IsSound (plain_code code)

-- some are taken and others left
abbrev pub changed : Effect → Counts → Counts
changed e c = record c {
  integers = c.integers - e.takes.integers + e.leaves.integers;
  booleans = c.booleans - e.takes.booleans + e.leaves.booleans;
  targets = c.targets - e.takes.targets + e.leaves.targets;
  names = c.names - e.takes.names + e.leaves.names;
  cells = e.leaves.cells || c.cells;
}

-- where an instruction leads that passes others
abbrev pub GoesOver : Instruction → AndThen → Counts → Type 0
GoesOver (PassIfFalse n) go c = go n c
GoesOver (PassIfTrue n) go c = go n c
GoesOver (PassUnlessNext k n) go c = go n c
GoesOver i go c = Unit {0}

-- The table of code: the operands on the way from each line to the next one.

abbrev pub less : ℕ → ℕ
less zero = zero
less (suc n) = n

abbrev pub behind : Instruction → Counts → Counts
behind (Push z) c = record c { integers = suc c.integers }
behind (Load v) c = record c { integers = suc c.integers }
behind (LoadElement a) c = record c { integers = suc (less c.integers) }
behind (OnOne f) c = record c { integers = suc (less c.integers) }
behind (OnTwo f) c = record c { integers = suc (less (less c.integers)) }
behind (Count v entry) c = record c { integers = suc c.integers }
behind (Check t) c = record c { integers = suc (less c.integers) }
behind Cell c = record c { booleans = less c.booleans; integers = suc c.integers }
behind (PushTruth b) c = record c { booleans = suc c.booleans }
behind Truth c = record c { integers = less c.integers; booleans = suc c.booleans }
behind Negate c = record c { booleans = suc (less c.booleans) }
behind (Relate f) c = record c { integers = less (less c.integers); booleans = suc c.booleans }
behind (Compare f) c = record c { booleans = suc (less (less c.booleans)) }
behind (Combine f) c = record c { booleans = suc (less (less c.booleans)) }
behind (PassIfFalse k) c = record c { booleans = less c.booleans }
behind (PassIfTrue k) c = record c { booleans = less c.booleans }
behind IsCallable c = record c { integers = less c.integers; booleans = suc c.booleans }
behind IsTerminated c = record c { integers = less c.integers; booleans = suc c.booleans }
behind (Find v t) c = record c { targets = suc c.targets }
behind (FindElement a t) c = record c { integers = less c.integers; targets = suc c.targets }
behind LoadFound c = record c { targets = suc (less c.targets); integers = suc c.integers }
behind Pass c = record c { integers = less c.integers }
behind (PassCopy k) c = record c { integers = less c.integers; targets = less c.targets }
behind (AppendText text) c = c
behind AppendImage c = record c { integers = less c.integers }
behind AppendTruth c = record c { booleans = less c.booleans }
behind AppendNewLine c = c
behind Name c = record c { integers = less c.integers; names = suc c.names }
behind (Milliseconds ms) c = c
behind Seconds c = record c { integers = less c.integers }
behind BeginObject c = record c { cells = true }
behind Component c = record c { integers = less c.integers }
behind (OpensAccept a) c = record c { booleans = less c.booleans }
behind (OpensDelay k) c = record c { booleans = less c.booleans }
behind OpensTerminate c = record c { booleans = less c.booleans }
behind Mark c = c
behind (PassUnlessNext n k) c = c
behind (SetTime n) c = c

abbrev pub behind_line : FlatLine → Counts → Counts
behind_line (instructs i) c = behind i c
behind_line (end l) c = no_counts

abbrev pub table_from : Counts → List FlatLine → List Counts
table_from c [] = []
table_from c (l ∷ ls) = c ∷ table_from (behind_line l c) ls

abbrev pub table_of : List FlatLine → List Counts
table_of lines = table_from no_counts lines
