-- What tasks do fits their open frames, so that only these are seen, and those around objects.
use Rattle.std.specs.Prelude.{◌≡◌, ℕ, List, [], Option, Some, None, slice_get}
use Rattle.aud_text.specs.declared.limits.Limits.{Limits}
use Rattle.aud_typed.specs.Tree.{Plan, Tasks}
use Rattle.aud_meaning.specs.declared.state.Move.{Move}
use Rattle.aud_meaning.specs.declared.state.Status.TheVariants.{Completed}
use Rattle.aud_meaning.specs.Configuration.{All}
use Rattle.aud_meaning.specs.Parts.{own_of}
use Rattle.aud_meaning.specs.Run.{step_with}
use Rattle.aud_code.specs.Places.{Spot}
use Rattle.aud_code.specs.Instruction.{DeclareTasks}
use Rattle.aud_code.specs.Flat.{Does, EndLine, FlatLine, end, Flat, flat_controls}
use Rattle.aud_code.specs.Frames.{found, Found, OpensBlock}
use Rattle.aud_code.specs.Seen.{IsSeen}
use Rattle.aud_code.specs.Sound.{Counts, IsSound}
use Rattle.aud_over.specs.Over.{forgotten}
use Rattle.aud_over.specs.Standing.{Fits, LastIsMaster, Stands, bones, with_open}
use Rattle.aud_framed.specs.Framed.{HasLevels}
use Rattle.aud_framed.specs.Stepping.{HasWays, IsKept}
use Rattle.aud_framed.specs.Runs.{AllMeet, Comes, Reached}

-- directly in a body or a block
abbrev pub IsDirect : List FlatLine → Option ℕ → Type 0
IsDirect lines None = Unit {0}
IsDirect lines (Some m) = Found (found lines m) (λ l. OpensBlock l.last)

-- What code alone doesn't say, either: tasks are declared there. One that is declared within a loop would see the loop's frame when it is
-- left.
abbrev pub DeclaresDirectly : Flat → Type 0
DeclaresDirectly code = (n : ℕ) (l : EndLine) (ts : Tasks) → slice_get code.lines n ≡ Some (end l) → l.last ≡ Does (DeclareTasks ts) → IsDirect code.lines l.within

-- a completed task keeps its frames, of which the outermost is a body's
abbrev pub KeepBodies : All Spot → Type 0
KeepBodies c = (n : ℕ) → (own_of n c).status ≡ Completed → LastIsMaster (bones (own_of n c).opened)

-- whatever a task does next
abbrev pub FitsFramedLaw : Type 0
FitsFramedLaw =
    (plan : Plan) (code : Flat) (table : List Counts) (tasks barriers seen pins : List ℕ) (n : ℕ) (c : All Spot) →
    IsSound code → IsSeen code table tasks barriers seen → HasWays code → DeclaresDirectly code → IsKept plan code seen c → KeepBodies c →
    Fits pins plan (flat_controls plan code) n c

abbrev pub BodiesKeptLaw : Type 0
BodiesKeptLaw =
    (plan : Plan) (code : Flat) (table : List Counts) (tasks barriers seen : List ℕ) (limits : Limits) (c : All Spot) (m : Move) →
    IsSound code → IsSeen code table tasks barriers seen → HasWays code → IsKept plan code seen c → KeepBodies c →
    KeepBodies (step_with plan (flat_controls plan code) limits c m)

-- those frames are open that are seen, and what is left is what is open
pub record OnlyOpen (plan : Plan) (code : Flat) (c : All Spot) : Type 0 where
  pub stands : Stands [] c
  pub fits : (n : ℕ) → Fits [] plan (flat_controls plan code) n c
  pub left : forgotten c ≡ with_open [] c

abbrev pub RunOpenLaw : Type 0
RunOpenLaw =
    (plan : Plan) (code : Flat) (table : List Counts) (tasks barriers seen : List ℕ) (name : List ℕ) (limits : Limits) (c : All Spot) →
    IsSound code → IsSeen code table tasks barriers seen → HasLevels plan code tasks seen → HasWays code → DeclaresDirectly code → AllMeet plan code name limits →
    Reached plan code name limits c → OnlyOpen plan code c

abbrev pub ComesOpenLaw : Type 0
ComesOpenLaw =
    (plan : Plan) (code : Flat) (table : List Counts) (tasks barriers seen : List ℕ) (name : List ℕ) (limits : Limits) (c : All Spot) →
    IsSound code → IsSeen code table tasks barriers seen → HasLevels plan code tasks seen → HasWays code → DeclaresDirectly code → AllMeet plan code name limits →
    Comes plan code name limits c → OnlyOpen plan code c
