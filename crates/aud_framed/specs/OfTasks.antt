-- Programs without protected objects: what code alone doesn't say holds of them, in each configuration that they come to.
use Rattle.std.specs.Prelude.{◌≡◌, ◌⊎◌, ℕ, List, [], Option, Some, None, slice_get}
use Rattle.aud_text.specs.declared.limits.Limits.{Limits}
use Rattle.aud_typed.specs.Tree.{Plan}
use Rattle.aud_meaning.specs.declared.state.Construct.TheVariants as construct
use Rattle.aud_meaning.specs.Configuration.{All}
use Rattle.aud_code.specs.Places.{Spot, Way}
use Rattle.aud_code.specs.Instruction.{DeclareObject, Operation, CallObject, RequeueTask, RequeueObject}
use Rattle.aud_code.specs.Flat.{Last, Does, Ends, Leaves, EndLine, FlatLine, end, Flat, end_at}
use Rattle.aud_code.specs.Frames.{found, OpensAccept, OpensBlock, OpensLoop}
use Rattle.aud_code.specs.Seen.{IsSeen}
use Rattle.aud_code.specs.Sound.{Counts, IsSound}
use Rattle.aud_framed.specs.Framed.{HasLevels}
use Rattle.aud_framed.specs.Stepping.{HasWays, IsKept}
use Rattle.aud_framed.specs.Runs.{AllMeet, Comes}
use Rattle.aud_framed.specs.Fitting.{DeclaresDirectly, OnlyOpen}

-- Calls that are made again.

-- within what an accept does, and blocks and loops there
pub data IsInAccept (lines : List FlatLine) : Option ℕ → Type 0 where
  directly : (place : ℕ) (l : EndLine) → found lines place ≡ Some l → OpensAccept l.last → IsInAccept lines (Some place)
  further : (place : ℕ) (l : EndLine) → found lines place ≡ Some l → OpensBlock l.last ⊎ OpensLoop l.last → IsInAccept lines l.within → IsInAccept lines (Some place)

-- blocks alone are left from there on, and then what the accept does
pub data LeavesAccept (code : Flat) : ℕ → Type 0 where
  at_end : (place next : ℕ) → (end_at code place).last ≡ Ends construct.Accept next → LeavesAccept code place
  of_block : (place loops next : ℕ) → (end_at code place).last ≡ Leaves loops next → LeavesAccept code next → LeavesAccept code place

abbrev pub WayLeaves : Flat → Option Way → Type 0
WayLeaves code None = ⊥
WayLeaves code (Some w) = LeavesAccept code w.to

-- An instruction on a protected object there is none; and where a call is made again, that is in what an accept does, which is then left.
abbrev pub LastOfTasks : Flat → EndLine → Last → Type 0
LastOfTasks code l (Does (DeclareObject n)) = ⊥
LastOfTasks code l (Does (Operation v unit)) = ⊥
LastOfTasks code l (Does (CallObject v entry form)) = ⊥
LastOfTasks code l (Does (RequeueObject v entry formals abort)) = ⊥
LastOfTasks code l (Does (RequeueTask entry formals abort)) = IsInAccept code.lines l.within × WayLeaves code l.exit
LastOfTasks code l last = Unit {0}

pub record IsOfTasks (plan : Plan) (code : Flat) : Type 0 where
  pub objects : plan.objects ≡ []
  pub lines : (n : ℕ) (l : EndLine) → slice_get code.lines n ≡ Some (end l) → LastOfTasks code l l.last

abbrev pub TasksMeetLaw : Type 0
TasksMeetLaw =
    (plan : Plan) (code : Flat) (table : List Counts) (tasks barriers seen : List ℕ) (name : List ℕ) (limits : Limits) →
    IsSound code → IsSeen code table tasks barriers seen → HasLevels plan code tasks seen → HasWays code → IsOfTasks plan code →
    AllMeet plan code name limits

-- So tasks hold their frames there, and those frames are open that are seen.
abbrev pub OfTasksLaw : Type 0
OfTasksLaw =
    (plan : Plan) (code : Flat) (table : List Counts) (tasks barriers seen : List ℕ) (name : List ℕ) (limits : Limits) (c : All Spot) →
    IsSound code → IsSeen code table tasks barriers seen → HasLevels plan code tasks seen → HasWays code → DeclaresDirectly code → IsOfTasks plan code →
    Comes plan code name limits c → IsKept plan code seen c × OnlyOpen plan code c
