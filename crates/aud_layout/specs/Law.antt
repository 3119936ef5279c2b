-- The laws that tie the code of a program to its meaning.
use Rattle.std.specs.Prelude.{◌≡◌, ℕ, suc, List, [], ◌∷◌, map, Some, slice_get, slice_index_or}
use Rattle.aud_text.specs.declared.limits.Limits.{Limits}
use Rattle.aud_typed.specs.Tree.{Program}
use Rattle.aud_typed.specs.Why.Scoped.{IsScoped}
use Rattle.aud_scoped.specs.Declares.{DeclaresInParts}
use Rattle.aud_meaning.specs.Configuration.{Item, All, Configuration}
use Rattle.aud_meaning.specs.Control.{Moved, Controls, ordered}
use Rattle.aud_meaning.specs.Statements.{controls}
use Rattle.aud_meaning.specs.declared.state.Move.{Move}
use Rattle.aud_meaning.specs.Parts.{task_plan, unit_of}
use Rattle.aud_meaning.specs.Run.{seen, moves_at, state_at, step_with, run_with, run, step, supplied, advanced, opening, opening_with, main_raised}
use Rattle.aud_meaning.specs.Why.Agree.{Agrees, ShowsAll}
use Rattle.aud_code.specs.Places.{Spot}
use Rattle.aud_code.specs.Flat.{flat_controls, start_at}
use Rattle.aud_code.specs.Seen.{IsSeen}
use Rattle.aud_code.specs.Sound.{Counts, IsStart, IsSound}
use Rattle.aud_code.specs.Tabled.{IsTabled, table_of}
use Rattle.aud_layout.specs.Layout.{Code, code_of, code_controls}
use Rattle.aud_layout.specs.Shows.{UnitsAt, ShowsControl}
use Rattle.aud_layout.specs.Assembly.{offset, flat_program}
use Rattle.aud_layout.specs.Activations.{ActivatesInParts}
use Rattle.aud_layout.specs.Opened.{task_bodies, barrier_frames, CountsFrames}

-- the layout, one line a step: where each body stands where it begins, places agree with statements
abbrev pub LayoutAgreementLaw : Type 0
LayoutAgreementLaw = (program : Program) (code : Code) → UnitsAt program code → Agrees Spot (List Item) (ShowsControl code) (code_controls program code) (controls program)

-- where steps begin, and the callers' steps
abbrev pub spot_at : (ℕ → ℕ) → Spot → Spot
spot_at f c = record { place = f c.place; returns = map f c.returns }

-- a place among instructions shows what is left to do: it is the first of a step's, which shows it
abbrev pub ShowsFlat : Program → Spot → List Item → Type 0
ShowsFlat program m items = (c : Spot) × (m ≡ spot_at (offset (code_of program).lines) c) × ShowsControl (code_of program) c items

-- how the program's code is controlled
abbrev pub flat : Program → Controls Spot
flat program = flat_controls program.plan (flat_program program)

-- the code asks what the statements ask, stands where they stand, and each of the eight operations keeps it so
abbrev pub AgreementLaw : Type 0
AgreementLaw = (program : Program) → Agrees Spot (List Item) (ShowsFlat program) (flat program) (controls program)

-- code under way shows a program under way
abbrev pub Shows : Program → All Spot → Configuration → Type 0
Shows program m c = ShowsAll Spot (List Item) (ShowsFlat program) m c

-- what is seen of it is the same, and with it each view
abbrev pub SeenLaw : Type 0
SeenLaw = (program : Program) (m : All Spot) (c : Configuration) → Shows program m c → seen program.plan (flat program) m ≡ seen program.plan (controls program) c

-- all orders keep it so, whatever they are
abbrev pub OrderLaw : Type 0
OrderLaw = (program : Program) (m : All Spot) (c : Configuration) (orders : All Moved → All Moved) → Shows program m c → Shows program (ordered (flat program) m orders) (ordered (controls program) c orders)

-- what can happen next is the same
abbrev pub MovesLaw : Type 0
MovesLaw = (program : Program) (m : All Spot) (c : Configuration) → Shows program m c → moves_at program.plan (flat program) m ≡ moves_at program.plan (controls program) c

abbrev pub StateLaw : Type 0
StateLaw = (program : Program) (m : All Spot) (c : Configuration) → Shows program m c → state_at program.plan (flat program) m ≡ state_at program.plan (controls program) c

-- each step of each kind
abbrev pub StepLaw : Type 0
StepLaw =
    (limits : Limits) (program : Program) (m : All Spot) (c : Configuration) (move : Move) → Shows program m c → Shows program (step_with program.plan (flat program) limits m move) (step limits program c move)

-- whole runs
abbrev pub RunLaw : Type 0
RunLaw =
    (limits : Limits) (program : Program) (n : ℕ) (m : All Spot) (c : Configuration) → Shows program m c → Shows program (run_with program.plan (flat program) limits n m) (run limits program n c)

-- what the user supplies between runs
abbrev pub SupplyLaw : Type 0
SupplyLaw = (program : Program) (choices : List ℕ) (m : All Spot) (c : Configuration) → Shows program m c → Shows program (supplied choices m) (supplied choices c)

abbrev pub AdvanceLaw : Type 0
AdvanceLaw = (program : Program) (milliseconds : ℕ) (m : All Spot) (c : Configuration) → Shows program m c → Shows program (advanced milliseconds m) (advanced milliseconds c)

-- before the first step
abbrev pub OpeningLaw : Type 0
OpeningLaw = (program : Program) → Shows program (opening_with program.plan program.name ((flat program).begins 0)) (opening program)

-- an exception that leaves the main procedure is the same
abbrev pub RaisedLaw : Type 0
RaisedLaw = (program : Program) (m : All Spot) (c : Configuration) → Shows program m c → main_raised m.tasks ≡ main_raised c.tasks

-- something is left to do
abbrev pub IsLeft : List Item → Type 0
IsLeft [] = ⊥
IsLeft (i ∷ rest) = Unit {0}

-- a task that has something left to do stands where a step begins
abbrev pub StartLaw : Type 0
StartLaw = (program : Program) (m : Spot) (items : List Item) → ShowsFlat program m items → IsLeft items → IsStart (flat_program program).lines m.place

-- the code of every program is sound whose declarative parts alone activate tasks
abbrev pub SoundLaw : Type 0
SoundLaw = (program : Program) → ActivatesInParts program → IsSound (flat_program program)

-- each instruction of the code of every program works on the operands that the code's table has before it, and leaves those that it
-- has where the instruction leads
abbrev pub TabledLaw : Type 0
TabledLaw = (program : Program) → IsTabled (flat_program program).lines (table_of (flat_program program).lines)

-- a table that counts the frames of the code of a scoped program fits it: each variable that is named is of a frame that is open there,
-- or of an object whose cells have begun by the table of operands, and each way leads to where those frames are open that are written there
abbrev pub SeenTabledLaw : Type 0
SeenTabledLaw =
    (program : Program) (seen : List ℕ) → IsScoped program → DeclaresInParts program → CountsFrames program seen → IsSeen (flat_program program) (table_of (flat_program program).lines) (task_bodies program) (barrier_frames program) seen

-- where a body begins, its own frame is open besides as many as its level says
abbrev pub BodiesSeen : Program → List ℕ → Type 0
BodiesSeen program seen = (n : ℕ) → slice_get seen (start_at (flat_program program) n) ≡ Some (suc (unit_of program.plan n).level)

-- the body of a task type is that of its plan
abbrev pub TypesTold : Program → List ℕ → Type 0
TypesTold program tasks = (n : ℕ) → slice_index_or tasks n 0 ≡ (task_plan program.plan n).unit

-- The code of each scoped program has a table of frames that fits it, beside some table of operands, and by which each body begins with
-- the frames of its level.
abbrev pub FramesTabledLaw : Type 0
FramesTabledLaw =
    (program : Program) → IsScoped program → DeclaresInParts program → (table : List Counts) × (tasks : List ℕ) × (barriers : List ℕ) × (seen : List ℕ) × IsSeen (flat_program program) table tasks barriers seen × BodiesSeen program seen × TypesTold program tasks
