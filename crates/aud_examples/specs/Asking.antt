-- What a typed program answers, computed from its statements and from its code.
use Rattle.std.specs.Prelude.{◌≡◌, ℕ, ◌-◌, ℤ, List, [], ◌∷◌, ◌++◌, length, Option, Some, Bool, true, false, nat_eq, codes, slice_index_or}
use Rattle.std.specs.Fmt.{decimal}
use Rattle.aud_text.specs.declared.place.Pos.{Pos}
use Rattle.aud_text.specs.declared.limits.Limits.{Limits}
use Rattle.aud_typed.specs.declared.program.Variable.{Variable}
use Rattle.aud_typed.specs.declared.program.ArrayAt.{ArrayAt}
use Rattle.aud_typed.specs.declared.program.Exception.{Exception}
use Rattle.aud_typed.specs.Tree.{Program, Plan, UnitPlan}
use Rattle.aud_typed.specs.Tree as tree
use Rattle.aud_meaning.specs.declared.state.State.{State}
use Rattle.aud_meaning.specs.declared.state.State.TheVariants as state
use Rattle.aud_meaning.specs.Configuration.{All}
use Rattle.aud_meaning.specs.Control.{Controls}
use Rattle.aud_code.specs.Places.{Spot}
use Rattle.aud_layout.specs.Law.{flat}
use Rattle.aud_meaning.specs.Statements.{controls}
use Rattle.aud_meaning.specs.Run.{own_move, moves_at, state_at, seen, step_with, run_with, main_raised, supplied, advanced, opening_with}
use Rattle.aud_meaning.specs.Listings.{spaced, state_words, exception_name, vars, queues, tasks_view, moves_view}
use Rattle.aud_meaning.specs.Listings.Objects.{objects_view}
use Rattle.aud_meaning.specs.Listings.Waits.{waits_view}

abbrev pub at : ℕ → ℕ → Pos
at l c = record { line = l; col = c }

abbrev pub v : ℕ → ℕ → Variable
v level index = record { level = level; index = index }

abbrev pub array : ℕ → ℕ → ℤ → ℕ → ArrayAt
array level index low length = record { first = v level index; low = low; length = length }

abbrev pub tasks : ℕ → List ℕ → ℤ → Bool → ℕ → tree.Tasks
tasks type name low is_array length = record { task_type = type; name = name; low = low; is_array = is_array; length = length }

abbrev pub unit_plan : ℕ → ℕ → Bool → Pos → Pos → UnitPlan
unit_plan level region is_function at end = record { level = level; region = region; is_function = is_function; at = at; end = end }

abbrev pub standard : Limits
standard = record { tasks = 64; source = 32768 }

pub data Ask : Type 0 where
  Ran : ℕ → Ask
  Stepped : ℕ → Ask
  Chosen : List ℕ → Ask
  Advanced : ℕ → Ask
  Clock : Ask
  Moves : Ask
  Tasks : Ask
  Queues : Ask
  Vars : ℕ → Ask
  Objects : Ask
  Waits : Ask
  Output : Ask

abbrev pub Lines : Type 0
Lines = List (List ℕ)

-- for any control C
module _ {C : Type 0} (plan : Plan) (k : Controls C) (limits : Limits) where
  abbrev pub state_now : All C → State
  state_now c = state_at plan k c

  abbrev pub raised_line : State → Option Exception → Lines
  raised_line state.Ended (Some x) = spaced (codes "main raised") (exception_name plan x) ∷ []
  raised_line s x = []

  abbrev pub ran_lines : All C → All C → Lines
  ran_lines old c =
      spaced (codes "ran") (spaced (decimal (c.steps - old.steps)) (state_words (state_now c))) ∷ raised_line (state_now c) (main_raised c.tasks)

  -- output cut at line feeds
  abbrev pub lines_by : List ℕ → List ℕ → Lines
  lines_by [] [] = []
  lines_by [] (b ∷ bs) = (b ∷ bs) ∷ []
  lines_by (b ∷ bs) now = by (nat_eq b 10) (lines_by bs []) (lines_by bs (now ++ b ∷ []))
    where
      by : Bool → Lines → Lines → Lines
      by true cut on = now ∷ cut
      by false cut on = on

  -- what is asked next is answered from the configuration after it
  abbrev pub told_by : Ask → (All C → Lines → List Lines) → All C → List Lines
  told_by (Ran n) go c = let d = run_with plan k limits n c in go d (ran_lines c d)
  told_by (Stepped m) go c = let d = step_with plan k limits c (slice_index_or (moves_at plan k c) m (own_move 0)) in go d (ran_lines c d)
  told_by (Chosen cs) go c = let d = supplied cs c in go d (spaced (codes "choices") (decimal (length d.choices)) ∷ [])
  told_by (Advanced ms) go c = let d = advanced ms c in go d (spaced (codes "clock") (decimal d.clock) ∷ [])
  told_by Clock go c = go c (spaced (codes "clock") (decimal c.clock) ∷ [])
  told_by Moves go c = go c (moves_view plan k.barrier (seen plan k c))
  told_by Tasks go c = go c (tasks_view plan k.barrier (seen plan k c))
  told_by Queues go c = go c (queues plan c)
  told_by (Vars t) go c = go c (vars plan (t - 1) c)
  told_by Objects go c = go c (objects_view plan k.barrier c)
  told_by Waits go c = go c (waits_view plan k.barrier (seen plan k c))
  told_by Output go c = go c (spaced (codes "bytes") (decimal (length c.shared.output)) ∷ lines_by c.shared.output [])

  abbrev pub answers_from : List Ask → All C → List Lines
  answers_from [] c = []
  answers_from (a ∷ asks) c = told_by a (λ d lines. lines ∷ answers_from asks d) c

-- the answers to what is asked of a program from its opening on
abbrev pub answers : Limits → Program → List Ask → List Lines
answers limits program asks =
    answers_from program.plan (controls program) limits asks (opening_with program.plan program.name ((controls program).begins 0))

-- the answers of its code
abbrev pub code_answers : Limits → Program → List Ask → List Lines
code_answers limits program asks = by (flat program)
  where
    by : Controls Spot → List Lines
    by k = answers_from program.plan k limits asks (opening_with program.plan program.name (k.begins 0))

-- a program, what is asked, and the answers
pub record Row : Type 0 where
  pub program : Program
  pub asked : List Ask
  pub told : List Lines

-- by the program's statements, and by its code
pub record Holds (row : Row) : Type 0 where
  pub statements : answers standard row.program row.asked ≡ row.told
  pub code : code_answers standard row.program row.asked ≡ row.told

abbrev pub AllHold : List Row → Type 0
AllHold [] = Unit {0}
AllHold (r ∷ rs) = Holds r × AllHold rs
