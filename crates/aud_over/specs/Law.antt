-- What is over may be forgotten: no move, no state, no step and no listing depends on it.
use Rattle.std.specs.Prelude.{◌≡◌, ◌⊎◌, ℕ, List, [], ◌∷◌, length, Bool, true, false, slice_index_or}
use Rattle.aud_text.specs.declared.limits.Limits.{Limits}
use Rattle.aud_typed.specs.Tree.{Plan, Program}
use Rattle.aud_meaning.specs.Configuration.{Frame, Call, All}
use Rattle.aud_meaning.specs.Control.{Controls}
use Rattle.aud_meaning.specs.declared.state.Move.{Move}
use Rattle.aud_meaning.specs.Run.{moves_at, state_at, step_with, run_with, supplied, advanced, main_raised}
use Rattle.aud_meaning.specs.Parts.{owns, no_call}
use Rattle.aud_meaning.specs.Statements.{controls}
use Rattle.aud_meaning.specs.Listings.{view_at}
use Rattle.aud_code.specs.Flat.{Flat, flat_controls}
use Rattle.aud_over.specs.Over.{is_named, is_call_over, is_served, with_kept, forgotten}
use Rattle.aud_over.specs.Looks.{Looks}

-- So it is of statements and of code.
abbrev pub StatementsLook : Type 0
StatementsLook = (program : Program) → Looks (controls program)

abbrev pub CodeLooks : Type 0
CodeLooks = (plan : Plan) (code : Flat) → Looks (flat_controls plan code)

-- the move is in the list
abbrev pub IsOneOf : Move → List Move → Type 0
IsOneOf m [] = ⊥
IsOneOf m (x ∷ xs) = (m ≡ x) ⊎ IsOneOf m xs

-- nothing is left to be forgotten
abbrev pub AgainLaw : (C : Type 0) → Type 0
AgainLaw C = (c : All C) → forgotten (forgotten c) ≡ forgotten c

-- Two programs under way of which the same is left have the same moves and state, and the same is shown of them ..
abbrev pub MovesLaw : (C : Type 0) → Type 0
MovesLaw C = (plan : Plan) (k : Controls C) (c d : All C) → Looks k → forgotten c ≡ forgotten d → moves_at plan k c ≡ moves_at plan k d

abbrev pub StateLaw : (C : Type 0) → Type 0
StateLaw C = (plan : Plan) (k : Controls C) (c d : All C) → Looks k → forgotten c ≡ forgotten d → state_at plan k c ≡ state_at plan k d

abbrev pub ViewLaw : (C : Type 0) → Type 0
ViewLaw C = (plan : Plan) (k : Controls C) (c d : All C) → Looks k → forgotten c ≡ forgotten d → view_at plan k c ≡ view_at plan k d

-- And of what an enabled step makes of them the same is left, and so of runs.
abbrev pub StepLaw : (C : Type 0) → Type 0
StepLaw C =
    (plan : Plan) (k : Controls C) (limits : Limits) (c d : All C) (m : Move) → Looks k → forgotten c ≡ forgotten d → IsOneOf m (moves_at plan k c) → forgotten (step_with plan k limits c m) ≡ forgotten (step_with plan k limits d m)

abbrev pub RunLaw : (C : Type 0) → Type 0
RunLaw C =
    (plan : Plan) (k : Controls C) (limits : Limits) (n : ℕ) (c d : All C) → Looks k → forgotten c ≡ forgotten d → forgotten (run_with plan k limits n c) ≡ forgotten (run_with plan k limits n d)

-- What has to be kept.

-- the same frames where one is named
pub record LikeFrames (named : ℕ → Bool) (fs gs : List Frame) : Type 0 where
  pub many : length fs ≡ length gs
  pub same : (f : ℕ) → named f ≡ true → slice_index_or fs f [] ≡ slice_index_or gs f []

-- the same calls, or in their place such as are over, for none of which a frame is open
pub record LikeCalls (served : ℕ → Bool) (cs ds : List Call) : Type 0 where
  pub many : length cs ≡ length ds
  pub same : (i : ℕ) → (slice_index_or cs i no_call ≡ slice_index_or ds i no_call) ⊎ ((served i ≡ false) × (is_call_over (slice_index_or cs i no_call).state ≡ true) × (is_call_over (slice_index_or ds i no_call).state ≡ true))

-- Whatever else is kept, the same is left.
abbrev pub KeptLaw : (C : Type 0) → Type 0
KeptLaw C =
    (c : All C) (frames : List Frame) (calls : List Call) → LikeFrames (is_named (owns c.tasks) c.shared.objects) c.shared.frames frames → LikeCalls (is_served (owns c.tasks)) c.shared.calls calls → forgotten c ≡ forgotten (with_kept frames calls c)

-- What the user supplies leaves the same of them.
abbrev pub SuppliedLaw : (C : Type 0) → Type 0
SuppliedLaw C =
    (c d : All C) (choices : List ℕ) (milliseconds : ℕ) → forgotten c ≡ forgotten d → (forgotten (supplied choices c) ≡ forgotten (supplied choices d)) × (forgotten (advanced milliseconds c) ≡ forgotten (advanced milliseconds d)) × (main_raised c.tasks ≡ main_raised d.tasks)
