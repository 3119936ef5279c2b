-- A program keeps the limits of its machine, whichever moves are taken.
use Rattle.std.specs.Prelude.{◌≡◌, ℕ, suc, ◌+◌, ◌<◌, ◌≤◌, List, [], ◌∷◌, length, Bool, true, false, slice_index_or}
use Rattle.aud_text.specs.declared.limits.Limits.{Limits}
use Rattle.aud_text.specs.declared.limits.TheConstants.{OBJECTS, OUTPUT, FRAMES, ELEMENTS}
use Rattle.aud_typed.specs.Tree.{Plan}
use Rattle.aud_meaning.specs.declared.state.Status.{Status}
use Rattle.aud_meaning.specs.declared.state.Move.{Move}
use Rattle.aud_meaning.specs.Configuration.{Purpose, for_body, for_block, for_loop, for_procedure, for_operation, for_entry, for_accept, Opened, Own, TaskAt, All}
use Rattle.aud_meaning.specs.Control.{Controls}
use Rattle.aud_meaning.specs.Effects.{live_frames}
use Rattle.aud_meaning.specs.Parts.{is_created, own_of}
use Rattle.aud_meaning.specs.Run.{step_with, run_with, supplied, advanced, opening_with}

abbrev pub one_if : Bool → ℕ
one_if true = 1
one_if false = 0

-- the frame of its body, which a task that isn't activated yet gets without a test
abbrev pub reserved : Status → ℕ
reserved status = one_if (is_created status)

-- a task that goes back from an entry body was activated before
abbrev pub GoesBack : Purpose → Type 0
GoesBack for_body = Unit {0}
GoesBack for_block = Unit {0}
GoesBack for_loop = Unit {0}
GoesBack (for_procedure r) = Unit {0}
GoesBack (for_operation object r) = Unit {0}
GoesBack (for_entry object id served back) = is_created back.status ≡ false
GoesBack (for_accept id) = Unit {0}

abbrev pub AllGoBack : List Opened → Type 0
AllGoBack [] = Unit {0}
AllGoBack (o ∷ os) = GoesBack o.purpose × AllGoBack os

-- a task has no more live frames than the limit, with the one that it gets without a test
abbrev pub Fits : Own → Type 0
Fits own = (reserved own.status + live_frames own.opened ≤ FRAMES) × AllGoBack own.opened

abbrev pub AllFit : {C : Type 0} → List (TaskAt C) → Type 0
AllFit [] = Unit {0}
AllFit (t ∷ ts) = Fits t.own × AllFit ts

-- a program under way keeps the limits
pub record IsWithin (C : Type 0) (limits : Limits) (c : All C) : Type 0 where
  pub tasks : length c.tasks ≤ limits.tasks
  pub objects : length c.shared.objects ≤ OBJECTS
  pub output : length c.shared.output ≤ OUTPUT
  pub frames : AllFit c.tasks

-- Any move keeps them, enabled or not.
pub record KeepsLimits (C : Type 0) (plan : Plan) (k : Controls C) (limits : Limits) : Type 0 where
  pub opening : (name : List ℕ) (left : C) → 1 ≤ limits.tasks → IsWithin C limits (opening_with plan name left)
  pub step : (c : All C) (m : Move) → IsWithin C limits c → IsWithin C limits (step_with plan k limits c m)
  pub run : (n : ℕ) (c : All C) → IsWithin C limits c → IsWithin C limits (run_with plan k limits n c)
  pub supply : (choices : List ℕ) (c : All C) → IsWithin C limits c → IsWithin C limits (supplied choices c)
  pub wait : (milliseconds : ℕ) (c : All C) → IsWithin C limits c → IsWithin C limits (advanced milliseconds c)
  -- the live frames of a task, by its number
  pub live : (c : All C) → IsWithin C limits c → (n : ℕ) → live_frames (own_of n c).opened ≤ FRAMES
  -- no step gives a frame that there is more cells than an array may have elements
  pub elements : (c : All C) (m : Move) (frame : ℕ) → frame < length c.shared.frames → length (slice_index_or (step_with plan k limits c m).shared.frames frame []) ≤ length (slice_index_or c.shared.frames frame []) + ELEMENTS
  pub counted : (c : All C) (m : Move) → (step_with plan k limits c m).steps ≤ suc c.steps

abbrev pub LimitsLaw : (C : Type 0) → Type 0
LimitsLaw C = (plan : Plan) (k : Controls C) (limits : Limits) → KeepsLimits C plan k limits
