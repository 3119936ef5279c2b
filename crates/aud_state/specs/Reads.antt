-- What is read of one task.
use Rattle.std.specs.Prelude.{◌≡◌, ℕ, Option, Some, None, Bool, true, false, ◌&&◌, not, if◌then◌else◌}
use Rattle.aud_text.specs.declared.place.Pos.{Pos}
use Rattle.aud_typed.specs.Tree.{Plan}
use Rattle.aud_meaning.specs.declared.state.Owner.{Owner}
use Rattle.aud_meaning.specs.declared.state.Owner.TheVariants as owner
use Rattle.aud_meaning.specs.declared.state.Status.TheVariants.{Running}
use Rattle.aud_meaning.specs.declared.state.StepKind.{StepKind}
use Rattle.aud_meaning.specs.declared.state.StepKind.TheVariants as step
use Rattle.aud_meaning.specs.Configuration.{Call, Own, TaskAt, All}
use Rattle.aud_meaning.specs.Control.{Coming, simply, ending, selecting, calling, starting}
use Rattle.aud_meaning.specs.Evaluation.{Sight}
use Rattle.aud_meaning.specs.Parts.{is_idle, is_queued, object_of}
use Rattle.aud_meaning.specs.Run.{construct_left, end_kind_by, master_left_by}
use Rattle.aud_code.specs.Flat.{Flat, coming_at}
use Rattle.aud_code.specs.Places.{Spot}
use Rattle.aud_sequential.specs.Next.{place_in}
use Rattle.aud_calls.specs.Cancelling.{time_by}

-- it runs, is not abnormal, services no object and makes no other task's call again
pub record IsPlain (own : Own) : Type 0 where
  pub runs : own.status ≡ Running
  pub normal : own.abnormal ≡ false
  pub free : own.serving ≡ None
  pub settled : own.restart ≡ None

-- what comes next of a task's own statements
abbrev pub coming_by : Flat → Plan → Sight → Option (TaskAt Spot) → Coming
coming_by code plan s None = ending
coming_by code plan s (Some t) = coming_at code plan t.own.pending s t.control

-- it leaves this master, if it leaves one (RM 9.3)
abbrev pub LeavesBy : Own → Option ℕ → Coming → Type 0
LeavesBy own master (simply w) = master ≡ None
LeavesBy own master ending = master ≡ master_left_by (construct_left own)
LeavesBy own master (selecting ones) = master ≡ None
LeavesBy own master (calling task entry) = master ≡ None
LeavesBy own master (starting object reading) = master ≡ None

-- it is a step of this kind
abbrev pub IsOfItsKind : Own → StepKind → Coming → Type 0
IsOfItsKind own kind (simply w) = kind ≡ w
IsOfItsKind own kind ending = kind ≡ end_kind_by (construct_left own)
IsOfItsKind own kind (selecting ones) = kind ≡ step.Select
IsOfItsKind own kind (calling task entry) = kind ≡ step.Call
IsOfItsKind own kind (starting object reading) = kind ≡ step.Start

-- the place that is shown for its own statements
abbrev pub place_by : Flat → Option (TaskAt Spot) → Pos
place_by code None = record { line = 0; col = 0 }
place_by code (Some t) = place_in code t.control.place t.own.pending

abbrev pub is_free : Owner → All Spot → Bool
is_free (owner.Task m) c = true
is_free (owner.Object o) c = is_idle (object_of o c)

-- the time from which on a call can be cancelled that does not stay, while it is queued and no action is under way on its object (RM 9.7.2)
abbrev pub cancelled_from : Call → All Spot → Option ℕ
cancelled_from call c = if is_queued call.state && not call.stays && is_free call.owner c then time_by call.form else None
