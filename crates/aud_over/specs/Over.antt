-- Frames and calls that are over: what no step and no listing reads any more.
use Rattle.std.specs.Prelude.{ℕ, suc, List, [], ◌∷◌, Bool, true, false, not, ◌||◌, Option, None, Some, nat_eq}
use Rattle.aud_meaning.specs.declared.state.Restart.{Restart}
use Rattle.aud_meaning.specs.declared.state.CallState.{CallState}
use Rattle.aud_meaning.specs.declared.state.CallState.TheVariants.{Queued, Selected, Done, Cancelled}
use Rattle.aud_meaning.specs.Configuration.{Frame, Purpose, for_entry, for_accept, Opened, Own, Call, Object, All}
use Rattle.aud_meaning.specs.Parts.{contains, any, owns, no_call}
use Rattle.aud_meaning.specs.Ties.Named.{opened_name}

-- Frames.

-- a task sees it, or an open frame is this one or was opened where it was seen
abbrev pub own_names : ℕ → Own → Bool
own_names f own = contains f own.display || opened_name f own.opened

abbrev pub object_names : ℕ → Object → Bool
object_names f o = contains f o.display

-- a task or an object names it; the first frame is that of the main procedure
abbrev pub is_named : List Own → List Object → ℕ → Bool
is_named os objects f = nat_eq f 0 || (any (own_names f) os || any (object_names f) objects)

-- Calls.

abbrev pub is_call_over : CallState → Bool
is_call_over Queued = false
is_call_over Selected = false
is_call_over Done = true
is_call_over Cancelled = true

-- a frame was opened for it
abbrev pub is_for : ℕ → Purpose → Bool
is_for id (for_entry object i served back) = nat_eq id i
is_for id (for_accept i) = nat_eq id i
is_for id _ = false

-- its acceptor makes it again, on an object, as its next step
abbrev pub is_made_again : ℕ → Option Restart → Bool
is_made_again id None = false
is_made_again id (Some r) = nat_eq id r.call

abbrev pub own_serves : ℕ → Own → Bool
own_serves id own = is_made_again id own.restart || any (λ (o : Opened). is_for id o.purpose) own.opened

abbrev pub is_served : List Own → ℕ → Bool
is_served os id = any (own_serves id) os

-- What is left of them.

abbrev pub frame_if : Bool → Frame → Frame
frame_if true f = f
frame_if false f = []

abbrev pub frames_left : (ℕ → Bool) → ℕ → List Frame → List Frame
frames_left named n [] = []
frames_left named n (f ∷ fs) = frame_if (named n) f ∷ frames_left named (suc n) fs

abbrev pub call_if : Bool → Call → Call
call_if true c = c
call_if false c = no_call

abbrev pub calls_left : (ℕ → Bool) → ℕ → List Call → List Call
calls_left served n [] = []
calls_left served n (c ∷ cs) = call_if (not (is_call_over c.state) || served n) c ∷ calls_left served (suc n) cs

-- with these frames and calls in place of its own
abbrev pub with_kept : {C : Type 0} → List Frame → List Call → All C → All C
with_kept frames calls c = record c { shared = record c.shared { frames = frames; calls = calls } }

-- what is over is empty, and all numbers are as they were
abbrev pub forgotten : {C : Type 0} → All C → All C
forgotten c =
    with_kept (frames_left (is_named (owns c.tasks) c.shared.objects) 0 c.shared.frames) (calls_left (is_served (owns c.tasks)) 0 c.shared.calls) c
