-- How far a task is, and until when it rests, whatever other tasks do.
use Rattle.std.specs.Prelude.{◌≡◌, ◌<◌, ℕ, Option, None, Bool, false, nat_le}
use Rattle.aud_meaning.specs.declared.state.OpenDelay.{OpenDelay}
use Rattle.aud_meaning.specs.declared.state.Serving.{Serving}
use Rattle.aud_meaning.specs.declared.state.Status.{Status}
use Rattle.aud_meaning.specs.declared.state.Status.TheVariants.{Accepting, Activating, Calling, Completed, Created, Delaying, Running, Terminated}
use Rattle.aud_meaning.specs.Configuration as meaning
use Rattle.aud_meaning.specs.Parts.{any}
use Rattle.aud_state.specs.declared.task.Waits.{Waits}

abbrev pub plain_waits : Waits → meaning.Waits
plain_waits w = record { accepts = w.accepts.items; delays = w.delays.items; terminate = w.terminate }

-- how far it is, at what it is blocked, the servicing of an object, and whether it is abnormal
pub record Condition : Type 0 where
  pub status : Status
  pub waits : meaning.Waits
  pub serving : Option Serving
  pub abnormal : Bool

abbrev pub has_come : ℕ → OpenDelay → Bool
has_come clock d = nat_le d.time clock

-- it is not abnormal, and services no object
abbrev pub IsQuiet : Condition → Type 0
IsQuiet c = (c.abnormal ≡ false) × (c.serving ≡ None)

-- it has no move at this time, whatever others do; of one at an entry call nothing is said
abbrev pub RestsAt : Status → ℕ → Condition → Type 0
RestsAt Created clock c = Unit {0}
RestsAt Running clock c = ⊥
RestsAt Activating clock c = IsQuiet c
RestsAt Accepting clock c = IsQuiet c × (any (has_come clock) c.waits.delays ≡ false)
RestsAt Delaying clock c = IsQuiet c × (any (has_come clock) c.waits.delays ≡ false)
RestsAt Calling clock c = ⊥
RestsAt Completed clock c = ⊥
RestsAt Terminated clock c = Unit {0}

-- so it is at each time before this one
abbrev pub RestsUntil : ℕ → Condition → Type 0
RestsUntil wakes c = (clock : ℕ) → clock < wakes → RestsAt c.status clock c
