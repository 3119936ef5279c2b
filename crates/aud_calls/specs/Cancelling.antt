-- Entry calls that can be cancelled.
use Rattle.std.specs.Prelude.{ℕ, Option, None, Some, Bool, ◌&&◌, not}
use Rattle.aud_meaning.specs.declared.state.Form.{Form}
use Rattle.aud_meaning.specs.declared.state.Form.TheVariants.{Plain, Conditional, TimedTo}
use Rattle.aud_meaning.specs.Configuration.{Call}
use Rattle.aud_meaning.specs.Parts.{is_queued}

-- it is queued, and does not stay whatever happens to its caller (RM 9.5.4)
abbrev pub can_leave : Call → Bool
can_leave call = is_queued call.state && not call.stays

-- the time that a call of this form waits for (RM 9.7.2)
abbrev pub time_by : Form → Option ℕ
time_by Plain = None
time_by (Conditional time) = None
time_by (TimedTo time) = Some time
