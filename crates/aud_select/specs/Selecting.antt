-- Open alternatives.
use Rattle.std.specs.Prelude.{ℕ, List, ◌+◌, length, is_some, Bool, not, ◌&&◌, nat_eq}
use Rattle.aud_meaning.specs.declared.state.OpenAccept.{OpenAccept}
use Rattle.aud_meaning.specs.Configuration.{Call, Waits}
use Rattle.aud_meaning.specs.Parts.{queue}
use Rattle.aud_calls.specs.Queues.{oldest}

-- there is none
abbrev pub is_none_open : Waits → Bool
is_none_open w = nat_eq (length w.accepts + length w.delays) 0 && not w.terminate

-- a call is queued on the entry of a task's alternative
abbrev pub has_call : ℕ → List Call → OpenAccept → Bool
has_call n calls a = is_some (oldest (queue n a.entry calls))
