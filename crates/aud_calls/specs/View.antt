-- Entry calls in memory, as those of a configuration.
use Rattle.std.specs.Prelude.{ℕ, List, [], false}
use Rattle.aud_meaning.specs.declared.state.CallState.TheVariants.{Selected}
use Rattle.aud_meaning.specs.Configuration as meaning
use Rattle.aud_meaning.specs.Parts.{no_call}
use Rattle.aud_calls.specs.declared.calls.Call.{Call}
use Rattle.aud_calls.specs.declared.calls.NewCall.{NewCall}
use Rattle.aud_calls.specs.declared.slot.Slot.{Slot}
use Rattle.aud_calls.specs.declared.slot.Slot.TheVariants.{GivenBack, Kept as IsInBox}

-- all entry calls ever made, and the number of arrivals
pub record Kept : Type 0 where
  pub calls : List meaning.Call
  pub arrivals : ℕ

abbrev pub plain_call : Call → meaning.Call
plain_call c = record { caller = c.caller; owner = c.owner; entry = c.entry; arrival = c.arrival; values = c.values.items; unseen = c.unseen.items; backs = c.backs.items; form = c.form; stays = c.stays; at = c.at; state = c.state }

-- of one that is given back only that is known
abbrev pub plain_slot : Slot → meaning.Call
plain_slot (IsInBox c) = plain_call c.value
plain_slot (GivenBack state) = record no_call { state = state }

abbrev pub IsKept : Slot → Type 0
IsKept (IsInBox c) = Unit {0}
IsKept (GivenBack state) = ⊥

-- one that is made just now
abbrev pub made_call : NewCall → meaning.Call
made_call c = record { caller = c.caller; owner = c.owner; entry = c.entry; arrival = 0; values = c.values.items; unseen = []; backs = c.backs.items; form = c.form; stays = false; at = c.at; state = Selected }
