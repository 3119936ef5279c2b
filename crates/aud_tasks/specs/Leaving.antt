-- How the innermost frame is left.
use Rattle.std.specs.Prelude.{Option, Some, None, false}
use Rattle.aud_text.specs.declared.place.Pos.{Pos}
use Rattle.aud_meaning.specs.declared.state.Pending.{Pending}
use Rattle.aud_meaning.specs.Configuration.{Own}
use Rattle.aud_meaning.specs.Effects.{closed, pends}
use Rattle.aud_store.specs.declared.purpose.Purpose.{Purpose}
use Rattle.aud_store.specs.declared.purpose.Purpose.TheVariants.{Operation, Procedure}
use Rattle.aud_store.specs.declared.purpose.Returns.{Returns}

-- normally, or by what was pending, which is pending at this place behind it
abbrev pub closed_by : Option Pending → Pos → Own → Own
closed_by None at own = closed own
closed_by (Some p) at own = pends p.exception at (closed own)

-- what the end of a procedure or function does that a frame was opened for
abbrev pub returns_of : Purpose → Returns
returns_of (Procedure level r) = r
returns_of (Operation object r) = r
returns_of purpose = record { is_function = false; backs = 0; into = None; value = None }
