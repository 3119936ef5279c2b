-- Calls at a place of the hall, as its methods make them.
use Rattle.std.specs.Prelude.{◌≡◌, ℕ, zero, suc, List, [], Option, Some, None, Box}
use Rattle.std.specs.Global.{Global}
use Rattle.aud_text.specs.declared.limits.Limits.{Limits}
use Rattle.aud_bench.specs.declared.request.Request.{Request}
use Rattle.aud_bench.specs.declared.request.Answer.{Answer}
use Rattle.aud_bench.specs.Seen.{Seen as Bench}
use Rattle.aud_hall.specs.declared.why.Why.{Why}
use Rattle.aud_hall.specs.Numbered.{at}
use Rattle.aud_hall.specs.Replies.{Stranger, Then}
use Rattle.aud_hall.specs.Seats.{Seat, sent}
use Rattle.aud_hall.specs.CheckIns.{judged, judged_vacant, checked}
use Rattle.aud_hall.specs.Halls.{Place, with_seat}
use Rattle.aud_hall.specs.Ties.Right.{IsRight}

-- the bench in a box, where there is one
abbrev pub unboxed : Option (Box Bench Global) → Option Bench
unboxed None = None
unboxed (Some b) = Some b.value

-- the seat is right, by the limits of its place
abbrev pub IsRightThere : Seat → Type 0
IsRightThere s = (limits : Limits) × ∥ IsRight limits s ∥₁

-- the bench of a place goes out, or stays
abbrev pub SentFrom : Option ℕ → Place → Option Seat → Place → Option Bench → Type 0
SentFrom refused place None after gone = (after ≡ place) × (gone ≡ None)
SentFrom refused place (Some s) after gone = (after ≡ record place { seat = Some (sent refused s).seat }) × (gone ≡ (sent refused s).gone)

-- why a place does not take a bench in, if it does not
abbrev pub judged_at : Place → Option Seat → Bench → Option Why
judged_at place None b = Some (judged_vacant place.limits b)
judged_at place (Some s) b = judged place.limits b s

-- a bench comes to a place
abbrev pub checked_at : Bench → Place → Option Seat → Then Place
checked_at b place None = record { now = place; reply = Stranger (judged_vacant place.limits b) }
checked_at b place (Some s) = with_seat place (checked (judged place.limits b s) b s)

abbrev pub asked_in : Option Seat → Option (List Request)
asked_in None = None
asked_in (Some s) = Some s.requests

-- the requests stored at a place of the hall, where it is claimed
abbrev pub asked_at : Option Place → Option (List Request)
asked_at None = None
asked_at (Some place) = asked_in place.seat

abbrev pub outbox_in : Option Seat → List Answer
outbox_in None = []
outbox_in (Some s) = s.outbox

-- the answers at a place of the hall; none where it is not claimed
abbrev pub outbox_at : Option Place → List Answer
outbox_at None = []
outbox_at (Some place) = outbox_in place.seat

-- the limits of a place of the hall
abbrev pub limits_at : Option Place → Option Limits
limits_at None = None
limits_at (Some place) = Some place.limits

-- where seats have these limits, those of the seat of a number, if there is one: seats are numbered from 1
abbrev pub seat_limits : List Limits → ℕ → Option Limits
seat_limits limits zero = None
seat_limits limits (suc k) = at limits k
