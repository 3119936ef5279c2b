-- What the calls of a hall leave, and what they reply.
use Rattle.std.specs.Prelude.{ℕ, zero, suc, List, [], ◌∷◌, Option, Some, None, Bool, true, false}
use Rattle.aud_text.specs.declared.limits.Limits.{Limits}
use Rattle.aud_bench.specs.declared.request.Request.{Request}
use Rattle.aud_bench.specs.Seen.{Seen as Bench}
use Rattle.aud_hall.specs.declared.fault.HallFault.TheVariants.{NoSuchSeat, SeatInUse, NotClaimed, Memory}
use Rattle.aud_hall.specs.declared.why.Why.TheVariants.{NoSeat}
use Rattle.aud_hall.specs.Numbered.{at, put}
use Rattle.aud_hall.specs.Replies.{Accepted, Refused, Stranger, Then}
use Rattle.aud_hall.specs.Seats.{Seat, Sending, claimed, submitted, sent, collected}
use Rattle.aud_hall.specs.CheckIns.{judged, judged_vacant, checked}

-- a place of the hall, and the seat there, where it is claimed
pub record Place : Type 0 where
  pub limits : Limits
  pub seat : Option Seat

-- a hall that nobody has entered yet
abbrev pub nobodys : List Limits → List Place
nobodys [] = []
nobodys (limits ∷ others) = record { limits = limits; seat = None } ∷ nobodys others

-- seats are numbered from 1
abbrev pub place_at : List Place → ℕ → Option Place
place_at hall zero = None
place_at hall (suc k) = at hall k

-- the limits of its seats, which no call changes
abbrev pub limits_of : List Place → List Limits
limits_of [] = []
limits_of (place ∷ hall) = place.limits ∷ limits_of hall

abbrev pub put_place : List Place → ℕ → Place → List Place
put_place hall zero place = hall
put_place hall (suc k) place = put hall k place

-- ## Calls at a place, claimed or not

abbrev pub with_seat : Place → Then Seat → Then Place
with_seat place t = record { now = record place { seat = Some t.now }; reply = t.reply }

-- a call at a claimed seat
abbrev pub at_seat : (Seat → Then Seat) → Place → Option Seat → Then Place
at_seat call place None = record { now = place; reply = Refused NotClaimed }
at_seat call place (Some s) = with_seat place (call s)

abbrev pub claiming : (refused : Bool) → Place → Option Seat → Then Place
claiming refused place (Some s) = record { now = place; reply = Refused SeatInUse }
claiming true place None = record { now = place; reply = Refused Memory }
claiming false place None = record { now = record place { seat = Some (claimed place.limits) }; reply = Accepted }

abbrev pub freeing : Place → Option Seat → Then Place
freeing place None = record { now = place; reply = Refused NotClaimed }
freeing place (Some s) = record { now = record place { seat = None }; reply = Accepted }

-- ## Calls of the hall

abbrev pub with_place : ℕ → List Place → Then Place → Then (List Place)
with_place k hall t = record { now = put_place hall k t.now; reply = t.reply }

-- a call at one of its places
abbrev pub at_place : ℕ → (Place → Option Seat → Then Place) → List Place → Option Place → Then (List Place)
at_place k call hall None = record { now = hall; reply = Refused NoSuchSeat }
at_place k call hall (Some place) = with_place k hall (call place place.seat)

abbrev pub claims : (k : ℕ) (refused : Bool) → List Place → Then (List Place)
claims k refused hall = at_place k (claiming refused) hall (place_at hall k)

abbrev pub submits : ℕ → Request → (refused : Bool) → List Place → Then (List Place)
submits k r refused hall = at_place k (at_seat (submitted r refused)) hall (place_at hall k)

abbrev pub collects : (k from : ℕ) (refused : Bool) → List Place → Then (List Place)
collects k from refused hall = at_place k (at_seat (λ s. record { now = s; reply = collected from refused s })) hall (place_at hall k)

abbrev pub frees : ℕ → List Place → Then (List Place)
frees k hall = at_place k freeing hall (place_at hall k)

-- ## A bench goes out

-- a hall, and the bench that went out
pub record HallSending : Type 0 where
  pub hall : List Place
  pub gone : Option Bench

abbrev pub with_sending : ℕ → List Place → Place → Sending → HallSending
with_sending k hall place s = record { hall = put_place hall k (record place { seat = Some s.seat }); gone = s.gone }

abbrev pub sending_seat : (k : ℕ) (refused : Option ℕ) → List Place → Place → Option Seat → HallSending
sending_seat k refused hall place None = record { hall = hall; gone = None }
sending_seat k refused hall place (Some s) = with_sending k hall place (sent refused s)

abbrev pub sending_place : (k : ℕ) (refused : Option ℕ) → List Place → Option Place → HallSending
sending_place k refused hall None = record { hall = hall; gone = None }
sending_place k refused hall (Some place) = sending_seat k refused hall place place.seat

abbrev pub sends_out : (k : ℕ) (refused : Option ℕ) → List Place → HallSending
sends_out k refused hall = sending_place k refused hall (place_at hall k)

-- ## A bench comes back

abbrev pub checking_seat : ℕ → List Place → Bench → Place → Option Seat → Then (List Place)
checking_seat k hall b place None = record { now = hall; reply = Stranger (judged_vacant place.limits b) }
checking_seat k hall b place (Some s) = with_place k hall (with_seat place (checked (judged place.limits b s) b s))

abbrev pub checking_place : ℕ → List Place → Bench → Option Place → Then (List Place)
checking_place k hall b None = record { now = hall; reply = Stranger NoSeat }
checking_place k hall b (Some place) = checking_seat k hall b place place.seat

abbrev pub checks_in : ℕ → Bench → List Place → Then (List Place)
checks_in k b hall = checking_place k hall b (place_at hall k)
