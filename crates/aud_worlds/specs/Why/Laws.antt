-- What else holds of every list of events.
use Rattle.std.specs.Prelude.{◌≡◌, ℕ, ◌<◌, ◌≤◌, List, [], ◌∷◌, length, Option, Some, None, Bool, false}
use Rattle.aud_text.specs.declared.limits.Limits.{Limits}
use Rattle.aud_bench.specs.declared.request.Request.{Request}
use Rattle.aud_bench.specs.Seen.{Seen as Bench}
use Rattle.aud_hall.specs.declared.next.Next.TheVariants.{More, Idle}
use Rattle.aud_hall.specs.Slices.{sliced}
use Rattle.aud_hall.specs.Replies.{Reply, Accepted, Refused, Sent, Worked, Taken, Stranger, Answers, Nothing}
use Rattle.aud_hall.specs.Seats.{Seat, has_closed, submitted, sent}
use Rattle.aud_hall.specs.CheckIns.{judged}
use Rattle.aud_hall.specs.Halls.{Place, place_at}
use Rattle.aud_worlds.specs.World.{World, Event, CheckIn, happens}
use Rattle.aud_worlds.specs.Mine.{own_of, track_after, part_of}
use Rattle.aud_worlds.specs.Headline.{IsIdle, AnswersAlone, now_is, track_is, part_is}
use Rattle.aud_worlds.specs.Ties.Worlds.{IsRightWorld}

-- outboxes and parcels are what they are said to be, in every world
abbrev pub WorldLaw : Type 0
WorldLaw = (limits : List Limits) (events : List Event) → IsRightWorld (now_is limits events)

-- it holds of each claimed seat of a hall
abbrev pub OfEachSeat : (Limits → Seat → Type 0) → List Place → Type 0
OfEachSeat P hall = (k : ℕ) (place : Place) (s : Seat) → place_at hall k ≡ Some place → place.seat ≡ Some s → P place.limits s

-- the answers at each seat are those of a private server to the requests that are stored there
abbrev pub IsolationLaw : Type 0
IsolationLaw = (limits : List Limits) (events : List Event) → OfEachSeat (λ l s. AnswersAlone l s.requests s) (now_is limits events).hall

-- ## When no work is in hand

-- an open bench is at home, and each request has its answer
pub record IsDone (s : Seat) : Type 0 where
  pub home : (b : Bench) × (s.home ≡ Some b)
  pub open_there : has_closed s.home ≡ false
  pub answers : length s.outbox ≡ length s.requests

pub record CountsTell (limits : Limits) (s : Seat) : Type 0 where
  pub done : IsIdle limits s.requests s → IsDone s
  pub idle : IsDone s → IsIdle limits s.requests s

-- so the counts of answers and requests tell whether work is in hand, and nobody has to know the units
abbrev pub IdleLaw : Type 0
IdleLaw = (limits : List Limits) (events : List Event) → OfEachSeat CountsTell (now_is limits events).hall

-- and so does the reply to a parcel that is taken in, where its bench has not closed
abbrev pub TellsIdleLaw : Type 0
TellsIdleLaw = (limits : List Limits) (events : List Event) (n k : ℕ) (place : Place) (s : Seat)
    → place_at (happens (CheckIn n k) (now_is limits events)).now.hall k ≡ Some place → place.seat ≡ Some s
    → ((happens (CheckIn n k) (now_is limits events)).reply ≡ Taken Idle → has_closed s.home ≡ false → IsIdle place.limits s.requests s)
    × ((happens (CheckIn n k) (now_is limits events)).reply ≡ Taken More → length s.outbox < length s.requests)

-- an outbox is never longer than the stored requests, so that room kept for each of these is enough
abbrev pub RoomLaw : Type 0
RoomLaw = (limits : List Limits) (events : List Event) → OfEachSeat (λ l s. length s.outbox ≤ length s.requests) (now_is limits events).hall

-- ## What a seat takes in

abbrev pub after_slices : List (ℕ × Option ℕ) → Bench → Bench
after_slices [] b = b
after_slices (x ∷ xs) b = after_slices xs (sliced x.0 x.1 b)

abbrev pub after_submits : List (Request × Bool) → Seat → Seat
after_submits [] s = s
after_submits (x ∷ xs) s = after_submits xs (submitted x.0 x.1 s).now

-- no reason holds against the bench that the seat sent out, after slices of it, and after requests that came to the seat meanwhile
abbrev pub TakesBack : Limits → Seat → Type 0
TakesBack limits s = (refused : Option ℕ) (b : Bench) → (sent refused s).gone ≡ Some b → (slices : List (ℕ × Option ℕ)) (submits : List (Request × Bool))
    → judged limits (after_slices slices b) (after_submits submits (sent refused s).seat) ≡ None

abbrev pub AwaitedLaw : Type 0
AwaitedLaw = (limits : List Limits) (events : List Event) → OfEachSeat TakesBack (now_is limits events).hall

-- ## What changes nothing

-- an event that is not a session's own changes nothing that is
abbrev pub OthersLaw : Type 0
OthersLaw = (limits : List Limits) (events : List Event) (k n : ℕ) (e : Event)
    → own_of k (track_is k n limits events) (now_is limits events) e ≡ None
    → part_of k (track_after k (track_is k n limits events) (now_is limits events) e) (happens e (now_is limits events)).now ≡ part_is k n limits events

abbrev pub IsRefusal : Reply → Type 0
IsRefusal (Refused fault) = Unit {0}
IsRefusal (Stranger why) = Unit {0}
IsRefusal (Answers answers) = Unit {0}
IsRefusal Nothing = Unit {0}
IsRefusal Accepted = ⊥
IsRefusal (Sent _) = ⊥
IsRefusal (Worked done left) = ⊥
IsRefusal (Taken next) = ⊥

-- a call that is refused changes nothing, and neither does a look at the answers
abbrev pub RefusalLaw : Type 0
RefusalLaw = (e : Event) (w : World) → IsRefusal (happens e w).reply → (happens e w).now ≡ w
