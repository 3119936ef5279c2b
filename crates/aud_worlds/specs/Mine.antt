-- Which events of the world are a session's own, and what of the world is. A session is a seat, and how many began there before it.
use Rattle.std.specs.Prelude.{ℕ, zero, suc, List, [], ◌∷◌, ◌++◌, Option, Some, None, Bool, true, false, ◌==◌, if◌then◌else◌}
use Rattle.aud_text.specs.declared.limits.Limits.{Limits}
use Rattle.aud_bench.specs.Seen.{Seen as Bench}
use Rattle.aud_hall.specs.Numbered.{one_on}
use Rattle.aud_hall.specs.Replies.{Reply, Accepted, Sent}
use Rattle.aud_hall.specs.Seats.{Seat}
use Rattle.aud_hall.specs.Halls.{Place, place_at}
use Rattle.aud_hall.specs.Parcels.{Parcel, bench_of}
use Rattle.aud_worlds.specs.World.{World, Event, Claim, Submit, SendOut, Slice, CheckIn, Collect, Free, parcel_at, happens, beginning}
use Rattle.aud_worlds.specs.Session.{Held, Part, Own, Began, Submitted, SentOut, Sliced, Returned, Strayed, Collected, Freed}

-- so many sessions begin at the seat before it; it lasts; it is over
pub data Phase : Type 0 where
  Waiting : ℕ → Phase
  Lasting : Phase
  Over : Phase

-- where a session is, and which of all parcels that were ever sent out were sent out for it
pub record Track : Type 0 where
  pub phase : Phase
  pub marks : List Bool

-- ## What of the world is its own

abbrev pub with_limits : Limits → Option Seat → Option Held
with_limits limits None = None
with_limits limits (Some s) = Some (record { limits = limits; seat = s })

abbrev pub held_of : Option Place → Option Held
held_of None = None
held_of (Some place) = with_limits place.limits place.seat

abbrev pub held_in : Phase → Option Place → Option Held
held_in (Waiting n) place = None
held_in Lasting place = held_of place
held_in Over place = None

abbrev pub marked : List Bool → List (Option Parcel) → List (Option Bench)
marked [] out = []
marked (m ∷ marks) [] = []
marked (true ∷ marks) (x ∷ out) = bench_of x ∷ marked marks out
marked (false ∷ marks) (x ∷ out) = marked marks out

abbrev pub part_of : (k : ℕ) → Track → World → Part
part_of k t w = record { held = held_in t.phase (place_at w.hall k); parcels = marked t.marks w.out }

-- the session's own number of a parcel
abbrev pub own_number : List Bool → ℕ → Option ℕ
own_number [] n = None
own_number (true ∷ marks) zero = Some 0
own_number (false ∷ marks) zero = None
own_number (true ∷ marks) (suc n) = one_on (own_number marks n)
own_number (false ∷ marks) (suc n) = own_number marks n

-- ## Which events are

abbrev pub lasting : Phase → Own → Option Own
lasting (Waiting n) o = None
lasting Lasting o = Some o
lasting Over o = None

abbrev pub at_own : (k j : ℕ) → Phase → Own → Option Own
at_own k j phase o = if j == k then lasting phase o else None

-- a claim that succeeds begins the session, where no other is to begin before it
abbrev pub begins_seat : Limits → Option Seat → (refused : Bool) → Option Own
begins_seat limits (Some s) refused = None
begins_seat limits None true = None
begins_seat limits None false = Some (Began limits)

abbrev pub begins_place : Option Place → (refused : Bool) → Option Own
begins_place None refused = None
begins_place (Some place) refused = begins_seat place.limits place.seat refused

abbrev pub begins : Phase → Option Place → (refused : Bool) → Option Own
begins (Waiting zero) place refused = begins_place place refused
begins (Waiting (suc n)) place refused = None
begins Lasting place refused = None
begins Over place refused = None

abbrev pub slice_of : (units : ℕ) (refused : Option ℕ) → Option ℕ → Option Own
slice_of units refused None = None
slice_of units refused (Some n) = Some (Sliced n units refused)

abbrev pub stray_of : Reply → Option ℕ → Option Own
stray_of reply None = None
stray_of reply (Some n) = Some (Strayed n reply)

abbrev pub is_lasting : Phase → Bool
is_lasting (Waiting n) = false
is_lasting Lasting = true
is_lasting Over = false

-- at the session's seat any bench counts, and elsewhere those of its own parcels; elsewhere is also its seat before it and after it
abbrev pub return_of : (here : Bool) → Reply → Option ℕ → Option Parcel → Option Own
return_of here reply number None = None
return_of true reply number (Some p) = Some (Returned p.bench number)
return_of false reply number (Some p) = stray_of reply number

abbrev pub is_here : (k j : ℕ) → Phase → Bool
is_here k j phase = if j == k then is_lasting phase else false

-- the session's own event that an event is, if it is one
abbrev pub own_of : (k : ℕ) → Track → World → Event → Option Own
own_of k t w (Claim j refused) = if j == k then begins t.phase (place_at w.hall k) refused else None
own_of k t w (Submit j r refused) = at_own k j t.phase (Submitted r refused)
own_of k t w (SendOut j refused) = at_own k j t.phase (SentOut refused)
own_of k t w (Slice n units refused) = slice_of units refused (own_number t.marks n)
own_of k t w (CheckIn n j) = return_of (is_here k j t.phase) (happens (CheckIn n j) w).reply (own_number t.marks n) (parcel_at w.out n)
own_of k t w (Collect j from refused) = at_own k j t.phase (Collected from refused)
own_of k t w (Free j) = at_own k j t.phase Freed

-- ## Where the session is after an event

abbrev pub phase_begun : Phase → Reply → Phase
phase_begun (Waiting zero) Accepted = Lasting
phase_begun (Waiting (suc n)) Accepted = Waiting n
phase_begun phase _ = phase

abbrev pub phase_ended : Phase → Phase
phase_ended (Waiting n) = Waiting n
phase_ended Lasting = Over
phase_ended Over = Over

abbrev pub marks_of : (own : Bool) → Reply → List Bool
marks_of own (Sent (Some b)) = own ∷ []
marks_of own _ = []

abbrev pub track_after : (k : ℕ) → Track → World → Event → Track
track_after k t w (Claim j refused) = record t { phase = if j == k then phase_begun t.phase (happens (Claim j refused) w).reply else t.phase }
track_after k t w (Submit j r refused) = t
track_after k t w (SendOut j refused) = record t { marks = t.marks ++ marks_of (is_here k j t.phase) (happens (SendOut j refused) w).reply }
track_after k t w (Slice n units refused) = t
track_after k t w (CheckIn n j) = t
track_after k t w (Collect j from refused) = t
track_after k t w (Free j) = record t { phase = if j == k then phase_ended t.phase else t.phase }

abbrev pub track_from : (k : ℕ) → Track → World → List Event → Track
track_from k t w [] = t
track_from k t w (e ∷ es) = track_from k (track_after k t w e) (happens e w).now es

-- before a session, which so many others come before at its seat
abbrev pub outset : (n : ℕ) → Track
outset n = record { phase = Waiting n; marks = [] }

-- ## All of its events, and the replies to them

abbrev pub with_own : {A : Type 0} → Option A → List A → List A
with_own None os = os
with_own (Some o) os = o ∷ os

abbrev pub mine_from : (k : ℕ) → Track → World → List Event → List Own
mine_from k t w [] = []
mine_from k t w (e ∷ es) = with_own (own_of k t w e) (mine_from k (track_after k t w e) (happens e w).now es)

abbrev pub mine : (k n : ℕ) → List Limits → List Event → List Own
mine k n limits events = mine_from k (outset n) (beginning limits) events

abbrev pub with_reply : Option Own → Reply → List Reply → List Reply
with_reply None reply rest = rest
with_reply (Some o) reply rest = reply ∷ rest

abbrev pub replies_from : (k : ℕ) → Track → World → List Event → List Reply
replies_from k t w [] = []
replies_from k t w (e ∷ es) = with_reply (own_of k t w e) (happens e w).reply (replies_from k (track_after k t w e) (happens e w).now es)
