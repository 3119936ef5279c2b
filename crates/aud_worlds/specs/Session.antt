-- One session, from a claim of a seat to the next time that it is freed: what of the world is its own, and what its own events come
-- to where nobody else is.
use Rattle.std.specs.Prelude.{ℕ, List, [], ◌∷◌, ◌++◌, Option, Some, None, Bool}
use Rattle.aud_text.specs.declared.limits.Limits.{Limits}
use Rattle.aud_bench.specs.declared.request.Request.{Request}
use Rattle.aud_bench.specs.Seen.{Seen as Bench}
use Rattle.aud_hall.specs.Numbered.{at, put, joined}
use Rattle.aud_hall.specs.Slices.{sliced}
use Rattle.aud_hall.specs.Replies.{Reply, Accepted, Sent, Nothing, Then}
use Rattle.aud_hall.specs.Seats.{Seat, Sending, claimed, submitted, sent, collected}
use Rattle.aud_hall.specs.CheckIns.{judged, checked}
use Rattle.aud_worlds.specs.World.{worked, out_after}

-- a claimed seat and its limits
pub record Held : Type 0 where
  pub limits : Limits
  pub seat : Seat

-- its seat, while it lasts, and the parcels that were sent out for it, by its own numbers; nothing stands where one was taken in
pub record Part : Type 0 where
  pub held : Option Held
  pub parcels : List (Option Bench)

-- the events of a session
pub data Own : Type 0 where
  Began : Limits → Own
  Submitted : Request → (refused : Bool) → Own
  SentOut : (refused : Option ℕ) → Own
  Sliced : (parcel units : ℕ) (refused : Option ℕ) → Own
  -- this bench comes to the seat; it may be that of a parcel of the session
  Returned : Bench → (parcel : Option ℕ) → Own
  -- a parcel of the session is checked in elsewhere, and answered so
  Strayed : (parcel : ℕ) → Reply → Own
  Collected : (from : ℕ) (refused : Bool) → Own
  Freed : Own

-- ## At its seat

abbrev pub impossible : Part → Then Part
impossible p = record { now = p; reply = Nothing }

abbrev pub with_held : Limits → List (Option Bench) → Then Seat → Then Part
with_held limits parcels t = record { now = record { held = Some (record { limits = limits; seat = t.now }); parcels = parcels }; reply = t.reply }

abbrev pub at_held : (Seat → Then Seat) → Part → Option Held → Then Part
at_held call p None = impossible p
at_held call p (Some h) = with_held h.limits p.parcels (call h.seat)

-- ## Its parcels

-- the bench of the parcel with this number of the session's own, if it is out
abbrev pub bench_at : List (Option Bench) → ℕ → Option Bench
bench_at out n = joined (at out n)

abbrev pub own_parcels : Option Bench → List (Option Bench)
own_parcels None = []
own_parcels (Some b) = Some b ∷ []

abbrev pub with_own_sending : Limits → List (Option Bench) → Sending → Then Part
with_own_sending limits parcels s = record {
  now = record { held = Some (record { limits = limits; seat = s.seat }); parcels = parcels ++ own_parcels s.gone };
  reply = Sent s.gone;
}

abbrev pub own_sending : (refused : Option ℕ) → Part → Option Held → Then Part
own_sending refused p None = impossible p
own_sending refused p (Some h) = with_own_sending h.limits p.parcels (sent refused h.seat)

abbrev pub own_slicing : (n units : ℕ) (refused : Option ℕ) → Part → Option Bench → Then Part
own_slicing n units refused p None = impossible p
own_slicing n units refused p (Some b) = record {
  now = record p { parcels = put p.parcels n (Some (sliced units refused b)) };
  reply = worked units refused b;
}

abbrev pub without : List (Option Bench) → (parcel : Option ℕ) → Reply → List (Option Bench)
without parcels None reply = parcels
without parcels (Some n) reply = out_after parcels n reply

abbrev pub own_checking : Bench → (parcel : Option ℕ) → Part → Option Held → Then Part
own_checking b number p None = impossible p
own_checking b number p (Some h) =
    let t = checked (judged h.limits b h.seat) b h.seat in
    with_held h.limits (without p.parcels number t.reply) t

-- ## What its events come to

abbrev pub acts : Own → Part → Then Part
acts (Began limits) p = record { now = record p { held = Some (record { limits = limits; seat = claimed limits }) }; reply = Accepted }
acts (Submitted r refused) p = at_held (submitted r refused) p p.held
acts (SentOut refused) p = own_sending refused p p.held
acts (Sliced n units refused) p = own_slicing n units refused p (bench_at p.parcels n)
acts (Returned b number) p = own_checking b number p p.held
acts (Strayed n reply) p = record { now = record p { parcels = out_after p.parcels n reply }; reply = reply }
acts (Collected from refused) p = at_held (λ s. record { now = s; reply = collected from refused s }) p p.held
acts Freed p = record { now = record p { held = None }; reply = Accepted }

-- before it begins
abbrev pub none_yet : Part
none_yet = record { held = None; parcels = [] }

pub record Course : Type 0 where
  pub part : Part
  pub replies : List Reply

abbrev pub session_from : Part → List Own → Course
session_from p [] = record { part = p; replies = [] }
session_from p (o ∷ os) =
    let rest = session_from (acts o p).now os in
    record { part = rest.part; replies = (acts o p).reply ∷ rest.replies }

abbrev pub session : List Own → Course
session list = session_from none_yet list

-- ## The requests that were accepted

abbrev pub accepted : Own → Reply → List Request → List Request
accepted (Began limits) reply asked = []
accepted (Submitted r refused) Accepted asked = asked ++ r ∷ []
accepted _ reply asked = asked

abbrev pub asked_from : Part → List Request → List Own → List Request
asked_from p asked [] = asked
asked_from p asked (o ∷ os) = asked_from (acts o p).now (accepted o (acts o p).reply asked) os

abbrev pub asked : List Own → List Request
asked list = asked_from none_yet [] list
