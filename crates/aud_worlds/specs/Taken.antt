-- How far the bench was that a seat took in last, and what the answers at the seat have to do with it.
use Rattle.std.specs.Prelude.{◌≡◌, ℕ, ◌≤◌, List, [], ◌∷◌, ◌++◌, Option, Some, None, ◌==◌, if◌then◌else◌}
use Rattle.aud_text.specs.declared.limits.Limits.{Limits}
use Rattle.aud_bench.specs.declared.request.Request.{Request}
use Rattle.aud_bench.specs.Alone.{cost, made}
use Rattle.aud_bench.specs.Seen.{Seen as Bench, told}
use Rattle.aud_hall.specs.Numbered.{IsPrefix}
use Rattle.aud_hall.specs.Replies.{Reply, Accepted, Taken}
use Rattle.aud_hall.specs.Seats.{Seat, has_closed}
use Rattle.aud_hall.specs.Halls.{Place, place_at}
use Rattle.aud_hall.specs.Parcels.{Parcel}
use Rattle.aud_worlds.specs.World.{World, Event, Claim, Submit, SendOut, Slice, CheckIn, Collect, Free, parcel_at, happens, beginning}
use Rattle.aud_worlds.specs.Headline.{now_is}

-- the requests that it had been given, and the units that it had done
pub record Last : Type 0 where
  pub journal : List Request
  pub units : ℕ

-- at a claim a bench is at home to which nothing was given
abbrev pub nothing_done : Last
nothing_done = record { journal = []; units = 0 }

abbrev pub last_claimed : Reply → Last → Last
last_claimed Accepted last = nothing_done
last_claimed _ last = last

abbrev pub last_taken : Reply → Bench → Last → Last
last_taken (Taken next) b last = record { journal = b.journal; units = b.units }
last_taken _ b last = last

abbrev pub last_in : Reply → Option Parcel → Last → Last
last_in reply None last = last
last_in reply (Some p) last = last_taken reply p.bench last

-- an event may take a bench in at the seat k, or claim that
abbrev pub last_after : (k : ℕ) → Last → World → Event → Last
last_after k last w (Claim j refused) = if j == k then last_claimed (happens (Claim j refused) w).reply last else last
last_after k last w (Submit j r refused) = last
last_after k last w (SendOut j refused) = last
last_after k last w (Slice n units refused) = last
last_after k last w (CheckIn n j) = if j == k then last_in (happens (CheckIn n j) w).reply (parcel_at w.out n) last else last
last_after k last w (Collect j from refused) = last
last_after k last w (Free j) = last

abbrev pub last_from : (k : ℕ) → Last → World → List Event → Last
last_from k last w [] = last
last_from k last w (e ∷ es) = last_from k (last_after k last w e) (happens e w).now es

abbrev pub last_is : (k : ℕ) → List Limits → List Event → Last
last_is k limits events = last_from k nothing_done (beginning limits) events

-- the answers are exactly what its units make of its requests, which are a prefix of those that are stored; where memory was refused to the
-- bench that is at home, that is told besides
pub record IsOfLast (limits : Limits) (last : Last) (s : Seat) : Type 0 where
  pub front : IsPrefix last.journal s.requests
  pub within : last.units ≤ cost limits last.journal
  pub outbox : s.outbox ≡ made limits last.journal last.units ++ told (has_closed s.home)

abbrev pub LastLaw : Type 0
LastLaw = (limits : List Limits) (events : List Event) (k : ℕ) (place : Place) (s : Seat)
    → place_at (now_is limits events).hall k ≡ Some place → place.seat ≡ Some s → IsOfLast place.limits (last_is k limits events) s
