-- A world in memory, and one call more.
use Rattle.std.specs.Prelude.{◌≡◌, ℕ, List, Option, Some, None}
use Rattle.aud_hall.specs.Replies.{Reply, Taken, Nothing, Then}
use Rattle.aud_hall.specs.Slices.{sliced}
use Rattle.aud_hall.specs.Halls.{Place, checks_in}
use Rattle.aud_hall.specs.Parcels.{Parcel}
use Rattle.aud_worlds.specs.declared.event.Event.{Event as Call}
use Rattle.aud_worlds.specs.declared.reply.Reply.{Reply as InMemory}
use Rattle.aud_worlds.specs.declared.reply.Reply.TheVariants as in_memory
use Rattle.aud_worlds.specs.World.{World, Event, happens, worked}
use Rattle.aud_worlds.specs.Ties.Calls.{call_of, told_by, plain_reply}

abbrev pub seen : List Place → List (Option Parcel) → World
seen hall out = record { hall = hall; out = out }

-- the call is an event that makes this world of that one
pub record Makes (call : Call) (before : World) (x : InMemory) (after : World) : Type 0 where
  pub event : Event
  pub reply : Reply
  pub call_is : call_of event ≡ call
  pub happens_is : happens event before ≡ record { now = after; reply = reply }
  pub tells : told_by reply ≡ plain_reply x

-- ## At the place of one parcel

abbrev pub slicing_there : (units : ℕ) (refused : Option ℕ) → Option Parcel → Then (Option Parcel)
slicing_there units refused None = record { now = None; reply = Nothing }
slicing_there units refused (Some p) = record {
  now = Some (record p { bench = sliced units refused p.bench });
  reply = worked units refused p.bench;
}

-- a slice of the parcel there
abbrev pub SlicesThere : ℕ → Option Parcel → InMemory → Option Parcel → Type 0
SlicesThere units before x after = (refused : Option ℕ) × (after ≡ (slicing_there units refused before).now) × (told_by (slicing_there units refused before).reply ≡ plain_reply x)

-- a parcel that is taken in is out no more
abbrev pub left_after : Reply → Option Parcel → Option Parcel
left_after (Taken next) p = None
left_after _ p = p

-- the parcel there comes to a seat
abbrev pub ChecksThere : ℕ → List Place → Option Parcel → InMemory → List Place → Option Parcel → Type 0
ChecksThere k hall None x hall' after = (hall' ≡ hall) × (after ≡ None) × (x ≡ in_memory.Nothing)
ChecksThere k hall (Some p) x hall' after =
    (reply : Reply) × (checks_in k p.bench hall ≡ record { now = hall'; reply = reply }) × (after ≡ left_after reply (Some p)) × (told_by reply ≡ plain_reply x)
