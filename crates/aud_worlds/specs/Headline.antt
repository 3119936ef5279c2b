-- What holds of every user, whatever all users and workers do, and in whatever order.
use Rattle.std.specs.Prelude.{◌≡◌, ℕ, List, [], ◌∷◌, ◌++◌, Some, None, false}
use Rattle.aud_text.specs.declared.limits.Limits.{Limits}
use Rattle.aud_bench.specs.declared.request.Request.{Request}
use Rattle.aud_bench.specs.declared.request.Answer.{Answer}
use Rattle.aud_bench.specs.Alone.{alone, cost}
use Rattle.aud_bench.specs.Seen.{Seen as Bench, told, unanswered}
use Rattle.aud_hall.specs.Numbered.{IsPrefix}
use Rattle.aud_hall.specs.Slices.{lesser, sliced}
use Rattle.aud_hall.specs.Replies.{Reply, Worked, Taken}
use Rattle.aud_hall.specs.Seats.{Seat, has_closed}
use Rattle.aud_hall.specs.Halls.{Place, place_at}
use Rattle.aud_worlds.specs.World.{World, Event, Slice, happens, after_all, beginning, parcel_at}
use Rattle.aud_worlds.specs.Session.{Held, Part, Own, SentOut, Returned, acts, none_yet, session, asked}
use Rattle.aud_worlds.specs.Mine.{Track, outset, track_from, part_of, mine, mine_from, replies_from}

-- the answers so far are a prefix of those of a private server, and where memory was refused to the bench that is at home, that is
-- the last one
abbrev pub IsBeginning : Limits → List Request → Seat → Type 0
IsBeginning limits requests s = (front : List Answer) × (s.outbox ≡ front ++ told (has_closed s.home)) × IsPrefix front (alone limits requests)

-- no work is in hand: the bench is at home, and all units are done that the requests cost
abbrev pub IsIdle : Limits → List Request → Seat → Type 0
IsIdle limits requests s = (b : Bench) × (s.home ≡ Some b) × (b.units ≡ cost limits requests)

-- the answers so far are a beginning of those of a private server to these requests, and all of them where no work is in hand
pub record AnswersAlone (limits : Limits) (requests : List Request) (s : Seat) : Type 0 where
  pub so_far : IsBeginning limits requests s
  pub whole : IsIdle limits requests s → s.outbox ≡ alone limits requests

-- the world after these events, and what of it is the session's own that so many others came before at its seat
abbrev pub now_is : List Limits → List Event → World
now_is limits events = after_all (beginning limits) events

abbrev pub track_is : (k n : ℕ) → List Limits → List Event → Track
track_is k n limits events = track_from k (outset n) (beginning limits) events

abbrev pub part_is : (k n : ℕ) → List Limits → List Event → Part
part_is k n limits events = part_of k (track_is k n limits events) (now_is limits events)

-- of every session that lasts: its answers are those of a private server to the requests that were accepted of it, and these are
-- stored at its seat
abbrev pub HeadlineLaw : Type 0
HeadlineLaw = (limits : List Limits) (events : List Event) (k n : ℕ) (h : Held) → (part_is k n limits events).held ≡ Some h
    → (h.seat.requests ≡ asked (mine k n limits events)) × AnswersAlone h.limits (asked (mine k n limits events)) h.seat

-- and every seat that is claimed is a session's
abbrev pub EverySeatLaw : Type 0
EverySeatLaw = (limits : List Limits) (events : List Event) (k : ℕ) (place : Place) (s : Seat)
    → place_at (now_is limits events).hall k ≡ Some place → place.seat ≡ Some s
    → (n : ℕ) × ((part_is k n limits events).held ≡ Some (record { limits = place.limits; seat = s }))

-- a slice does exactly the lesser of its units and of what is left of the cost
abbrev pub SliceLaw : Type 0
SliceLaw = (w : World) (n units seat : ℕ) (b : Bench) → parcel_at w.out n ≡ Some (record { seat = seat; bench = b }) → b.spent ≡ false
    → (happens (Slice n units None) w).reply ≡ Worked (lesser units b) (unanswered (sliced units None b))

-- ## Nobody else is felt

-- what of the world is a session's own is what its own events come to where nobody else is, and so are the replies to them
abbrev pub SessionLaw : Type 0
SessionLaw = (limits : List Limits) (events : List Event) (k n : ℕ)
    → session (mine k n limits events) ≡ record {
      part = part_is k n limits events;
      replies = replies_from k (outset n) (beginning limits) events;
    }

-- worlds that agree on a session answer the same later events of it alike, and agree on it then
abbrev pub TwoWorldsLaw : Type 0
TwoWorldsLaw = (limits limits' : List Limits) (events events' : List Event) (k k' n n' : ℕ) (later later' : List Event)
    → part_is k n limits events ≡ part_is k' n' limits' events'
    → mine_from k (track_is k n limits events) (now_is limits events) later ≡ mine_from k' (track_is k' n' limits' events') (now_is limits' events') later'
    → (replies_from k (track_is k n limits events) (now_is limits events) later ≡ replies_from k' (track_is k' n' limits' events') (now_is limits' events') later')
    × (part_of k (track_from k (track_is k n limits events) (now_is limits events) later) (after_all (now_is limits events) later)
    ≡ part_of k' (track_from k' (track_is k' n' limits' events') (now_is limits' events') later') (after_all (now_is limits' events') later'))

-- ## Memory

-- no memory is refused where the session's bench is given requests, and no bench that has closed is taken in at its seat
abbrev pub IsCalm : Own → Reply → Type 0
IsCalm (SentOut (Some n)) reply = ⊥
IsCalm (Returned b number) (Taken next) = b.spent ≡ false
IsCalm _ reply = Unit {0}

abbrev pub IsAmple : Part → List Own → Type 0
IsAmple p [] = Unit {0}
IsAmple p (o ∷ os) = IsCalm o (acts o p).reply × IsAmple (acts o p).now os

-- then its answers are a prefix of those of a private server, and nothing else
abbrev pub AmpleLaw : Type 0
AmpleLaw = (limits : List Limits) (events : List Event) (k n : ℕ) (h : Held) → IsAmple none_yet (mine k n limits events) → (part_is k n limits events).held ≡ Some h
    → IsPrefix h.seat.outbox (alone h.limits (asked (mine k n limits events)))
