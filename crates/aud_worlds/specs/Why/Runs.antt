-- What holds of the world that a list of calls comes to, whatever memory was refused in it.
use Rattle.std.specs.Prelude.{◌≡◌, ℕ, List, Some, None, false}
use Rattle.aud_text.specs.declared.limits.Limits.{Limits}
use Rattle.aud_bench.specs.Seen.{Seen as Bench, unanswered}
use Rattle.aud_hall.specs.Slices.{lesser, sliced}
use Rattle.aud_hall.specs.Replies.{Worked}
use Rattle.aud_hall.specs.Seats.{Seat}
use Rattle.aud_hall.specs.Halls.{Place, place_at}
use Rattle.aud_worlds.specs.declared.event.Event.{Event as Call}
use Rattle.aud_worlds.specs.World.{World, Event, Slice, happens, after_all, beginning, parcel_at}
use Rattle.aud_worlds.specs.Session.{Held, session, asked}
use Rattle.aud_worlds.specs.Mine.{outset, track_from, part_of, mine, mine_from, replies_from}
use Rattle.aud_worlds.specs.Headline.{AnswersAlone, now_is, track_is, part_is}
use Rattle.aud_worlds.specs.Ties.Calls.{Told, IsRun}

-- of a world after these events
pub record KeepsApart (limits : List Limits) (events : List Event) (w : World) : Type 0 where
  -- of every session that lasts: its answers are those of a private server to the requests that were accepted of it
  pub headline : (k n : ℕ) (h : Held) → (part_of k (track_is k n limits events) w).held ≡ Some h
      → (h.seat.requests ≡ asked (mine k n limits events)) × AnswersAlone h.limits (asked (mine k n limits events)) h.seat
  -- every seat that is claimed is a session's
  pub every_seat : (k : ℕ) (place : Place) (s : Seat) → place_at w.hall k ≡ Some place → place.seat ≡ Some s
      → (n : ℕ) × ((part_of k (track_is k n limits events) w).held ≡ Some (record { limits = place.limits; seat = s }))
  -- a slice of a parcel that is out, to which no memory is refused, does exactly the lesser of its units and of what is left of the cost
  pub slices : (n units seat : ℕ) (b : Bench) → parcel_at w.out n ≡ Some (record { seat = seat; bench = b }) → b.spent ≡ false
      → (happens (Slice n units None) w).reply ≡ Worked (lesser units b) (unanswered (sliced units None b))
  -- what is a session's own is what its own events come to where nobody else is
  pub session_is : (k n : ℕ)
      → session (mine k n limits events) ≡ record { part = part_of k (track_is k n limits events) w; replies = replies_from k (outset n) (beginning limits) events }
  -- and any other world that agrees on the session answers the same later events of it alike
  pub two_worlds : (limits' : List Limits) (events' : List Event) (k k' n n' : ℕ) (later later' : List Event)
      → part_of k (track_is k n limits events) w ≡ part_is k' n' limits' events'
      → mine_from k (track_is k n limits events) w later ≡ mine_from k' (track_is k' n' limits' events') (now_is limits' events') later'
      → (replies_from k (track_is k n limits events) w later ≡ replies_from k' (track_is k' n' limits' events') (now_is limits' events') later')
      × (part_of k (track_from k (track_is k n limits events) w later) (after_all w later)
      ≡ part_of k' (track_from k' (track_is k' n' limits' events') (now_is limits' events') later') (after_all (now_is limits' events') later'))

abbrev pub RunLaw : Type 0
RunLaw = (limits : List Limits) (calls : List Call) (w : World) (replies : List Told) (run : IsRun limits calls w replies) → KeepsApart limits run.events w
