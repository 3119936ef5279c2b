-- The laws of every list of events.
use Rattle.std.specs.Prelude.{nat_le, ◌||◌, if◌then◌else◌}
use Rattle.std.proofs.Common.{◌≡◌, ℕ, ◌≤◌, List, [], ◌∷◌, ◌++◌, length, Option, Some, None, Bool, true, false, refl, sym, ap, ◌∙◌, subst, arith, append-nil}
use Rattle.aud_text.specs.declared.limits.Limits.{Limits}
use Rattle.aud_bench.specs.declared.request.Request.{Request}
use Rattle.aud_bench.specs.declared.request.Answer.{Answer}
use Rattle.aud_bench.specs.Alone.{alone, cost, made}
use Rattle.aud_bench.specs.Seen.{Seen as Bench, told, unanswered}
use Rattle.aud_hall.specs.declared.why.Why.{Why}
use Rattle.aud_hall.specs.Slices.{given, lesser, sliced}
use Rattle.aud_hall.specs.Replies.{Worked}
use Rattle.aud_hall.specs.Seats.{Seat, has_closed, submitting, submitted, sends, sending_by, sending, sent, collected}
use Rattle.aud_hall.specs.CheckIns.{judged, checked}
use Rattle.aud_hall.specs.Halls.{Place, place_at}
use Rattle.aud_hall.specs.Numbered.{IsPrefix}
use Rattle.aud_hall.specs.Ties.Right.{IsHome, IsMade, IsRight, IsRightSeat}
use Rattle.aud_worlds.specs.World.{World, Event, beginning, after_all, happens, slicing}
use Rattle.aud_worlds.specs.Session.{Part, Own, Began, Submitted, SentOut, Sliced, Returned, Strayed, Collected, Freed, Held, Course, bench_at, acts, accepted, at_held, own_sending, own_slicing, own_checking, asked_from, asked, session_from, none_yet}
use Rattle.aud_worlds.specs.Mine.{Track, Phase, Waiting, Lasting, Over, part_of, held_in, with_limits, mine, mine_from, track_after, track_from, outset}
use Rattle.aud_worlds.specs.Headline.{IsBeginning, IsIdle, AnswersAlone, HeadlineLaw, SliceLaw, SessionLaw, TwoWorldsLaw, now_is, track_is, part_is}
use Rattle.aud_worlds.specs.Ties.Worlds.{IsRightPlace, IsRightWorld}
use Rattle.aud_worlds.specs.Why.Laws.{OfEachSeat, WorldLaw, IsolationLaw, RoomLaw, OthersLaw}
use Rattle.aud_bench.proofs.Fronts.{whole_law}
use Rattle.aud_bench.proofs.Made.{made_all}
use Rattle.aud_hall.proofs.Lists.{begins_front}
use Rattle.aud_hall.proofs.Seats.{made_of_front, front_of_alone, away_front}
use Rattle.aud_hall.proofs.Rooms.{room}
use Rattle.aud_worlds.proofs.Numbered.{each_place}
use Rattle.aud_worlds.proofs.Worlds.{all_right, beginning_right}
use Rattle.aud_worlds.proofs.Sessions.{IsTracked, Agrees, course, course_of, follows}

pub world_law : WorldLaw
world_law limits events = all_right (beginning limits) events (beginning_right limits)

-- ## A seat

so_far : (limits : Limits) (s : Seat) → IsRight limits s → IsBeginning limits s.requests s
so_far limits s right = by s.home right.bench
  where
    by : (o : Option Bench) → IsMade limits s o → (front : List Answer) × (s.outbox ≡ front ++ told (has_closed o)) × IsPrefix front (alone limits s.requests)
    by None m = (s.outbox, sym (append-nil s.outbox), away_front limits s right.kept m)
    by (Some b) m = (made limits b.journal b.units, m.outbox, front_of_alone limits b.journal s.requests b.units (begins_front b.journal s.requests m.front) m.within right.kept)

whole : (limits : Limits) (s : Seat) → IsRight limits s → IsIdle limits s.requests s → s.outbox ≡ alone limits s.requests
whole limits s right idle = by idle.0 (subst (IsMade limits s) idle.1 right.bench) idle.2
  where
    by : (b : Bench) → IsHome limits s b → b.units ≡ cost limits s.requests → s.outbox ≡ alone limits s.requests
    by b m e =
        let made_is : made limits b.journal b.units ≡ made limits s.requests (cost limits s.requests) = made_of_front limits b.journal s.requests b.units (begins_front b.journal s.requests m.front) m.within ∙ ap (made limits s.requests) e in
        alive made_is b.spent refl
      where
        alive : made limits b.journal b.units ≡ made limits s.requests (cost limits s.requests) → (c : Bool) → b.spent ≡ c → s.outbox ≡ alone limits s.requests
        alive made_is true f = absurd (let less = m.short f in omega (arith, less, ap length made_is, made_all limits s.requests))
        alive made_is false f = m.outbox ∙ ap (λ c. made limits b.journal b.units ++ told c) f ∙ append-nil (made limits b.journal b.units) ∙ made_is ∙ sym (whole_law limits s.requests right.kept)

answers_alone : (limits : Limits) (s : Seat) → IsRight limits s → AnswersAlone limits s.requests s
answers_alone limits s right = record { so_far = so_far limits s right; whole = whole limits s right }

-- what holds of each right seat holds of each seat of a world
pub at_each_seat : (P : Limits → Seat → Type 0) → ((l : Limits) (s : Seat) → IsRight l s → P l s) → (w : World) → IsRightWorld w → OfEachSeat P w.hall
at_each_seat P holds w right k place s e f = holds place.limits s (subst (IsRightSeat place.limits) f (each_place IsRightPlace w.hall k place right.hall e))

pub isolation_law : IsolationLaw
isolation_law limits events = at_each_seat (λ l s. AnswersAlone l s.requests s) answers_alone (now_is limits events) (world_law limits events)

pub room_law : RoomLaw
room_law limits events = at_each_seat (λ l s. length s.outbox ≤ length s.requests) room (now_is limits events) (world_law limits events)

-- ## Slices

pub slice_law : SliceLaw
slice_law w n units seat b e alive =
    ap (λ o. (slicing n units None w o).reply) e
    ∙ ap (λ c. Worked (if c then 0 else lesser units b) (unanswered (sliced units None b))) alive

-- ## Sessions

none_marked : (k n : ℕ) (limits : List Limits) → IsTracked k (outset n) (beginning limits)
none_marked k n limits = record { long = refl; there = tt }

pub session_law : SessionLaw
session_law limits events k n = course k (outset n) (beginning limits) events (none_marked k n limits)

tracked_on : (k : ℕ) (t : Track) (w : World) (es : List Event) → IsTracked k t w → IsTracked k (track_from k t w es) (after_all w es)
tracked_on k t w [] h = h
tracked_on k t w (e ∷ es) h = tracked_on k (track_after k t w e) (happens e w).now es (follows k t w e h).tracked

pub others_law : OthersLaw
others_law limits events k n e none =
    let t = track_is k n limits events in
    let w = now_is limits events in
    let step = follows k t w e (tracked_on k (outset n) (beginning limits) events (none_marked k n limits)) in
    subst (λ o. Agrees o (part_of k t w) (part_of k (track_after k t w e) (happens e w).now) (happens e w).reply) none step.agrees

pub two_worlds_law : TwoWorldsLaw
two_worlds_law limits limits' events events' k k' n n' later later' parts lists =
    let one = course k (track_is k n limits events) (now_is limits events) later (tracked_on k (outset n) (beginning limits) events (none_marked k n limits)) in
    let two = course k' (track_is k' n' limits' events') (now_is limits' events') later' (tracked_on k' (outset n') (beginning limits') events' (none_marked k' n' limits')) in
    let both : course_of k (track_is k n limits events) (now_is limits events) later ≡ course_of k' (track_is k' n' limits' events') (now_is limits' events') later' =
    sym one ∙ ap (λ p. session_from p (mine_from k (track_is k n limits events) (now_is limits events) later)) parts ∙ ap (session_from (part_of k' (track_is k' n' limits' events') (now_is limits' events'))) lists ∙ two in
    (ap (λ c. c.replies) both, ap (λ c. c.part) both)

-- ## The requests that were accepted

-- what is stored of a session is what was accepted of it
abbrev IsAsked : Option Held → List Request → Type 0
IsAsked None asked = Unit {0}
IsAsked (Some h) asked = h.seat.requests ≡ asked

submitted_asked : (over full refused said : Bool) (r : Request) (s : Seat) (asked : List Request) → s.requests ≡ asked → (submitting over full refused r s).now.requests ≡ accepted (Submitted r said) (submitting over full refused r s).reply asked
submitted_asked true full refused said r s asked h = h
submitted_asked false true refused said r s asked h = h
submitted_asked false false true said r s asked h = h
submitted_asked false false false said r s asked h = ap (λ rs. rs ++ r ∷ []) h

sends_requests : (closed : Bool) (s : Seat) (b : Bench) → (sends closed s b).seat.requests ≡ s.requests
sends_requests true s b = refl
sends_requests false s b = refl

pub sent_requests : (refused : Option ℕ) (s : Seat) → (sent refused s).seat.requests ≡ s.requests
sent_requests refused s = by s.home
  where
    stays : (c : Bool) (b : Bench) → (sending_by c refused s b).seat.requests ≡ s.requests
    stays true b = refl
    stays false b = sends_requests (given s.requests refused b).spent s (given s.requests refused b)

    by : (o : Option Bench) → (sending refused s o).seat.requests ≡ s.requests
    by None = refl
    by (Some b) = stays (b.spent || nat_le (length s.requests) (length s.outbox)) b

pub checked_requests : (why : Option Why) (b : Bench) (s : Seat) → (checked why b s).now.requests ≡ s.requests
checked_requests (Some why) b s = refl
checked_requests None b s = refl

own_asked : (o : Own) (p : Part) (asked : List Request) → IsAsked p.held asked → IsAsked (acts o p).now.held (accepted o (acts o p).reply asked)
own_asked (Began limits) p asked h = refl
own_asked (Submitted r refused) p asked h = by p.held h
  where
    by : (o : Option Held) → IsAsked o asked → IsAsked (at_held (submitted r refused) p o).now.held (accepted (Submitted r refused) (at_held (submitted r refused) p o).reply asked)
    by None k = h
    by (Some held) k = submitted_asked _ _ _ refused r held.seat asked k
own_asked (SentOut refused) p asked h = by p.held h
  where
    by : (o : Option Held) → IsAsked o asked → IsAsked (own_sending refused p o).now.held asked
    by None k = h
    by (Some held) k = sent_requests refused held.seat ∙ k
own_asked (Sliced n units refused) p asked h = by (bench_at p.parcels n)
  where
    by : (o : Option Bench) → IsAsked (own_slicing n units refused p o).now.held asked
    by None = h
    by (Some b) = h
own_asked (Returned b number) p asked h = by p.held h
  where
    by : (o : Option Held) → IsAsked o asked → IsAsked (own_checking b number p o).now.held asked
    by None k = h
    by (Some held) k = checked_requests (judged held.limits b held.seat) b held.seat ∙ k
own_asked (Strayed n reply) p asked h = h
own_asked (Collected from refused) p asked h = by p.held h
  where
    by : (o : Option Held) → IsAsked o asked → IsAsked (at_held (λ s. record { now = s; reply = collected from refused s }) p o).now.held asked
    by None k = h
    by (Some held) k = k
own_asked Freed p asked h = tt

asked_is : (p : Part) (asked : List Request) (os : List Own) → IsAsked p.held asked → IsAsked (session_from p os).part.held (asked_from p asked os)
asked_is p asked [] h = h
asked_is p asked (o ∷ os) h = asked_is (acts o p).now (accepted o (acts o p).reply asked) os (own_asked o p asked h)

-- ## The headline

-- a session that lasts holds its seat
held_right : (k : ℕ) (t : Track) (w : World) (h : Held) → IsRightWorld w → (part_of k t w).held ≡ Some h → IsRight h.limits h.seat
held_right k t w h right e = by t.phase (place_at w.hall k) refl e
  where
    seated : (place : Place) (o : Option Seat) → IsRightSeat place.limits o → with_limits place.limits o ≡ Some h → IsRight h.limits h.seat
    seated place None r f = absurd (cc)
    seated place (Some s) r f =
        let same : record { limits = place.limits; seat = s } ≡ h = cc in
        subst (λ (x : Held). IsRight x.limits x.seat) same r

    by : (phase : Phase) (o : Option Place) → place_at w.hall k ≡ o → held_in phase o ≡ Some h → IsRight h.limits h.seat
    by (Waiting n) o e f = absurd (cc)
    by Over o e f = absurd (cc)
    by Lasting None e f = absurd (cc)
    by Lasting (Some place) e f = seated place place.seat (each_place IsRightPlace w.hall k place right.hall e) f

-- what a session holds of the world, its own events come to
pub held_own : (limits : List Limits) (events : List Event) (k n : ℕ) (h : Held) → (part_is k n limits events).held ≡ Some h → (session_from none_yet (mine k n limits events)).part.held ≡ Some h
held_own limits events k n h e = ap (λ (c : Course). c.part.held) (session_law limits events k n) ∙ e

pub headline_law : HeadlineLaw
headline_law limits events k n h e =
    let right = held_right k (track_is k n limits events) (now_is limits events) h (world_law limits events) e in
    let stored : h.seat.requests ≡ asked (mine k n limits events) =
    subst (λ o. IsAsked o (asked (mine k n limits events))) (held_own limits events k n h e) (asked_is none_yet [] (mine k n limits events) tt) in
    (stored, subst (λ rs. AnswersAlone h.limits rs h.seat) stored (answers_alone h.limits h.seat right))
