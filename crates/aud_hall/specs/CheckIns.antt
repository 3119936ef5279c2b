-- A parcel comes to a seat, which takes its bench in, or says why not.
use Rattle.std.specs.Prelude.{ℕ, List, [], ◌∷◌, length, Option, Some, None, Bool, nat_lt, nat_le, ◌||◌, if◌then◌else◌}
use Rattle.aud_text.specs.declared.limits.Limits.{Limits}
use Rattle.aud_bench.specs.declared.request.Request.{Request}
use Rattle.aud_bench.specs.declared.request.Answer.{Answer}
use Rattle.aud_bench.specs.Same.{same_request, same_limits}
use Rattle.aud_bench.specs.Seen.{Seen as Bench}
use Rattle.aud_hall.specs.declared.why.Why.{Why}
use Rattle.aud_hall.specs.declared.why.Why.TheVariants.{OtherLimits, Differs, NotOut, Behind}
use Rattle.aud_hall.specs.declared.next.Next.{Next}
use Rattle.aud_hall.specs.declared.next.Next.TheVariants.{More, Idle}
use Rattle.aud_hall.specs.Numbered.{one_on}
use Rattle.aud_hall.specs.Slices.{answered}
use Rattle.aud_hall.specs.Replies.{Stranger, Taken, Then}
use Rattle.aud_hall.specs.Seats.{Seat, taken_in}

-- the first place where a journal parts from the stored requests, or where these end
abbrev pub first_difference : (journal requests : List Request) → Option ℕ
first_difference [] requests = None
first_difference (x ∷ journal) [] = Some 0
first_difference (x ∷ journal) (r ∷ requests) = if same_request x r then one_on (first_difference journal requests) else Some 0

-- the bench has made fewer answers than the seat has, or those that are still in it begin after the seat's last
abbrev pub is_behind : Bench → (outbox : List Answer) → Bool
is_behind b outbox = nat_lt (answered b) (length outbox) || nat_lt (length outbox) b.taken

abbrev pub not_awaited : Bench → (outbox : List Answer) → (home : Option Bench) → Option Why
not_awaited b outbox (Some home) = Some NotOut
not_awaited b outbox None = if is_behind b outbox then Some (Behind (length outbox)) else None

abbrev pub or_differs : Option ℕ → Option Why → Option Why
or_differs (Some place) why = Some (Differs place)
or_differs None why = why

-- why a claimed seat with these limits does not take a bench in, if it does not
abbrev pub judged : Limits → Bench → Seat → Option Why
judged limits b s = if same_limits b.limits limits then or_differs (first_difference b.journal s.requests) (not_awaited b s.outbox s.home) else Some OtherLimits

abbrev pub at_nobodys : (journal : List Request) → Why
at_nobodys [] = NotOut
at_nobodys (x ∷ journal) = Differs 0

-- why a seat that nobody has claimed does not: it is judged as one without requests, whose bench is at home
abbrev pub judged_vacant : Limits → Bench → Why
judged_vacant limits b = if same_limits b.limits limits then at_nobodys b.journal else OtherLimits

abbrev pub next : Bench → Seat → Next
next b s = if b.spent || nat_le (length s.requests) (answered b) then Idle else More

abbrev pub checked : Option Why → Bench → Seat → Then Seat
checked (Some why) b s = record { now = s; reply = Stranger why }
checked None b s = record { now = taken_in b s; reply = Taken (next b s) }
