-- What is done under the lock of a desk.
use Rattle.std.specs.Prelude.{◌≡◌, ◌⊎◌, ℕ, ◌-◌, ◌==◌, nat_lt, List, length, Bool, false, if◌then◌else◌, Option, Some, None, Result, Ok, Err}
use Rattle.aud_text.specs.declared.limits.Limits.{Limits}
use Rattle.aud_bench.specs.declared.request.Request.{Request}
use Rattle.aud_bench.specs.declared.request.Answer.{Answer}
use Rattle.aud_bench.specs.Same.{same_limits}
use Rattle.aud_bench.specs.Seen.{Seen as Bench}
use Rattle.aud_hall.specs.declared.fault.HallFault.{HallFault}
use Rattle.aud_hall.specs.declared.fault.HallFault.TheVariants as hall
use Rattle.aud_hall.specs.declared.next.Next.TheVariants.{More}
use Rattle.aud_hall.specs.Replies.{Reply, Accepted, Refused, Taken}
use Rattle.aud_hall.specs.Seats.{Seat}
use Rattle.aud_hall.specs.CheckIns.{first_difference}
use Rattle.aud_hall.specs.Halls.{Place, place_at, claims, submits, frees, sends_out, checks_in}
use Rattle.aud_hall.specs.Ties.Places.{outbox_at, limits_at}
use Rattle.aud_pass.specs.declared.got.Got.{Got}
use Rattle.aud_pass.specs.declared.got.Got.TheVariants.{Idle, New, Busy}
use Rattle.aud_pass.specs.declared.fault.DeskFault.{DeskFault}
use Rattle.aud_pass.specs.declared.fault.DeskFault.TheVariants.{NoSuchSeat, NotClaimed, NotThisDesk, Memory}
use Rattle.aud_pass.specs.Faults.{of_hall}
use Rattle.aud_pass.specs.Passed.{Passed, is_over, opened}

-- ## Whether a pass is one of its seat's

abbrev pub parted_behind : Option ℕ → (sent stored : ℕ) → Option ℕ
parted_behind (Some place) sent stored = Some place
parted_behind None sent stored = if nat_lt sent stored then Some sent else None

-- the first place where what was sent and what is stored part, or where the shorter one ends
abbrev pub parted : (sent stored : List Request) → Option ℕ
parted sent stored = parted_behind (first_difference sent stored) (length sent) (length stored)

abbrev pub or_parted : Option ℕ → Option DeskFault
or_parted (Some place) = Some (NotThisDesk place)
or_parted None = None

abbrev pub not_seated : Passed → Limits → Option Seat → Option DeskFault
not_seated p limits None = Some NotClaimed
not_seated p limits (Some s) = if same_limits limits p.limits then or_parted (parted p.sent s.requests) else Some (NotThisDesk 0)

-- why it is none, if it is not: the first reason that holds
abbrev pub not_there : Passed → Option Place → Option DeskFault
not_there p None = Some NoSuchSeat
not_there p (Some place) = not_seated p place.limits place.seat

-- ## A request

-- what the hall replies to it, and what is wrong with the pass, in their order
abbrev pub in_turn : Reply → Option DeskFault → Option DeskFault
in_turn (Refused hall.NoSuchSeat) wrong = Some NoSuchSeat
in_turn (Refused hall.NotClaimed) wrong = Some NotClaimed
in_turn (Refused fault) (Some other) = Some other
in_turn (Refused fault) None = Some (of_hall fault)
in_turn reply wrong = wrong

-- why a request is refused, memory that it takes apart
abbrev pub submit_fault : Request → Passed → List Place → Option DeskFault
submit_fault r p places = in_turn (submits p.seat r false places).reply (not_there p (place_at places p.seat))

-- the hall takes the request, and sends the bench out, where it can go
pub record StoresAndSends (k : ℕ) (r : Request) (before : List Place) (gone : Option Bench) (after : List Place) : Type 0 where
  pub accepted : (submits k r false before).reply ≡ Accepted
  pub refused : Option ℕ
  pub sent : sends_out k refused (submits k r false before).now ≡ record { hall = after; gone = gone }

-- ## A look at the answers

-- the reply, and the pass then
pub record Collected : Type 0 where
  pub reply : Result Got DeskFault
  pub pass : Passed

abbrev pub leaves : Result Got DeskFault → Passed → Collected
leaves reply p = record { reply = reply; pass = p }

-- all that the seat has was got then
abbrev pub takes : List Answer → Passed → Collected
takes outbox p = record { reply = Ok (New (length outbox - length p.got)); pass = record { seat = p.seat; limits = p.limits; sent = p.sent; got = outbox } }

abbrev pub collected_by : Option DeskFault → List Answer → Passed → Collected
collected_by (Some fault) outbox p = leaves (Err fault) p
collected_by None outbox p =
    if is_over p.got then leaves (Err Memory) p
    else if length p.got == length p.sent then leaves (Ok Idle) p
    else if nat_lt (length p.got) (length outbox) then takes outbox p
    else leaves (Ok Busy) p

-- memory apart
abbrev pub collected : Passed → List Place → Collected
collected p places = collected_by (not_there p (place_at places p.seat)) (outbox_at (place_at places p.seat)) p

abbrev pub IsNew : Result Got DeskFault → Type 0
IsNew (Ok (New n)) = Unit {0}
IsNew _ = ⊥

-- it comes out so; or answers are new, memory was refused, and nothing has changed
abbrev pub CollectsIn : Passed → List Place → Result Got DeskFault → Passed → Type 0
CollectsIn p places reply q =
    ((reply ≡ (collected p places).reply) × (q ≡ (collected p places).pass))
    ⊎ ((reply ≡ Err Memory) × (q ≡ p) × IsNew (collected p places).reply)

-- ## A parcel comes back

-- where the seat took it in and has more for it, the bench goes out again
abbrev pub SendsMore : ℕ → (home : List Place) → (gone : Option Bench) → (after : List Place) → Reply → Type 0
SendsMore k home gone after (Taken More) = (refused : Option ℕ) × (sends_out k refused home ≡ record { hall = after; gone = gone })
SendsMore k home gone after reply = (after ≡ home) × (gone ≡ None)

abbrev pub Returns : ℕ → Bench → List Place → (gone : Option Bench) → List Place → Type 0
Returns k b before gone after = SendsMore k (checks_in k b before).now gone after (checks_in k b before).reply

-- ## A session begins, and ends

abbrev pub Opens : ℕ → List Place → Result Passed DeskFault → List Place → Type 0
Opens k before (Ok p) after = (p ≡ opened k p.limits) × (limits_at (place_at before k) ≡ Some p.limits) × (claims k false before ≡ record { now = after; reply = Accepted })
Opens k before (Err f) after = (refused : Bool) × (fault : HallFault) × (f ≡ of_hall fault) × (claims k refused before ≡ record { now = after; reply = Refused fault }) × (after ≡ before)

abbrev pub ClosesBy : Option DeskFault → ℕ → List Place → Result (Unit {0}) DeskFault → List Place → Type 0
ClosesBy (Some fault) k before result after = (result ≡ Err fault) × (after ≡ before)
ClosesBy None k before result after = (result ≡ Ok tt) × (frees k before ≡ record { now = after; reply = Accepted })

abbrev pub Closes : Passed → List Place → Result (Unit {0}) DeskFault → List Place → Type 0
Closes p before result after = ClosesBy (not_there p (place_at before p.seat)) p.seat before result after
