-- What a user is told, whatever all others did before.
use Rattle.std.specs.Prelude.{◌≡◌, ◌⊎◌, ℕ, ◌+◌, ◌<◌, ◌≤◌, length, true, false, Option, Some, None, Result, Ok, Err}
use Rattle.aud_text.specs.declared.limits.Limits.{Limits}
use Rattle.aud_bench.specs.declared.request.Request.{Request}
use Rattle.aud_bench.specs.Alone.{fits, alone}
use Rattle.aud_bench.specs.Seen.{has_quit}
use Rattle.aud_bench.specs.Size.{bytes_of}
use Rattle.aud_hall.specs.Numbered.{IsPrefix}
use Rattle.aud_pass.specs.declared.got.Got.{Got}
use Rattle.aud_pass.specs.declared.got.Got.TheVariants.{Idle, New, Busy}
use Rattle.aud_pass.specs.declared.fault.DeskFault.{DeskFault}
use Rattle.aud_pass.specs.declared.fault.DeskFault.TheVariants as fault
use Rattle.aud_pass.specs.Passed.{Passed, is_over}

-- nothing is to come: as many answers as requests, and these are all those of a private server
pub record IsWhole (p : Passed) : Type 0 where
  pub over : is_over p.got ≡ false
  pub count : length p.got ≡ length p.sent
  pub all : p.got ≡ alone p.limits p.sent

-- something is to come
pub record IsAwaited (p : Passed) : Type 0 where
  pub over : is_over p.got ≡ false
  pub fewer : length p.got < length p.sent

-- so many answers more
pub record Grows (n : ℕ) (p q : Passed) : Type 0 where
  pub seat : q.seat ≡ p.seat
  pub limits : q.limits ≡ p.limits
  pub sent : q.sent ≡ p.sent
  pub front : IsPrefix p.got q.got
  pub more : length q.got ≡ length p.got + n
  pub some : 1 ≤ n

-- the faults that a pass may meet at its seat, or where there is none
abbrev pub IsLost : DeskFault → Type 0
IsLost fault.NoSuchSeat = Unit {0}
IsLost fault.NotClaimed = Unit {0}
IsLost (fault.NotThisDesk place) = Unit {0}
IsLost fault.SeatInUse = ⊥
IsLost fault.Full = ⊥
IsLost fault.Memory = ⊥

-- those of a look at the answers: that memory is out was told before, or something is to come
abbrev pub Fails : Passed → DeskFault → Type 0
Fails p fault.Memory = (is_over p.got ≡ true) ⊎ IsAwaited p
Fails p f = IsLost f

abbrev pub Finds : Passed → Got → Passed → Type 0
Finds p Idle q = IsWhole p × (q ≡ p)
Finds p (New n) q = IsAwaited p × Grows n p q
Finds p Busy q = IsAwaited p × (q ≡ p)

-- what a collect that answers so makes of a pass
abbrev pub Collects : Passed → Result Got DeskFault → Passed → Type 0
Collects p (Ok found) q = Finds p found q
Collects p (Err f) q = Fails p f × (q ≡ p)

abbrev pub IsNotBusy : Got → Type 0
IsNotBusy Idle = Unit {0}
IsNotBusy (New n) = Unit {0}
IsNotBusy Busy = ⊥

-- whether a request fits behind what was sent, where no QUIT was
pub record Fits (p : Passed) (r : Request) : Type 0 where
  pub open_there : has_quit p.sent ≡ false
  pub room : fits (length p.sent) (bytes_of p.sent) r ≡ true

pub record Overflows (p : Passed) (r : Request) : Type 0 where
  pub open_there : has_quit p.sent ≡ false
  pub none : fits (length p.sent) (bytes_of p.sent) r ≡ false

-- what is known of a request where it is refused so, or is not
abbrev pub FitsBy : Option DeskFault → Passed → Request → Type 0
FitsBy None p r = Fits p r
FitsBy (Some fault.Full) p r = Overflows p r
FitsBy (Some fault.Memory) p r = Unit {0}
FitsBy (Some f) p r = IsLost f

-- what a submit that answers so tells
abbrev pub Tells : {A : Type 0} → Result A DeskFault → Passed → Request → Type 0
Tells (Ok done) p r = FitsBy None p r
Tells (Err fault) p r = FitsBy (Some fault) p r

-- why no session begins at a seat with these limits, if there is such a seat, memory apart
abbrev pub not_opened : Option Limits → DeskFault
not_opened None = fault.NoSuchSeat
not_opened (Some limits) = fault.SeatInUse

-- no memory is asked for where there is no such seat
abbrev pub OpensNot : Option Limits → DeskFault → Type 0
OpensNot None f = f ≡ not_opened None
OpensNot (Some limits) f = (f ≡ fault.Memory) ⊎ (f ≡ not_opened (Some limits))
