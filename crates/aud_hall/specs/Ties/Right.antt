-- What holds of every seat, whose outbox is what its bench has made, and of every bench that is out, which has a truth of its own.
use Rattle.std.specs.Prelude.{◌≡◌, ℕ, ◌<◌, ◌≤◌, List, ◌++◌, length, take, Option, Some, None, true}
use Rattle.aud_text.specs.declared.limits.Limits.{Limits}
use Rattle.aud_bench.specs.declared.request.Request.{Request}
use Rattle.aud_bench.specs.Alone.{cost, made}
use Rattle.aud_bench.specs.Ties.Kept.{is_kept}
use Rattle.aud_bench.specs.Seen.{Seen as Bench, told}
use Rattle.aud_hall.specs.Slices.{answered}
use Rattle.aud_hall.specs.Seats.{Seat}

-- a list is a prefix of another one: as an equation, of which there is one proof at most
abbrev pub Begins : {A : Type 0} → List A → List A → Type 0
Begins front whole = take (length front) whole ≡ front

-- a parcel is right by itself, whoever carries it
pub record IsTrue (b : Bench) : Type 0 where
  pub within : b.units ≤ cost b.limits b.journal
  pub taken : b.taken ≤ answered b
  pub short : b.spent ≡ true → answered b < length b.journal

-- the outbox is what the bench at home has made of its journal, which is a prefix of the stored requests
pub record IsHome (limits : Limits) (s : Seat) (b : Bench) : Type 0 where
  pub limits_are : b.limits ≡ limits
  pub front : Begins b.journal s.requests
  pub within : b.units ≤ cost limits b.journal
  pub outbox : s.outbox ≡ made limits b.journal b.units ++ told b.spent
  pub taken : b.taken ≡ length s.outbox
  pub short : b.spent ≡ true → length (made limits b.journal b.units) < length s.requests

-- while the bench is out, the outbox is what some units make of a prefix of the stored requests
pub record IsAway (limits : Limits) (s : Seat) : Type 0 where
  pub journal : List Request
  pub units : ℕ
  pub front : Begins journal s.requests
  pub within : units ≤ cost limits journal
  pub outbox : s.outbox ≡ made limits journal units

abbrev pub IsMade : Limits → Seat → Option Bench → Type 0
IsMade limits s None = IsAway limits s
IsMade limits s (Some b) = IsHome limits s b

pub record IsRight (limits : Limits) (s : Seat) : Type 0 where
  pub kept : is_kept s.requests ≡ true
  pub bench : IsMade limits s s.home

abbrev pub IsRightSeat : Limits → Option Seat → Type 0
IsRightSeat limits None = Unit {0}
IsRightSeat limits (Some s) = IsRight limits s
