-- What the answers at a seat are: those of a private server to the requests that are stored there.
use Rattle.std.specs.Prelude.{◌≡◌, ◌-◌, List, ◌++◌, length, take, Option, Some, None, Bool}
use Rattle.aud_text.specs.declared.limits.Limits.{Limits}
use Rattle.aud_bench.specs.declared.request.Request.{Request}
use Rattle.aud_bench.specs.declared.request.Answer.{Answer}
use Rattle.aud_bench.specs.Alone.{alone}
use Rattle.aud_bench.specs.Seen.{Seen as Bench, told}
use Rattle.aud_hall.specs.Seats.{Seat, has_closed}
use Rattle.aud_hall.specs.Halls.{Place}
use Rattle.aud_hall.specs.Ties.Right.{Begins}

-- so many of the first answers of a private server as there are; and behind them, where memory was refused, that it was
abbrev pub AreAnswers : Limits → List Request → (closed : Bool) → List Answer → Type 0
AreAnswers limits requests closed answers = answers ≡ take (length answers - length (told closed)) (alone limits requests) ++ told closed

-- the journal of the bench that is at home is a prefix of the stored requests
abbrev pub IsFrontAtHome : List Request → Option Bench → Type 0
IsFrontAtHome requests None = Unit {0}
IsFrontAtHome requests (Some b) = Begins b.journal requests

-- memory was refused where the bench that is at home has closed
pub record IsTold (limits : Limits) (s : Seat) : Type 0 where
  pub outbox : AreAnswers limits s.requests (has_closed s.home) s.outbox
  pub home : IsFrontAtHome s.requests s.home

abbrev pub IsToldIn : Limits → Option Seat → Type 0
IsToldIn limits None = Unit {0}
IsToldIn limits (Some s) = IsTold limits s

abbrev pub IsToldAt : Option Place → Type 0
IsToldAt None = Unit {0}
IsToldAt (Some place) = IsToldIn place.limits place.seat
