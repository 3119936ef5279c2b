-- What a call does at a claimed seat.
use Rattle.std.specs.Prelude.{ℕ, List, [], ◌∷◌, ◌++◌, length, drop, Option, Some, None, Bool, true, false, nat_le, not, ◌||◌}
use Rattle.aud_text.specs.declared.limits.Limits.{Limits}
use Rattle.aud_bench.specs.declared.request.Request.{Request}
use Rattle.aud_bench.specs.declared.request.Answer.{Answer}
use Rattle.aud_bench.specs.Alone.{fits}
use Rattle.aud_bench.specs.Size.{bytes_of}
use Rattle.aud_bench.specs.Seen.{Seen as Bench, has_quit, answers_of}
use Rattle.aud_hall.specs.declared.fault.HallFault.TheVariants.{NotClaimed, Full, Memory}
use Rattle.aud_hall.specs.Slices.{opened, given}
use Rattle.aud_hall.specs.Replies.{Reply, Refused, Accepted, Answers, Then}

-- the stored requests, the answers so far, and the bench, where it is at home
pub record Seat : Type 0 where
  pub requests : List Request
  pub outbox : List Answer
  pub home : Option Bench

abbrev pub claimed : Limits → Seat
claimed limits = record { requests = []; outbox = []; home = Some (opened limits) }

-- ## A request comes

abbrev pub has_closed : Option Bench → Bool
has_closed None = false
has_closed (Some b) = b.spent

abbrev pub stored : Seat → Request → Seat
stored s r = record s { requests = s.requests ++ r ∷ [] }

abbrev pub submitting : (over full refused : Bool) → Request → Seat → Then Seat
submitting true full refused r s = record { now = s; reply = Refused NotClaimed }
submitting false true refused r s = record { now = s; reply = Refused Full }
submitting false false true r s = record { now = s; reply = Refused Memory }
submitting false false false r s = record { now = stored s r; reply = Accepted }

-- behind a QUIT nothing is taken, and nothing that does not fit; nor while the bench at home has closed
abbrev pub submitted : Request → (refused : Bool) → Seat → Then Seat
submitted r refused s = submitting (has_quit s.requests) (not (fits (length s.requests) (bytes_of s.requests) r)) (refused || has_closed s.home) r s

-- ## The bench comes home, and goes out

-- a bench comes home: the answers that it made past those of the seat are taken out of it
abbrev pub taken_in : Bench → Seat → Seat
taken_in b s = record {
  requests = s.requests;
  outbox = s.outbox ++ drop (length s.outbox) (answers_of b);
  home = Some (record b { taken = length (answers_of b) });
}

-- a seat, and the bench that went out
pub record Sending : Type 0 where
  pub seat : Seat
  pub gone : Option Bench

-- a bench that has closed stays, and the seat has its last answer
abbrev pub sends : (closed : Bool) → Seat → Bench → Sending
sends true s b = record { seat = taken_in b s; gone = None }
sends false s b = record { seat = record s { home = None }; gone = Some b }

abbrev pub sends_given : Seat → Bench → Sending
sends_given s b = sends b.spent s b

abbrev pub sending_by : (stays : Bool) → (refused : Option ℕ) → Seat → Bench → Sending
sending_by true refused s b = record { seat = s; gone = None }
sending_by false refused s b = sends_given s (given s.requests refused b)

-- nothing goes out where the bench is out, where it has closed, or where each request is answered
abbrev pub sending : (refused : Option ℕ) → Seat → Option Bench → Sending
sending refused s None = record { seat = s; gone = None }
sending refused s (Some b) = sending_by (b.spent || nat_le (length s.requests) (length s.outbox)) refused s b

abbrev pub sent : (refused : Option ℕ) → Seat → Sending
sent refused s = sending refused s s.home

-- ## The answers are looked at

abbrev pub collected : ℕ → (refused : Bool) → Seat → Reply
collected from true s = Refused Memory
collected from false s = Answers (drop from s.outbox)
