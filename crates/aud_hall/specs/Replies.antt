-- What a hall replies; and of its parcels, as a world has them by their numbers, what a slice does, and that there is none.
use Rattle.std.specs.Prelude.{ℕ, List, Option}
use Rattle.aud_bench.specs.declared.request.Answer.{Answer}
use Rattle.aud_bench.specs.Seen.{Seen as Bench}
use Rattle.aud_hall.specs.declared.fault.HallFault.{HallFault}
use Rattle.aud_hall.specs.declared.why.Why.{Why}
use Rattle.aud_hall.specs.declared.next.Next.{Next}

pub data Reply : Type 0 where
  Accepted : Reply
  Refused : HallFault → Reply
  -- a bench went out, or none
  Sent : Option Bench → Reply
  -- so many units of work were done, and so many requests are given and unanswered
  Worked : (done left : ℕ) → Reply
  -- a bench was taken in
  Taken : Next → Reply
  -- a bench was not taken in
  Stranger : Why → Reply
  Answers : List Answer → Reply
  -- there is no such parcel
  Nothing : Reply

-- what a call leaves, and its reply
pub record Then (A : Type 0) : Type 0 where
  pub now : A
  pub reply : Reply
