-- Lists of calls as a caller makes them, and the worlds that they come to: memory may be refused in any of them.
use Rattle.std.specs.Prelude.{◌≡◌, ℕ, List, Bool, map, is_some}
use Rattle.aud_text.specs.declared.limits.Limits.{Limits}
use Rattle.aud_bench.specs.declared.request.Answer.{Answer}
use Rattle.aud_hall.specs.declared.fault.HallFault.{HallFault}
use Rattle.aud_hall.specs.declared.why.Why.{Why}
use Rattle.aud_hall.specs.declared.next.Next.{Next}
use Rattle.aud_hall.specs.Replies.{Reply}
use Rattle.aud_hall.specs.Replies as reply
use Rattle.aud_worlds.specs.declared.event.Event.{Event as Call}
use Rattle.aud_worlds.specs.declared.event.Event.TheVariants as call
use Rattle.aud_worlds.specs.declared.reply.Reply.{Reply as InMemory}
use Rattle.aud_worlds.specs.declared.reply.Reply.TheVariants as in_memory
use Rattle.aud_worlds.specs.World.{World, Event, Claim, Submit, SendOut, Slice, CheckIn, Collect, Free, after_all, replies_to, beginning}

-- the call that an event is, whether or not memory was refused in it
abbrev pub call_of : Event → Call
call_of (Claim k refused) = call.Claim k
call_of (Submit k r refused) = call.Submit k r
call_of (SendOut k refused) = call.SendOut k
call_of (Slice n units refused) = call.Slice n units
call_of (CheckIn n k) = call.CheckIn n k
call_of (Collect k from refused) = call.Collect k from
call_of (Free k) = call.Free k

-- what a caller is told: that a bench went out, and not which
pub data Told : Type 0 where
  Accepted : Told
  Refused : HallFault → Told
  Sent : Bool → Told
  Worked : (done left : ℕ) → Told
  Taken : Next → Told
  Stranger : Why → Told
  Answers : List Answer → Told
  Nothing : Told

abbrev pub told_by : Reply → Told
told_by reply.Accepted = Accepted
told_by (reply.Refused fault) = Refused fault
told_by (reply.Sent gone) = Sent (is_some gone)
told_by (reply.Worked done left) = Worked done left
told_by (reply.Taken next) = Taken next
told_by (reply.Stranger why) = Stranger why
told_by (reply.Answers answers) = Answers answers
told_by reply.Nothing = Nothing

abbrev pub plain_reply : InMemory → Told
plain_reply in_memory.Accepted = Accepted
plain_reply (in_memory.Refused fault) = Refused fault
plain_reply (in_memory.Sent gone) = Sent gone
plain_reply (in_memory.Worked work) = Worked work.done work.left
plain_reply (in_memory.Taken next) = Taken next
plain_reply (in_memory.Stranger why) = Stranger why
plain_reply (in_memory.Answers answers) = Answers answers.items
plain_reply in_memory.Nothing = Nothing

-- a world, and what was told, after these calls: there are refusals of memory with which they come to it
pub record IsRun (limits : List Limits) (calls : List Call) (w : World) (replies : List Told) : Type 0 where
  pub events : List Event
  pub calls_are : map call_of events ≡ calls
  pub world_is : after_all (beginning limits) events ≡ w
  pub replies_are : map told_by (replies_to (beginning limits) events) ≡ replies
