-- What calls answer, as replies, and whether memory was refused in them.
use Rattle.std.specs.Prelude.{ℕ, Option, Some, None, Bool, true, false, Result, Ok, Err, Vec}
use Rattle.aud_bench.specs.declared.request.Answer.{Answer}
use Rattle.aud_hall.specs.declared.fault.HallFault.{HallFault}
use Rattle.aud_hall.specs.declared.fault.HallFault.TheVariants.{Memory}
use Rattle.aud_hall.specs.declared.next.Next.{Next}
use Rattle.aud_hall.specs.declared.stranger.Stranger.{Stranger as HandedBack}
use Rattle.aud_hall.specs.Replies.{Reply, Accepted, Refused, Taken, Stranger, Answers}

-- memory was refused in a call that answers so
abbrev pub is_memory : {A : Type 0} → Result A HallFault → Bool
is_memory (Err Memory) = true
is_memory _ = false

abbrev pub said : {A : Type 0} → Result A HallFault → Reply
said (Ok done) = Accepted
said (Err fault) = Refused fault

abbrev pub said_answers : {Z : Type 0} → Result (Vec Answer Z) HallFault → Reply
said_answers (Ok answers) = Answers answers.items
said_answers (Err fault) = Refused fault

abbrev pub said_next : Result Next HandedBack → Reply
said_next (Ok next) = Taken next
said_next (Err stranger) = Stranger stranger.why

-- where memory was refused in a slice that did so many units
abbrev pub cut_in : (closed : Bool) → (done : ℕ) → Option ℕ
cut_in true done = Some done
cut_in false done = None
