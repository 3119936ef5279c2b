-- What a connection with a seat is told for a request, and what becomes of its pass.
use Rattle.std.specs.Prelude.{◌≡◌, ℕ, List, Bool, Option, Some, None, Result, Ok, Err}
use Rattle.aud_text.specs.declared.limits.Limits.{Limits}
use Rattle.aud_bench.specs.declared.request.Request.{Request}
use Rattle.aud_bench.specs.declared.request.Request.TheVariants as request
use Rattle.aud_bench.specs.declared.request.Answer.TheVariants.{Done}
use Rattle.aud_bench.specs.Alone.{is_quit}
use Rattle.aud_lines.specs.Text.{answer_text}
use Rattle.aud_hall.specs.Ties.Places.{seat_limits}
use Rattle.aud_pass.specs.declared.fault.DeskFault.{DeskFault}
use Rattle.aud_pass.specs.declared.fault.DeskFault.TheVariants as fault
use Rattle.aud_pass.specs.Passed.{Passed, opened}
use Rattle.aud_pass.specs.Replies.{IsWhole, IsLost}
use Rattle.aud_connection.specs.Told.{Told, told_text, IsRefused, IsTold}
use Rattle.aud_connection.specs.declared.visit.Visit.{Visit}

-- a wait to the end; it may end where memory is refused, too
abbrev pub Ends : DeskFault → Type 0
Ends fault.Memory = Unit {0}
Ends f = IsLost f

abbrev pub Finishes : {A : Type 0} → Result A DeskFault → Passed → Passed → Type 0
Finishes (Ok done) p q = (q.limits ≡ p.limits) × (q.sent ≡ p.sent) × IsWhole q
Finishes (Err f) p q = (q.limits ≡ p.limits) × (q.sent ≡ p.sent) × Ends f

abbrev pub Converses : Request → Passed → Told → Passed → Type 0
Converses r p t q = (q.limits ≡ p.limits) × IsTold p.limits p.sent r t q.sent

-- a connection without a seat asks for one, or is refused
abbrev pub Admits : List Limits → Request → List ℕ → Option Passed → Type 0
Admits seats r text None = (t : Told) × IsRefused seats r t × (text ≡ told_text t)
Admits seats r text (Some p) = (number : ℕ) × (r ≡ request.Seat number) × (text ≡ answer_text Done) × (p ≡ opened number p.limits) × (seat_limits seats number ≡ Some p.limits)

abbrev pub TalksOn : Request → Passed → List ℕ → Option Passed → Type 0
TalksOn r p text None = ⊥
TalksOn r p text (Some q) = (t : Told) × (text ≡ told_text t) × Converses r p t q

-- what is told for a request, and how far the connection is then
abbrev pub RepliesBy : List Limits → Request → Option Passed → List ℕ → Option Passed → (old new : Bool) → Type 0
RepliesBy seats r None text after old new = Admits seats r text after × (new ≡ old)
RepliesBy seats r (Some p) text after old new = TalksOn r p text after × (new ≡ is_quit r)

abbrev pub Replies : List Limits → Request → Visit → List ℕ → Visit → Type 0
Replies seats r old text new = RepliesBy seats r old.pass text new.pass old.over new.over
