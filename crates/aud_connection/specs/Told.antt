-- What a connection is told for its requests.
use Rattle.std.specs.Prelude.{◌≡◌, ◌⊎◌, ℕ, List, [], ◌∷◌, ◌++◌, length, Bool, true, false, codes}
use Rattle.aud_text.specs.declared.limits.Limits.{Limits}
use Rattle.aud_text.specs.declared.refusal.Refusal.TheVariants as refusal
use Rattle.aud_bench.specs.declared.request.Request.{Request}
use Rattle.aud_bench.specs.declared.request.Request.TheVariants as request
use Rattle.aud_bench.specs.declared.request.Answer.{Answer}
use Rattle.aud_bench.specs.declared.request.Answer.TheVariants.{Refused}
use Rattle.aud_bench.specs.Alone.{is_quit, fits, alone}
use Rattle.aud_bench.specs.Seen.{has_quit}
use Rattle.aud_bench.specs.Size.{bytes_of}
use Rattle.aud_hall.specs.Ties.Places.{seat_limits}
use Rattle.aud_pass.specs.declared.fault.DeskFault.{DeskFault}
use Rattle.aud_pass.specs.declared.fault.DeskFault.TheVariants as fault
use Rattle.aud_pass.specs.Replies.{IsLost, not_opened}
use Rattle.aud_lines.specs.Text.{answer_text, line_end}

-- an answer, or that the desk refuses the request
pub data Told : Type 0 where
  Answered : Answer → Told
  Faulted : DeskFault → Told

abbrev pub fault_words : DeskFault → List ℕ
fault_words fault.NoSuchSeat = codes "E92 no such seat"
fault_words fault.SeatInUse = codes "E91 seat in use"
fault_words fault.Memory = codes "E90 out of memory"
fault_words fault.NotClaimed = codes "E93 seat not claimed"
fault_words (fault.NotThisDesk place) = codes "E95 not this desk"
fault_words fault.Full = codes "E13 journal full"

abbrev pub fault_text : DeskFault → List ℕ
fault_text f = codes "- " ++ fault_words f ++ line_end

abbrev pub told_text : Told → List ℕ
told_text (Answered a) = answer_text a
told_text (Faulted f) = fault_text f

-- one after the other
abbrev pub told_texts : List Told → List ℕ
told_texts [] = []
told_texts (t ∷ told) = told_text t ++ told_texts told

abbrev pub all_answered : List Answer → List Told
all_answered [] = []
all_answered (a ∷ answers) = Answered a ∷ all_answered answers

abbrev pub are_answers : List Told → Bool
are_answers [] = true
are_answers (Answered a ∷ told) = are_answers told
are_answers (Faulted f ∷ told) = false

-- ## Without a seat

-- where the seats of the desk have these limits, every request is refused so: a SEAT since there is no such seat, or it is in use
abbrev pub IsRefused : List Limits → Request → Told → Type 0
IsRefused seats (request.Seat number) t = t ≡ Faulted (not_opened (seat_limits seats number))
IsRefused seats _ t = t ≡ Faulted fault.NotClaimed

abbrev pub AreRefused : List Limits → List Request → List Told → Type 0
AreRefused seats [] [] = Unit {0}
AreRefused seats [] (t ∷ told) = ⊥
AreRefused seats (r ∷ asked) [] = ⊥
AreRefused seats (r ∷ asked) (t ∷ told) = IsRefused seats r t × AreRefused seats asked told

-- ## With one

-- the request is stored behind these, and this is the last of a private server's answers to them all
pub record Takes (limits : Limits) (sent : List Request) (r : Request) (a : Answer) (next : List Request) : Type 0 where
  pub open_there : has_quit sent ≡ false
  pub room : fits (length sent) (bytes_of sent) r ≡ true
  pub stored : next ≡ sent ++ r ∷ []
  pub front : List Answer
  pub last : alone limits next ≡ front ++ a ∷ []

-- it does not fit behind them
pub record HasNoRoom (sent : List Request) (r : Request) (a : Answer) (next : List Request) : Type 0 where
  pub open_there : has_quit sent ≡ false
  pub none : fits (length sent) (bytes_of sent) r ≡ false
  pub stored : next ≡ sent
  pub answer : a ≡ Refused refusal.JournalFull

-- What is told for a request, where these were stored before, and what is stored then. A desk that refuses it says that the seat is not the
-- connection's own, or is none; it may have stored it.
abbrev pub IsTold : Limits → (sent : List Request) → Request → Told → (next : List Request) → Type 0
IsTold limits sent r (Answered a) next = Takes limits sent r a next ⊎ HasNoRoom sent r a next
IsTold limits sent r (Faulted f) next = IsLost f × ((next ≡ sent) ⊎ (next ≡ sent ++ r ∷ []))

-- one after the other, up to and with the first QUIT, behind which nothing is told
abbrev pub AreTold : Limits → (sent asked : List Request) → List Told → (stored : List Request) → Type 0
AreTold limits sent [] [] stored = stored ≡ sent
AreTold limits sent [] (t ∷ told) stored = ⊥
AreTold limits sent (r ∷ asked) [] stored = ⊥
AreTold limits sent (r ∷ asked) (t ∷ told) stored =
    (next : List Request) × IsTold limits sent r t next
    × (is_quit r ≡ true → (told ≡ []) × (stored ≡ next))
    × (is_quit r ≡ false → AreTold limits next asked told stored)
