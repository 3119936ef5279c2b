-- What `serve` tells a connection for its requests, where the seats of the desk have these limits.
use Rattle.std.specs.Prelude.{◌≡◌, ◌⊎◌, ℕ, true, false, List, [], ◌∷◌, ◌++◌, Option, Some}
use Rattle.std.specs.List.{concat, list_any}
use Rattle.aud_text.specs.declared.limits.Limits.{Limits}
use Rattle.aud_bench.specs.declared.request.Request.{Request}
use Rattle.aud_bench.specs.declared.request.Request.TheVariants.{Seat}
use Rattle.aud_bench.specs.declared.request.Answer.{Answer}
use Rattle.aud_bench.specs.declared.request.Answer.TheVariants.{Done}
use Rattle.aud_bench.specs.Alone.{is_quit, alone}
use Rattle.aud_hall.specs.Ties.Places.{seat_limits}
use Rattle.aud_pass.specs.Passed.{IsPrefix}
use Rattle.aud_lines.specs.Requests.{requests}
use Rattle.aud_lines.specs.Text.{answer_text}
use Rattle.aud_solo.specs.Serving.{ReadsOneMore, ReadsNothing}
use Rattle.aud_solo.specs.Streams.{AppendsFirst}
use Rattle.aud_connection.specs.Greeting.{greeting}
use Rattle.aud_connection.specs.Told.{Told, told_texts, all_answered, are_answers, AreRefused, AreTold}

-- no seat was taken
pub record Waits (seats : List Limits) (asked : List Request) (text : List ℕ) : Type 0 where
  pub told : List Told
  pub refused : AreRefused seats asked told
  pub text_is : text ≡ told_texts told

-- what is told begins with these answers of a private server, up to the first refusal of the desk
abbrev pub Begins : Limits → List Request → List Told → Type 0
Begins limits after told =
    (front rest : List Told) → told ≡ front ++ rest → are_answers front ≡ true → (answers : List Answer) × (front ≡ all_answered answers) × IsPrefix answers (alone limits after)

-- A SEAT took the seat of its number. Where nothing that was told from then on is a refusal of the desk, it is all the answers of a private
-- server with the limits of that seat; else it begins with some of them, and behind a refusal a request is answered so by those that the desk
-- has stored.
pub record Talks (seats : List Limits) (asked : List Request) (text : List ℕ) : Type 0 where
  pub before : List Request
  pub number : ℕ
  pub limits : Limits
  pub after : List Request
  pub refused : List Told
  pub told : List Told
  pub stored : List Request
  pub asked_is : asked ≡ before ++ Seat number ∷ after
  pub seat_is : seat_limits seats number ≡ Some limits
  pub refused_are : AreRefused seats before refused
  pub text_is : text ≡ told_texts refused ++ answer_text Done ++ told_texts told
  pub alone_is : are_answers told ≡ true → told ≡ all_answered (alone limits after)
  pub begins : Begins limits after told
  pub each : AreTold limits [] after told stored

-- the greeting of the desk comes first
pub record Greets (seats : List Limits) (text : List ℕ) (holds : List ℕ → Type 0) : Type 0 where
  pub rest : List ℕ
  pub text_is : text ≡ greeting seats ++ rest
  pub is : holds rest

-- the text is what is told for all these requests
abbrev pub Tells : List Limits → List Request → List ℕ → Type 0
Tells seats asked text = Greets seats text (λ rest. Waits seats asked rest ⊎ Talks seats asked rest)

-- without a seat, or with one and no QUIT since
abbrev pub IsOpen : List Limits → List Request → List ℕ → Type 0
IsOpen seats asked text = Greets seats text (λ rest. Waits seats asked rest ⊎ ((talks : Talks seats asked rest) × (list_any is_quit talks.after ≡ false)))

-- Pieces are read for whose requests, with no QUIT of a seat, this was told and is written, and then at most one more.
pub record ReadsToQuit (seats : List Limits) (left remaining before after : Option (List ℕ)) (old new : List (List ℕ)) : Type 0 where
  pub pieces : List (List ℕ)
  pub read : ReadsOneMore left remaining old new pieces
  pub told : List ℕ
  pub goes_on : IsOpen seats (requests (concat pieces)) told
  pub written : AppendsFirst before after told

-- What is read, however the call ends: nothing, or so much. So behind the read that brings the QUIT of a connection with a seat there is no
-- other.
abbrev pub StopsAtQuit : List Limits → (left remaining before after : Option (List ℕ)) → (old new : List (List ℕ)) → Type 0
StopsAtQuit seats left remaining before after old new = ReadsNothing left remaining old new ⊎ ReadsToQuit seats left remaining before after old new
