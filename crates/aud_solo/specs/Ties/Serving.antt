-- What whoever answers the requests of a stream has been asked and has told, turn by turn.
use Rattle.std.specs.Prelude.{◌≡◌, ◌⊎◌, ℕ, Bool, true, false, List, [], ◌∷◌, ◌++◌, Option, Result, IfSome, OnOk, IsErrOf}
use Rattle.std.specs.Io.KnownBytes.{Appends, Consumes, IsAtEnd}
use Rattle.std.specs.List.{concat}
use Rattle.aud_bench.specs.declared.request.Request.{Request}
use Rattle.aud_lines.specs.Requests.{requests}
use Rattle.aud_lines.specs.Ties.Begun.{Begun, requests_behind}
use Rattle.aud_solo.specs.declared.serving.ServeFault.{ServeFault}
use Rattle.aud_solo.specs.declared.serving.ServeFault.TheVariants as fault
use Rattle.aud_solo.specs.Serving.{Telling, HasRead, ReadsOneMore, ReadsNothing, WritesAll, TellsSome}
use Rattle.aud_solo.specs.Streams.{AppendsFirst, AppendsPrefix}

-- what those in states of a type tell
pub record Words (S : Type 0) : Type 1 where
  -- the text is what is told for the requests
  pub tells : List Request → List ℕ → Type 0
  -- one in this state was asked them and has told it
  pub has_told : List Request → List ℕ → S → Type 0
  -- and tells nothing for more
  pub over : S → Bool
  -- one in this state was asked nothing and has told nothing yet
  pub fresh : S → Type 0

-- one who was asked nothing yet has told this
pub record HasGreeted {S : Type 0} (words : Words S) (greeting : List ℕ) (state : S) : Type 0 where
  pub is : words.has_told [] greeting state
  pub tells : words.tells [] greeting
  pub going : words.over state ≡ false

-- whatever was asked and told before, this is told for one request more
abbrev pub TellsNext : {S : Type 0} → Words S → Request → (old : S) → List ℕ → (new : S) → Type 0
TellsNext words r old said new =
    (asked : List Request) (told : List ℕ) → words.has_told asked told old → words.has_told (asked ++ r ∷ []) (told ++ said) new × words.tells (asked ++ r ∷ []) (told ++ said)

-- nothing is told for more
abbrev pub TellsNoMore : {S : Type 0} → Words S → S → Type 0
TellsNoMore words state =
    (asked more : List Request) (told : List ℕ) → words.has_told asked told state → words.has_told (asked ++ more) told state × words.tells (asked ++ more) told

-- what was told for these requests is written behind what stood there before
pub record HasTold {S : Type 0} (words : Words S) (before now : Option (List ℕ)) (asked : List Request) (state : S) : Type 0 where
  pub told : List ℕ
  pub is : words.has_told asked told state
  pub tells : words.tells asked told
  pub written : Appends before now told

-- what is told for some first requests is written; or a prefix of it
abbrev pub WritesSome : Telling → Option (List ℕ) → Option (List ℕ) → List Request → Type 0
WritesSome tells old new asked = (said : List ℕ) × TellsSome tells asked said × Appends old new said

abbrev pub WritesPrefix : Telling → Option (List ℕ) → Option (List ℕ) → List Request → Type 0
WritesPrefix tells old new asked = (said : List ℕ) × TellsSome tells asked said × AppendsPrefix old new said

-- these requests are told of; where memory is refused, or a write failed, some first ones
pub record TellsTo {S A : Type 0} (words : Words S) (result : Result A ServeFault) (before now : Option (List ℕ)) (asked : List Request) (state : S) : Type 0 where
  pub all : OnOk result (HasTold words before now asked state)
  pub memory : IsErrOf result fault.Memory → WritesSome words.tells before now asked
  pub write : IsErrOf result fault.Write → WritesPrefix words.tells before now asked

-- whatever was asked and told before
abbrev pub TellsMore : {S A : Type 0} → Words S → Result A ServeFault → (old new : Option (List ℕ)) → List Request → (state next : S) → Type 0
TellsMore words result old new more state next =
    (before : Option (List ℕ)) (asked : List Request) → HasTold words before old asked state → TellsTo words result before new (asked ++ more) next

-- of what was left bytes are read, all their requests are told of, and the feed has what they begin
pub record HasServed {S : Type 0} (words : Words S) (left remaining before now : Option (List ℕ)) (old new : List (List ℕ)) (feed : Begun) (state : S) : Type 0 where
  pub pieces : List (List ℕ)
  pub input : List ℕ
  pub asked : List Request
  pub reads : new ≡ old ++ pieces
  pub input_is : input ≡ concat pieces
  pub taken : Consumes left remaining input
  pub fed : (more : List ℕ) → requests (input ++ more) ≡ asked ++ requests_behind feed more
  pub begun : requests_behind feed [] ≡ []
  pub told : HasTold words before now asked state

-- What is read, however the call ends: pieces whose requests were told of by one who tells more, and then at most one more.
pub record StopsIn {S : Type 0} (words : Words S) (left remaining before now : Option (List ℕ)) (old new : List (List ℕ)) : Type 0 where
  pub pieces : List (List ℕ)
  pub read : ReadsOneMore left remaining old new pieces
  pub told : List ℕ
  pub state : S
  pub is : words.has_told (requests (concat pieces)) told state
  pub going : words.over state ≡ false
  pub written : AppendsFirst before now told

-- the same of a whole session, which may end before anything is read
abbrev pub Stops : {S : Type 0} → Words S → (left remaining before now : Option (List ℕ)) → (old new : List (List ℕ)) → Type 0
Stops words left remaining before now old new = ReadsNothing left remaining old new ⊎ StopsIn words left remaining before now old new

-- What a turn makes of what was served before it. Behind that, all that has come with this turn is served; where its read failed, there is
-- nothing more. Where memory is refused, or a write failed, it is read, and a prefix of what is told for it is written.
pub record ServesTurn {S A : Type 0} (words : Words S) (result : Result A ServeFault) (left remaining before now : Option (List ℕ)) (old new : List (List ℕ)) (feed : Begun) (state : S) : Type 0 where
  pub served : OnOk result (HasServed words left remaining before now old new feed state)
  pub read : IsErrOf result fault.Read → HasServed words left remaining before now old new feed state
  pub memory : IsErrOf result fault.Memory → HasRead left remaining (λ input. WritesSome words.tells before now (requests input))
  pub write : IsErrOf result fault.Write → HasRead left remaining (λ input. WritesPrefix words.tells before now (requests input))
  pub stops : StopsIn words left remaining before now old new

-- whether another turn is due: not where nothing more is told, nor at the end of what is read
abbrev pub GoesOn : {S : Type 0} → Words S → Bool → S → Option (List ℕ) → Type 0
GoesOn words true state remaining = words.over state ≡ false
GoesOn words false state remaining = TellsNoMore words state ⊎ IsAtEnd remaining

-- as `Serves`, before it is written that memory is out
pub record ServesSome {A : Type 0} (tells : Telling) (result : Result A ServeFault) (left remaining before after : Option (List ℕ)) : Type 0 where
  pub all : OnOk result (IfSome left (λ input. WritesAll tells before after (requests input)))
  pub ended : OnOk result (HasRead left remaining (λ input. WritesAll tells before after (requests input)))
  pub read : IsErrOf result fault.Read → HasRead left remaining (λ input. WritesAll tells before after (requests input))
  pub memory : IsErrOf result fault.Memory → HasRead left remaining (λ input. WritesSome tells before after (requests input))
  pub write : IsErrOf result fault.Write → HasRead left remaining (λ input. WritesPrefix tells before after (requests input))
