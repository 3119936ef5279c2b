-- What a server on one stream of requests reads and writes, whatever it tells for them. Of a reader and a writer a word takes what was
-- left in it, or stood there, before the call and after it. Nothing is said where that is not known.
use Rattle.std.specs.Prelude.{◌≡◌, ◌⊎◌, ℕ, ◌+◌, ◌≤◌, length, List, [], ◌++◌, Option, Result, Ok, Err, IfSome, OnOk, IsErrOf}
use Rattle.std.specs.Io.KnownBytes.{Appends, Consumes}
use Rattle.std.specs.List.{concat}
use Rattle.aud_text.specs.declared.refusal.Refusal.TheVariants as refusal
use Rattle.aud_bench.specs.declared.request.Request.{Request}
use Rattle.aud_bench.specs.declared.request.Answer.TheVariants as answer
use Rattle.aud_lines.specs.Requests.{requests}
use Rattle.aud_lines.specs.Text.{answer_text}
use Rattle.aud_solo.specs.declared.serving.ServeFault.{ServeFault}
use Rattle.aud_solo.specs.declared.serving.ServeFault.TheVariants as fault
use Rattle.aud_solo.specs.declared.serving.TheConstants.{PIECE}
use Rattle.aud_solo.specs.Streams.{AppendsPrefix}

-- which text is told for which requests
abbrev pub Telling : Type 1
Telling = List Request → List ℕ → Type 0

-- the call has read bytes, of which this holds
abbrev pub HasRead : Option (List ℕ) → Option (List ℕ) → (List ℕ → Type 0) → Type 0
HasRead old new holds = (input : List ℕ) × Consumes old new input × holds input

-- Of what a reader's calls have read, one piece for each: these pieces are added, and then at most one more. Where the reader tells its
-- bytes, they are those of all of them.
pub record ReadsOneMore (left remaining : Option (List ℕ)) (old new before : List (List ℕ)) : Type 0 where
  pub last : List (List ℕ)
  pub one : length last ≤ 1
  pub reads : new ≡ old ++ (before ++ last)
  pub taken : Consumes left remaining (concat (before ++ last))
  pub short : length (concat last) ≤ PIECE

-- no call has read
abbrev pub ReadsNothing : (left remaining : Option (List ℕ)) → (old new : List (List ℕ)) → Type 0
ReadsNothing left remaining old new = Consumes left remaining [] × (new ≡ old)

-- what is told for all the requests is written
abbrev pub WritesAll : Telling → Option (List ℕ) → Option (List ℕ) → List Request → Type 0
WritesAll tells old new asked = (said : List ℕ) × tells asked said × Appends old new said

-- it is told for some first ones of them; or nothing is told, not even what is told where nothing is asked
abbrev pub TellsSome : Telling → List Request → List ℕ → Type 0
TellsSome tells all said = (said ≡ []) ⊎ ((some rest : List Request) × (all ≡ some ++ rest) × tells some said)

abbrev pub memory_text : List ℕ
memory_text = answer_text (answer.Refused refusal.OutOfMemory)

-- what is told for some first ones is written, or nothing, and then that memory is out
abbrev pub WritesCut : Telling → Option (List ℕ) → Option (List ℕ) → List Request → Type 0
WritesCut tells old new asked = (said : List ℕ) × TellsSome tells asked said × Appends old new (said ++ memory_text)

-- A prefix of what is told for some first ones is written, or of that and then that memory is out; or nothing, or then a prefix of that
-- memory is out. It may end within an answer.
abbrev pub WritesPart : Telling → Option (List ℕ) → Option (List ℕ) → List Request → Type 0
WritesPart tells old new asked = (said : List ℕ) × TellsSome tells asked said × (AppendsPrefix old new said ⊎ AppendsPrefix old new (said ++ memory_text))

-- The call serves the requests of a reader, and writes to a writer. Where it answers Ok, all that is told for what was left to read is
-- written, and that is what is told for what was read: what comes behind it is told nothing. Where a read failed, it is all that is told
-- for what was read. Where memory is refused, it is what is told for some first requests of what was read, and then that memory is out;
-- where a write failed, a prefix of such a text.
pub record Serves {A : Type 0} (tells : Telling) (result : Result A ServeFault) (left remaining before after : Option (List ℕ)) : Type 0 where
  pub all : OnOk result (IfSome left (λ input. WritesAll tells before after (requests input)))
  pub ended : OnOk result (HasRead left remaining (λ input. WritesAll tells before after (requests input)))
  pub read : IsErrOf result fault.Read → HasRead left remaining (λ input. WritesAll tells before after (requests input))
  pub memory : IsErrOf result fault.Memory → HasRead left remaining (λ input. WritesCut tells before after (requests input))
  pub write : IsErrOf result fault.Write → HasRead left remaining (λ input. WritesPart tells before after (requests input))

-- The failures of a reader before and after a call that stops at the first one: one more where it answers Read, else as before.
abbrev pub CountsReads : {A : Type 0} → Result A ServeFault → ℕ → ℕ → Type 0
CountsReads (Ok x) before after = after ≡ before
CountsReads (Err fault.Read) before after = after ≡ before + 1
CountsReads (Err fault.Write) before after = after ≡ before
CountsReads (Err fault.Memory) before after = after ≡ before

-- the same of a call that may also answer Read because its reads are used up
abbrev pub CountsReadsTo : {A : Type 0} → Type 0 → Result A ServeFault → ℕ → ℕ → Type 0
CountsReadsTo used (Ok x) before after = after ≡ before
CountsReadsTo used (Err fault.Read) before after = (after ≡ before + 1) ⊎ ((after ≡ before) × used)
CountsReadsTo used (Err fault.Write) before after = after ≡ before
CountsReadsTo used (Err fault.Memory) before after = after ≡ before

-- the failures of a writer before and after a call that stops at the first one: one more where it answers Write, else as before
abbrev pub CountsWrites : {A : Type 0} → Result A ServeFault → ℕ → ℕ → Type 0
CountsWrites (Ok x) before after = after ≡ before
CountsWrites (Err fault.Read) before after = after ≡ before
CountsWrites (Err fault.Write) before after = after ≡ before + 1
CountsWrites (Err fault.Memory) before after = after ≡ before
