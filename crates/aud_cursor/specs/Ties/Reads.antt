-- What a function of the parser promises.
use Rattle.std.specs.Prelude.{◌≡◌, ℕ, ◌+◌, ◌<◌, ◌≤◌, List, [], ◌∷◌, ◌++◌, length, Bool, true, false, if◌then◌else◌, Option, Some, None, Result, Ok, Err, IfOk, IfSome}
use Rattle.std.specs.Borrow.{Bor}
use Rattle.aud_lex.specs.Element.{Element}
use Rattle.aud_lex.specs.declared.token.Kind.{Kind}
use Rattle.aud_grammar.specs.Grammar.{Word, Phrase, Symbol, T, P, W, N}
use Rattle.aud_grammar.specs.First.{next_in, firsts}
use Rattle.aud_grammar.specs.Actions.{Item, token}
use Rattle.aud_grammar.specs.Parsed.{Verdict, Wrong, Deep}
use Rattle.aud_grammar.specs.Ties.Outcome.{Out, Fails}
use Rattle.aud_cursor.specs.declared.cursor.Rest.{Rest}
use Rattle.aud_cursor.specs.declared.cursor.Fault.{Fault}
use Rattle.aud_cursor.specs.declared.cursor.Fault.TheVariants as fault

-- from the symbol and the tokens one comes, with these items more, to the rest of the tokens, whatever symbols follow
abbrev pub Passes : Symbol → ℕ → List Element → (List Item → List Item) → ℕ → List Element → Type 0
Passes s r ts f r' ts' = (k : List Symbol) (ds : List Item) (v : Verdict) → Out k r' ts' ds v → Out (s ∷ k) r ts (f ds) v

-- reading by the symbol fails so, whatever symbols follow; where memory is refused, nothing is said
abbrev pub FailsAt : Symbol → ℕ → List Element → Fault → Type 0
FailsAt s r ts fault.Memory = Unit {0}
FailsAt s r ts (fault.Wrong rest) = (k : List Symbol) → Fails (s ∷ k) r ts (Wrong rest.tokens.now)
FailsAt s r ts (fault.Deep rest) = (k : List Symbol) → Fails (s ∷ k) r ts (Deep rest.tokens.now)

-- the same of several symbols
abbrev pub FailsIn : List Symbol → ℕ → List Element → Fault → Type 0
FailsIn s r ts fault.Memory = Unit {0}
FailsIn s r ts (fault.Wrong rest) = (k : List Symbol) → Fails (s ++ k) r ts (Wrong rest.tokens.now)
FailsIn s r ts (fault.Deep rest) = (k : List Symbol) → Fails (s ++ k) r ts (Deep rest.tokens.now)

-- a tree is read by the symbol, or reading fails
abbrev pub Comes : {X : Type 0} → (X → Item) → Symbol → ℕ → Rest → Result (X × Rest) Fault → Type 0
Comes f s room start (Ok p) = Passes s room start.tokens.now (λ ds. f p.0 ∷ ds) room p.1.tokens.now
Comes f s room start (Err e) = FailsAt s room start.tokens.now e

-- one token at least is passed; or none need be
abbrev pub Fewer : Rest → Rest → Type 0
Fewer rest start = length rest.tokens.now < length start.tokens.now

abbrev pub NoMore : Rest → Rest → Type 0
NoMore rest start = length rest.tokens.now ≤ length start.tokens.now

-- a tree is read with room for this number of levels, and the tokens after it are as few as Left says
pub record Reading {X : Type 0} (Left : Rest → Rest → Type 0) (f : X → Item) (s : Symbol) (room : ℕ) (start : Rest) (result : Result (X × Rest) Fault) : Type 0 where
  pub reads : Comes f s room start result
  pub shorter : IfOk result (λ p. Left p.1 start)

abbrev pub Reads : {X : Type 0} → (X → Item) → Symbol → ℕ → Rest → Result (X × Rest) Fault → Type 0
Reads f s room start result = Reading Fewer f s room start result

abbrev pub MayRead : {X : Type 0} → (X → Item) → Symbol → ℕ → Rest → Result (X × Rest) Fault → Type 0
MayRead f s room start result = Reading NoMore f s room start result

-- what the symbols read is made into a tree, with what was read before it; or reading fails
abbrev pub Completing : {X : Type 0} → (List Item → List Item) → (X → Item) → List Symbol → ℕ → Rest → Result (X × Rest) Fault → Type 0
Completing make f s room start (Ok p) =
    (k : List Symbol) (ds : List Item) (v : Verdict) → Out k room p.1.tokens.now ds v → (es : List Item) × Out (s ++ k) room start.tokens.now es v × (make es ≡ f p.0 ∷ ds)
Completing make f s room start (Err e) = FailsIn s room start.tokens.now e

-- the tree, and the tokens after it
pub record Completes {X : Type 0} (make : List Item → List Item) (f : X → Item) (s : List Symbol) (room : ℕ) (start : Rest) (result : Result (X × Rest) Fault) : Type 0 where
  pub reads : Completing make f s room start result
  pub shorter : IfOk result (λ p. Fewer p.1 start)

-- the symbols read these items, one each; or reading fails
abbrev pub ComesAll : {X : Type 0} → (X → List Item) → List Symbol → ℕ → Rest → Result (X × Rest) Fault → Type 0
ComesAll f s room start (Ok p) = (k : List Symbol) (ds : List Item) (v : Verdict) → Out k room p.1.tokens.now ds v → Out (s ++ k) room start.tokens.now (f p.0 ++ ds) v
ComesAll f s room start (Err e) = FailsIn s room start.tokens.now e

-- several trees, and the tokens after them
pub record ReadsAll {X : Type 0} (f : X → List Item) (s : List Symbol) (room : ℕ) (start : Rest) (result : Result (X × Rest) Fault) : Type 0 where
  pub reads : ComesAll f s room start result
  pub shorter : IfOk result (λ p. Fewer p.1 start)

-- a tree is read by a symbol that opens no level, with any room
pub record FlatReading {X : Type 0} (Left : Rest → Rest → Type 0) (f : X → Item) (s : Symbol) (start : Rest) (result : Result (X × Rest) Fault) : Type 0 where
  pub reads : (room : ℕ) → Comes f s room start result
  pub shorter : IfOk result (λ p. Left p.1 start)

abbrev pub ReadsFlat : {X : Type 0} → (X → Item) → Symbol → Rest → Result (X × Rest) Fault → Type 0
ReadsFlat f s start result = FlatReading Fewer f s start result

abbrev pub MayReadFlat : {X : Type 0} → (X → Item) → Symbol → Rest → Result (X × Rest) Fault → Type 0
MayReadFlat f s start result = FlatReading NoMore f s start result

-- a token of this kind, and the tokens after it
abbrev pub ReadsToken : Kind → Rest → Result (Bor Element × Rest) Fault → Type 0
ReadsToken c start result = ReadsFlat (λ t. token t.now) (P c) start result

-- the symbol is passed, of which the tree keeps nothing, or reading fails
abbrev pub ComesBehind : Symbol → Rest → Result Rest Fault → Type 0
ComesBehind s start (Ok rest) = (room : ℕ) → Passes s room start.tokens.now (λ ds. ds) room rest.tokens.now
ComesBehind s start (Err e) = (room : ℕ) → FailsAt s room start.tokens.now e

-- the tokens after the symbol
pub record ReadsPast (s : Symbol) (start : Rest) (result : Result Rest Fault) : Type 0 where
  pub reads : ComesBehind s start result
  pub shorter : IfOk result (λ rest. Fewer rest start)

-- the tokens after a word
abbrev pub ReadsWord : Kind → Rest → Result Rest Fault → Type 0
ReadsWord c start result = ReadsPast (T c) start result

-- an identifier that the grammar names, and the tokens after it
abbrev pub ReadsSpelled : Word → Rest → Result (Bor Element × Rest) Fault → Type 0
ReadsSpelled w start result = ReadsFlat (λ t. token t.now) (W w) start result

-- the next token is of this kind, or of another
abbrev pub NextIs : Kind → Rest → Option (Bor Element × Rest) → Type 0
NextIs c start None = next_in (c ∷ []) start.tokens.now ≡ false
NextIs c start (Some p) = (next_in (c ∷ []) start.tokens.now ≡ true) × (start.tokens.now ≡ p.0.now ∷ p.1.tokens.now)

-- the next token, if it is of this kind, and the tokens after it
pub record Accepts (c : Kind) (start : Rest) (result : Option (Bor Element × Rest)) : Type 0 where
  pub reads : NextIs c start result
  pub shorter : IfSome result (λ p. Fewer p.1 start)

-- what stands beside the first kind that the next token is of, if it is of one of them
pub data Chosen {X : Type 0} : List (Kind × X) → List Element → Option X → Type 0 where
  c_none : {ts : List Element} → Chosen [] ts None
  c_this : {e : Kind × X} {table : List (Kind × X)} {ts : List Element} → next_in (e.0 ∷ []) ts ≡ true → Chosen (e ∷ table) ts (Some e.1)
  c_other : {e : Kind × X} {table : List (Kind × X)} {ts : List Element} {x : Option X} → next_in (e.0 ∷ []) ts ≡ false → Chosen table ts x → Chosen (e ∷ table) ts x

abbrev pub Choosing : {X : Type 0} → List (Kind × X) → Rest → Option (X × Bor Element × Rest) → Type 0
Choosing table start None = Chosen table start.tokens.now None
Choosing table start (Some p) = Chosen table start.tokens.now (Some p.0) × (start.tokens.now ≡ p.1.now ∷ p.2.tokens.now)

-- the same with the token, and the tokens after it
pub record Chooses {X : Type 0} (table : List (Kind × X)) (start : Rest) (result : Option (X × Bor Element × Rest)) : Type 0 where
  pub reads : Choosing table start result
  pub shorter : IfSome result (λ p. Fewer p.2 start)

-- the next token begins the phrase, of which a tree is read, or it does not
abbrev pub Taken : {X : Type 0} → (X → Item) → Phrase → Rest → Option (X × Rest) → Type 0
Taken f p start None = next_in (firsts p) start.tokens.now ≡ false
Taken f p start (Some x) =
    (next_in (firsts p) start.tokens.now ≡ true) × ((room : ℕ) → Passes (N p) room start.tokens.now (λ ds. f x.0 ∷ ds) room x.1.tokens.now)

-- a tree, if the next token begins the phrase, and the tokens after it
pub record Takes {X : Type 0} (f : X → Item) (p : Phrase) (start : Rest) (result : Option (X × Rest)) : Type 0 where
  pub reads : Taken f p start result
  pub shorter : IfSome result (λ x. Fewer x.1 start)

-- what is there of a symbol that needs no token, and the tokens after it
pub record TakesAny {X : Type 0} (f : X → Item) (s : Symbol) (start : Rest) (result : X × Rest) : Type 0 where
  pub reads : (room : ℕ) → Passes s room start.tokens.now (λ ds. f result.0 ∷ ds) room result.1.tokens.now
  pub shorter : NoMore result.1 start

-- one more level is opened, which leaves room for this number in it; or there is no room, and the token is at fault
abbrev pub Deepens : ℕ → Bool → Rest → Result ℕ Fault → Type 0
Deepens room begins start (Ok inside) = room ≡ inside + 1
Deepens room begins start (Err e) = (room ≡ 0) × (e ≡ (if begins then fault.Deep start else fault.Wrong start))
