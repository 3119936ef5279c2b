-- What is proved of the definitions.
use Rattle.std.specs.Prelude.{◌≡◌, ℕ, ◌+◌, ◌<◌, ◌≤◌, List, length, take, ◌↔◌, Result, Ok, Err}
use Rattle.aud_text.specs.declared.limits.TheConstants.{LEVELS}
use Rattle.aud_lex.specs.Element.{Element}
use Rattle.aud_lex.specs.Lexed.{lexed}
use Rattle.aud_syntax.specs.Plain as m
use Rattle.aud_syntax.specs.Why.Bare.{bare}
use Rattle.aud_syntax.specs.Why.Printed.{printed}
use Rattle.aud_grammar.specs.Grammar as g
use Rattle.aud_grammar.specs.Parsed.{Fault, parsed, wrong_at, deep_at}
use Rattle.aud_grammar.specs.Why.Derives.{Viable}
use Rattle.aud_grammar.specs.Why.Spells.{Spells, StopsAt, DeepAt}
use Rattle.aud_grammar.specs.Why.Begun.{Within}
use Rattle.aud_grammar.specs.Why.Alike.{AllAlike, stripped}

-- a tree is read where the tokens spell it
abbrev pub TheSpelled : Type 0
TheSpelled = (ts : List Element) (t : m.Unit) → (parsed ts ≡ Ok t) ↔ Spells ts t

-- tokens spell one tree at most
abbrev pub OneTree : Type 0
OneTree = (ts : List Element) (t u : m.Unit) → Spells ts t → Spells ts u → t ≡ u

-- a syntax fault at this token, or at the end: the tokens before it open no level too many and go on to a program, and with it none goes on
abbrev pub SyntaxFaultAt : List Element → ℕ → Type 0
SyntaxFaultAt ts i = (i ≤ length ts) × StopsAt g.Unit ts i × Within LEVELS (take i ts)

-- a fault of levels at this token: the tokens before it open no level too many, and with it a program goes on, but a level too many is open
abbrev pub LevelFaultAt : List Element → ℕ → Type 0
LevelFaultAt ts i = (i < length ts) × Viable g.Unit (take (i + 1) ts) × Within LEVELS (take i ts) × ¬ Within LEVELS (take (i + 1) ts)

-- a syntax fault stands at the least place where no program goes on, and no level too many is open before it
abbrev pub WrongPlace : Type 0
WrongPlace = (ts : List Element) (i : ℕ) → (parsed ts ≡ Err (wrong_at i)) ↔ SyntaxFaultAt ts i

-- a fault of levels stands at the first token that opens a level too many, and no program goes wrong before it or at it
abbrev pub FirstDeep : Type 0
FirstDeep = (ts : List Element) (i : ℕ) → (parsed ts ≡ Err (deep_at i)) ↔ LevelFaultAt ts i

-- and no program that has no more levels than may be goes on with that token
abbrev pub DeepPlace : Type 0
DeepPlace = (ts : List Element) (i : ℕ) → parsed ts ≡ Err (deep_at i) → DeepAt g.Unit LEVELS ts i

-- what an answer says of the tokens
abbrev pub IsRight : List Element → Result m.Unit Fault → Type 0
IsRight ts (Ok t) = Spells ts t
IsRight ts (Err (wrong_at i)) = SyntaxFaultAt ts i
IsRight ts (Err (deep_at i)) = LevelFaultAt ts i

-- the function answers all tokens rightly, and no other does
abbrev pub OneParser : Type 0
OneParser = ((ts : List Element) → IsRight ts (parsed ts)) × ((f : List Element → Result m.Unit Fault) → ((ts : List Element) → IsRight ts (f ts)) → (ts : List Element) → f ts ≡ parsed ts)

-- what is read does not depend on places, on the case of letters or on how a number or a string is spelled
abbrev pub AlikeRead : Type 0
AlikeRead = (ts us : List Element) → AllAlike ts us → stripped (parsed ts) ≡ stripped (parsed us)

-- the canonical text of a program that is read from a text is read as the same program, but for places
abbrev pub RoundTrip : Type 0
RoundTrip = (source : List ℕ) (ts : List Element) (u : m.Unit) → lexed source ≡ Ok ts → parsed ts ≡ Ok u →
    (us : List Element) × (v : m.Unit) × (lexed (printed u) ≡ Ok us) × (parsed us ≡ Ok v) × (bare v ≡ bare u)

-- two programs that are read from texts and have one canonical text are the same, but for places
abbrev pub OneText : Type 0
OneText = (a b : List ℕ) (ts us : List Element) (u v : m.Unit) → lexed a ≡ Ok ts → lexed b ≡ Ok us → parsed ts ≡ Ok u → parsed us ≡ Ok v →
    printed u ≡ printed v → bare u ≡ bare v
