-- The tokens with which a phrase begins.
use Rattle.std.specs.Prelude.{codes, ℕ, zero, suc, List, [], ◌∷◌, ◌++◌, Bool, true, false, ◌==◌, if◌then◌else◌}
use Rattle.aud_text.specs.Name.{capitals}
use Rattle.aud_lex.specs.declared.token.Kind.{Kind}
use Rattle.aud_lex.specs.declared.token.Kind.TheVariants as kind
use Rattle.aud_lex.specs.Element.{Element}
use Rattle.aud_lex.specs.Kinds.{kind_number}
use Rattle.aud_grammar.specs.Grammar.{Word, Ada, TextIo, Duration, Phrase, Symbol, T, P, W, N, L, Down, A, Opt, Rep, rule}

-- the kind with this number is one of these
abbrev pub among : List Kind → ℕ → Bool
among [] c = false
among (k ∷ ks) c = if c == kind_number k then true else among ks c

-- the next token is of one of these kinds
abbrev pub next_in : List Kind → List Element → Bool
next_in ks [] = false
next_in ks (t ∷ ts) = among ks (kind_number t.kind)

-- how the identifiers are spelled that the grammar names, in capitals, as names are compared (RM 2.3(5))
abbrev pub spelling : Word → List ℕ
spelling Ada = codes "ADA"
spelling TextIo = codes "TEXT_IO"
spelling Duration = codes "DURATION"

-- two texts are the same
abbrev pub same_text : List ℕ → List ℕ → Bool
same_text [] [] = true
same_text [] (y ∷ ys) = false
same_text (x ∷ xs) [] = false
same_text (x ∷ xs) (y ∷ ys) = if x == y then same_text xs ys else false

-- a token is this identifier (RM 2.3(5))
abbrev pub is_spelled : List ℕ → Element → Bool
is_spelled wanted t = if among (kind.Identifier ∷ []) (kind_number t.kind) then same_text (capitals t.text) wanted else false

abbrev pub is_word : Word → Element → Bool
is_word w t = is_spelled (spelling w) t

abbrev pub next_spelled : List ℕ → List Element → Bool
next_spelled wanted [] = false
next_spelled wanted (t ∷ ts) = is_spelled wanted t

abbrev pub next_word : Word → List Element → Bool
next_word w ts = next_spelled (spelling w) ts

-- the kinds with which symbols can begin, given those of the phrases
abbrev pub first_of_all : (Phrase → List Kind) → List Phrase → List Kind
first_of_all first [] = []
first_of_all first (p ∷ ps) = first p ++ first_of_all first ps

abbrev pub first_of : (Phrase → List Kind) → List Symbol → List Kind
first_of first [] = []
first_of first (T k ∷ s) = k ∷ []
first_of first (P k ∷ s) = k ∷ []
first_of first (W w ∷ s) = kind.Identifier ∷ []
first_of first (N p ∷ s) = first p
first_of first (L p ∷ s) = first p
first_of first (Down ∷ s) = first_of first s
first_of first (A ps ∷ s) = first_of_all first ps
first_of first (Opt p ∷ s) = first p ++ first_of first s
first_of first (Rep p ∷ s) = first p ++ first_of first s

-- the same of a phrase, looked at n rules deep
abbrev pub first_within : ℕ → Phrase → List Kind
first_within zero p = []
first_within (suc n) p = first_of (first_within n) (rule p)

-- the kinds with which a phrase can begin
abbrev pub firsts : Phrase → List Kind
firsts = first_within 12
