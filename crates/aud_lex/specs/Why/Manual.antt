-- The lexical elements as the manual says them (RM 2.2 to 2.9): syntax rules over whole texts. What reads a text is the automaton
-- of `Tokens`; it accepts exactly these texts, each as the kind that it has here (`TokensAreElements` in `Laws`).
-- Not in the language: character literals, exponents and based literals (RM 2.4.1, 2.4.2, 2.5).
use Rattle.std.specs.Prelude.{◌≡◌, ◌⊎◌, ℕ, List, [], ◌∷◌, ◌++◌, map, Bool, true, not, ◌==◌, ◌&&◌, ◌||◌, codes}
use Rattle.std.specs.List.{Contains}
use Prim.Native.String.{String}
use Rattle.aud_lex.specs.declared.token.Kind.{Kind}
use Rattle.aud_lex.specs.declared.token.Kind.TheVariants as kind
use Rattle.aud_lex.specs.Bytes.{between}
use Rattle.aud_lex.specs.Kinds.{spelled, reserved, delimiters}
use Rattle.aud_lex.specs.Tokens.{small}

-- Notation (RM 1.1.4): what a rule says of a text

-- these very characters
abbrev pub The : String → List ℕ → Type 0
The characters text = text ≡ codes characters

-- one character of which this is true
abbrev pub One : (ℕ → Bool) → List ℕ → Type 0
One test text = (c : ℕ) × (test c ≡ true) × (text ≡ c ∷ [])

abbrev pub Anything : List ℕ → Type 0
Anything text = Unit {0}

-- one behind the other
infixr 30 ◌then◌
abbrev pub ◌then◌ : (List ℕ → Type 0) → (List ℕ → Type 0) → List ℕ → Type 0
◌then◌ A B text = (front : List ℕ) × (rest : List ℕ) × (text ≡ front ++ rest) × A front × B rest

-- A | B
infixr 20 ◌or◌
abbrev pub ◌or◌ : (List ℕ → Type 0) → (List ℕ → Type 0) → List ℕ → Type 0
◌or◌ A B text = A text ⊎ B text

-- [A]
abbrev pub Optional : (List ℕ → Type 0) → List ℕ → Type 0
Optional A text = (text ≡ []) ⊎ A text

-- {A}
pub data Repeated (A : List ℕ → Type 0) : List ℕ → Type 0 where
  never : Repeated A []
  again : (front rest : List ℕ) → A front → Repeated A rest → Repeated A (front ++ rest)

-- Characters (RM 2.1)

-- A to Z and a to z
abbrev pub Letter : List ℕ → Type 0
Letter = One (λ c. between 65 c 90 || between 97 c 122)

-- 0 to 9
abbrev pub Digit : List ℕ → Type 0
Digit = One (λ c. between 48 c 57)

abbrev pub Underline : List ℕ → Type 0
Underline = The "_"

-- identifier ::= identifier_start {identifier_start | identifier_extend}; two underlines do not follow each other, and none is
-- the last character (RM 2.3)
abbrev pub Identifier : List ℕ → Type 0
Identifier text =
    (Letter then Repeated (Letter or Digit or Underline)) text
    × ((Anything then The "__" then Anything) text → ⊥)
    × ((Anything then The "_") text → ⊥)

-- one of the list, where some or all of its letters may be in upper case (RM 2.9(2, 3))
abbrev pub ReservedWord : Kind → List ℕ → Type 0
ReservedWord k text = Contains reserved (spelled (map small text) k)

-- numeral ::= digit {[underline] digit} (RM 2.4.1(3))
abbrev pub Numeral : List ℕ → Type 0
Numeral = Digit then Repeated (Optional Underline then Digit)

-- decimal_literal ::= numeral [.numeral]: a real literal has a point, an integer literal has none (RM 2.4(1), 2.4.1(2))
abbrev pub IntegerLiteral : List ℕ → Type 0
IntegerLiteral = Numeral

abbrev pub RealLiteral : List ℕ → Type 0
RealLiteral = Numeral then The "." then Numeral

-- string_element ::= "" | non_quotation_mark_graphic_character (RM 2.6(3)); graphic characters are the space to the tilde
abbrev pub StringElement : List ℕ → Type 0
StringElement = The "\"\"" or One (λ c. between 32 c 126 && not (c == 34))

-- string_literal ::= "{string_element}" (RM 2.6(2))
abbrev pub StringLiteral : List ℕ → Type 0
StringLiteral = The "\"" then Repeated StringElement then The "\""

-- a delimiter or compound delimiter of the list (RM 2.2)
abbrev pub Delimiter : Kind → List ℕ → Type 0
Delimiter k text = Contains delimiters (spelled text k)

-- a lexical element, and its kind (RM 2.2(1))
pub data IsElement (text : List ℕ) : Kind → Type 0 where
  -- no identifier is a reserved word (RM 2.3)
  identifier : Identifier text → ((k : Kind) → ReservedWord k text → ⊥) → IsElement text kind.Identifier
  reserved_word : (k : Kind) → ReservedWord k text → IsElement text k
  integer : IntegerLiteral text → IsElement text kind.Integer
  real : RealLiteral text → IsElement text kind.Real
  string : StringLiteral text → IsElement text kind.Text
  delimiter : (k : Kind) → Delimiter k text → IsElement text k

-- Between lexical elements

-- a line feed; a carriage return before it is dropped (RM 2.2(2))
abbrev pub EndOfLine : List ℕ → Type 0
EndOfLine = The "\n" or The "\r\n"

-- a space, a tab or the end of a line (RM 2.2(3 to 6))
abbrev pub Separator : List ℕ → Type 0
Separator = The " " or The "\t" or EndOfLine

-- a tab, or a graphic character
abbrev pub CommentCharacter : List ℕ → Type 0
CommentCharacter = One (λ c. c == 9 || between 32 c 126)

-- comment ::= --{non_end_of_line_character} (RM 2.7(2))
abbrev pub Comment : List ℕ → Type 0
Comment = The "--" then Repeated CommentCharacter

-- between two lexical elements: separators, and comments up to the end of their lines
abbrev pub Between : List ℕ → Type 0
Between = Repeated (Separator or Comment then EndOfLine)

-- behind the last one, where the text may end in a comment
abbrev pub BehindLast : List ℕ → Type 0
BehindLast = Between then Optional Comment
