-- The lines of a stream of bytes, and the words and numbers of a line.
use Rattle.std.specs.Prelude.{ℕ, ◌+◌, ◌-◌, ◌*◌, List, [], ◌∷◌, length, reverse, Option, Some, None, ◌==◌, nat_le, ◌&&◌, if◌then◌else◌}

-- the first line of the bytes goes on with a byte
abbrev pub onto_line : ℕ → List (List ℕ) → List (List ℕ)
onto_line byte [] = []
onto_line byte (line ∷ lines) = (byte ∷ line) ∷ lines

-- the lines that a line feed ends, without it; what follows the last line feed is no line
abbrev pub lines_of : List ℕ → List (List ℕ)
lines_of [] = []
lines_of (byte ∷ bytes) = if byte == 10 then [] ∷ lines_of bytes else onto_line byte (lines_of bytes)

-- from the end of a line: one carriage return, then spaces
abbrev pub without_return : List ℕ → List ℕ
without_return [] = []
without_return (byte ∷ bytes) = if byte == 13 then bytes else byte ∷ bytes

abbrev pub without_spaces : List ℕ → List ℕ
without_spaces [] = []
without_spaces (byte ∷ bytes) = if byte == 32 then without_spaces bytes else byte ∷ bytes

-- the line without what is dropped at its end
abbrev pub trimmed : List ℕ → List ℕ
trimmed line = reverse (without_spaces (without_return (reverse line)))

-- a byte in front of the first word
abbrev pub onto_word : ℕ → List (List ℕ) → List (List ℕ)
onto_word byte [] = (byte ∷ []) ∷ []
onto_word byte (word ∷ words) = (byte ∷ word) ∷ words

-- the pieces between spaces, empty ones among them
abbrev pub pieces : List ℕ → List (List ℕ)
pieces [] = [] ∷ []
pieces (byte ∷ bytes) = if byte == 32 then [] ∷ pieces bytes else onto_word byte (pieces bytes)

abbrev pub without_empty : List (List ℕ) → List (List ℕ)
without_empty [] = []
without_empty ([] ∷ words) = without_empty words
without_empty ((byte ∷ bytes) ∷ words) = (byte ∷ bytes) ∷ without_empty words

-- the words of a line, which spaces separate
abbrev pub words_of : List ℕ → List (List ℕ)
words_of line = without_empty (pieces line)

-- the value of decimal digits behind others of this value, if all are digits
abbrev pub digits_value : ℕ → List ℕ → Option ℕ
digits_value value [] = Some value
digits_value value (byte ∷ bytes) = if nat_le 48 byte && nat_le byte 57 then digits_value (10 * value + (byte - 48)) bytes else None

-- a number of 1 to 10 decimal digits
abbrev pub number_of : List ℕ → Option ℕ
number_of [] = None
number_of (byte ∷ bytes) = if nat_le (length bytes) 9 then digits_value 0 (byte ∷ bytes) else None
