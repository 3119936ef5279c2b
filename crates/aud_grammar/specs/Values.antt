-- What a numeric literal and a string literal stand for.
use Rattle.std.specs.Prelude.{ℕ, ◌+◌, ◌*◌, ◌-◌, ℤ, pos, List, [], ◌∷◌, drop, Bool, true, false, ◌==◌, nat_le, ◌&&◌, not, if◌then◌else◌, Option, Some, None}

-- one more digit in base ten; an underscore does not count (RM 2.4.1(4, 5))
abbrev pub with_digit : ℕ → ℕ → ℕ
with_digit value byte = if byte == 95 then value else value * 10 + (byte - 48)

-- the value of digits behind those read so far
abbrev pub digits_value : ℕ → List ℕ → ℕ
digits_value before [] = before
digits_value before (byte ∷ bytes) = digits_value (with_digit before byte) bytes

-- the value of a whole number, where it is one of the type Integer (RM 2.4.1(5), 3.5.4)
abbrev pub number_value : List ℕ → Option ℤ
number_value text = if nat_le (digits_value 0 text) 2147483647 then Some (pos (digits_value 0 text)) else None

-- the digits of a real number before and behind its point; underscores do not count (RM 2.4.1(4, 5))
abbrev pub before_point : List ℕ → List ℕ
before_point [] = []
before_point (byte ∷ bytes) = if byte == 46 then [] else byte ∷ before_point bytes

abbrev pub behind_point : List ℕ → List ℕ
behind_point [] = []
behind_point (byte ∷ bytes) = if byte == 46 then bytes else behind_point bytes

abbrev pub only_digits : List ℕ → List ℕ
only_digits [] = []
only_digits (byte ∷ bytes) = if byte == 95 then only_digits bytes else byte ∷ only_digits bytes

-- at most three digits, in thousandths
abbrev pub thousandths : List ℕ → Option ℕ
thousandths [] = Some 0
thousandths (a ∷ []) = Some (with_digit 0 a * 100)
thousandths (a ∷ b ∷ []) = Some (with_digit (with_digit 0 a) b * 10)
thousandths (a ∷ b ∷ c ∷ []) = Some (with_digit (with_digit (with_digit 0 a) b) c)
thousandths (a ∷ b ∷ c ∷ d ∷ bytes) = None

-- the whole part of a real number, where it is one of the type Integer, and what stands behind its point
abbrev pub whole_part : List ℕ → Option ℤ
whole_part text = number_value (before_point text)

abbrev pub decimals : List ℕ → Option ℕ
decimals text = thousandths (only_digits (behind_point text))

-- of two quotes in a string literal one is a character (RM 2.6(4, 5)): a quote is left out, except the second of two
abbrev pub is_left_out : ℕ → Bool → Bool
is_left_out byte behind_quote = byte == 34 && not behind_quote

-- the characters behind the quote that opens a string literal
abbrev pub inner : Bool → List ℕ → List ℕ
inner behind_quote [] = []
inner behind_quote (byte ∷ bytes) = if is_left_out byte behind_quote then inner true bytes else byte ∷ inner false bytes

-- the characters of a string literal
abbrev pub unquoted : List ℕ → List ℕ
unquoted text = inner false (drop 1 text)
