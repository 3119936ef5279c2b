-- What the class of a byte says of it.
use Rattle.std.proofs.Common.{◌≡◌, ℕ, ◌+◌, ◌<◌, ◌≤◌, Bool, true, false, not, ◌&&◌, ◌||◌, refl, ap, ◌∙◌, sym, arith, ⊎_elim}
use Rattle.std.proofs.lemmas.Bool.{cases_lt, and_parts, and_left, and_right, lt-leb, leb-true, le-leb, and_from, or_right, ne_eqb, eqb-true, agree_below, agree_below_at}
use Rattle.std.proofs.lemmas.Bool.Decides.{nat_tests}
use Rattle.std.specs.Prelude.{◌==◌, nat_le, if◌then◌else◌, Option, Some, None}
use Rattle.aud_lex.specs.declared.automaton.Class.{Class}
use Rattle.aud_lex.specs.declared.automaton.Class.TheVariants.{Letter, Digit, Underscore, Quote, Point, Colon, Equals, Less, Greater, Slash, Star, Control}
use Rattle.aud_lex.specs.Bytes.{between, is_single, class}
use Rattle.aud_lex.specs.Tokens.{small}

abbrev pub is_letter : ℕ → Bool
is_letter b = between 65 b 90 || between 97 b 122

abbrev pub is_digit : ℕ → Bool
is_digit b = between 48 b 57

-- a graphic character that is no quotation mark
abbrev pub is_plain : ℕ → Bool
is_plain b = between 32 b 126 && not (b == 34)

abbrev pub of_plain : Class → Bool
of_plain Quote = false
of_plain Control = false
of_plain _ = true

-- Beyond the last graphic character

equals_above : (n b : ℕ) → n < 127 → 127 ≤ b → (b == n) ≡ false
equals_above n b l h = ne_eqb b n (λ e. omega (arith, e))

between_above : (low high b : ℕ) → high < 127 → 127 ≤ b → between low b high ≡ false
between_above low high b l h = and_right (nat_le low b) (nat_le b high) (lt-leb b high (omega arith))

single_above : (b : ℕ) → 127 ≤ b → is_single b ≡ false
single_above b h =
    let e : between 38 b 41 ≡ false = between_above 38 41 b (omega arith) h in
    let f : between 43 b 45 ≡ false = between_above 43 45 b (omega arith) h in
    let g : (b == 59) ≡ false = equals_above 59 b (omega arith) h in
    let i : (b == 124) ≡ false = equals_above 124 b (omega arith) h in
    cc

pub control_above : (b : ℕ) → 127 ≤ b → class b ≡ Control
control_above b h = grind (arith, between_above, equals_above, single_above)

-- a test of bytes and one of bytes with their classes give one answer
pub agree : (f : ℕ → Bool) (g : Class → ℕ → Bool) → agree_below f (λ b. g (class b) b) 127 ≡ true → ((b : ℕ) → 127 ≤ b → f b ≡ g Control b) → (b : ℕ) → f b ≡ g (class b) b
agree f g low high b =
    ⊎_elim (agree_below_at f (λ b. g (class b) b) 127 b low) (λ h. high b h ∙ ap (λ c. g c b) (sym (control_above b h))) (cases_lt b 127)

pub plains_agree : (b : ℕ) → is_plain b ≡ of_plain (class b)
plains_agree = agree is_plain (λ c b. of_plain c) refl (λ b h. and_left _ _ (between_above 32 126 b (omega arith) h))

pub letter_class : (b : ℕ) → is_letter b ≡ true → class b ≡ Letter
letter_class b e = rw e refl

pub digit_class : (b : ℕ) → is_digit b ≡ true → class b ≡ Digit
digit_class b e = grind (arith, nat_tests)

-- the one byte of a class, where it has one
abbrev pub byte_of : Class → Option ℕ
byte_of Underscore = Some 95
byte_of Quote = Some 34
byte_of Point = Some 46
byte_of Colon = Some 58
byte_of Equals = Some 61
byte_of Less = Some 60
byte_of Greater = Some 62
byte_of Slash = Some 47
byte_of Star = Some 42
byte_of _ = None

abbrev fits_one : Option ℕ → ℕ → Bool
fits_one None b = true
fits_one (Some n) b = b == n

-- whether the byte can be of the class, where that is letters, digits or one byte
abbrev fits : Class → ℕ → Bool
fits Letter b = is_letter b
fits Digit b = is_digit b
fits c b = fits_one (byte_of c) b

fits_class : (b : ℕ) (c : Class) → class b ≡ c → fits c b ≡ true
fits_class b c e = ap (λ x. fits x b) (sym e) ∙ sym (agree (λ b. true) fits refl (λ b h. refl) b)

pub letter_of : (b : ℕ) → class b ≡ Letter → is_letter b ≡ true
letter_of b e = fits_class b Letter e

pub digit_of : (b : ℕ) → class b ≡ Digit → is_digit b ≡ true
digit_of b e = fits_class b Digit e

one_fits : (b n : ℕ) (c : Class) → byte_of c ≡ Some n → fits c b ≡ true → b ≡ n
one_fits b n Letter o f = cc
one_fits b n Digit o f = cc
one_fits b n c o f = eqb-true b n (ap (λ t. fits_one t b) (sym o) ∙ f)

pub byte_is : (b : ℕ) (c : Class) {n : ℕ} → class b ≡ c → byte_of c ≡ Some n → b ≡ n
byte_is b c {n} e o = one_fits b n c o (fits_class b c e)

-- capitals have the class of their small letters
pub small_class : (b : ℕ) → class (small b) ≡ class b
small_class b = under (nat_le 65 b && nat_le b 90) refl
  where
    under : (t : Bool) → (nat_le 65 b && nat_le b 90) ≡ t → class (if t then b + 32 else b) ≡ class b
    under false e = refl
    under true e =
        let k = and_parts (nat_le 65 b) (nat_le b 90) e in
        letter_class (b + 32) (or_right (between 65 (b + 32) 90) (between 97 (b + 32) 122)
        (and_from _ _ (le-leb 97 (b + 32) (omega (arith, leb-true 65 b k.0))) (le-leb (b + 32) 122 (omega (arith, leb-true b 90 k.1)))))
        ∙ sym (letter_class b (ap (λ t. t || between 97 b 122) e))
