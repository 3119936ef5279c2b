-- Each token is a lexical element of the manual.
use Rattle.std.proofs.Common.{◌≡◌, ◌⊎◌, ℕ, List, [], ◌∷◌, ◌++◌, map, Bool, true, false, not, ◌||◌, refl, ap, ◌∙◌, sym, subst, inl, inr, ⊎_elim, append_assoc}
use Rattle.std.proofs.lemmas.Bool.{true≢false}
use Rattle.std.specs.Prelude.{Some, codes}
use Prim.Native.String.{String}
use Rattle.aud_lex.specs.declared.token.Kind.{Kind}
use Rattle.aud_lex.specs.declared.token.Kind.TheVariants as kind
use Rattle.aud_lex.specs.declared.automaton.Class.{Class}
use Rattle.aud_lex.specs.declared.automaton.Class.TheVariants as class
use Rattle.aud_lex.specs.declared.automaton.State.{State}
use Rattle.aud_lex.specs.declared.automaton.State.TheVariants.{Start, Dead, InWord, WordUnderscore, InNumber, NumberUnderscore, AfterPoint, InDecimals, DecimalsUnderscore, InString, BehindQuote, Whole}
use Rattle.aud_lex.specs.Bytes as bytes
use Rattle.aud_lex.specs.Kinds.{reserved, delimiters}
use Rattle.aud_lex.specs.Tokens.{run, step, accepts, is_token, kind_of, kind_in, found, small}
use Rattle.aud_lex.specs.Why.Manual.{The, Optional, ◌then◌, ◌or◌, Repeated, never, again, Letter, Digit, Underline, Numeral, StringElement, IsElement, identifier, reserved_word, integer, real, string, delimiter}
use Rattle.aud_lex.specs.Why.Laws.{TokensAreElements, IsNone, Examples}
use Rattle.aud_lex.proofs.Fronts.{run_dead}
use Rattle.aud_lex.proofs.Characters.{is_plain, of_plain, agree, plains_agree, letter_of, digit_of, byte_of, byte_is}
use Rattle.aud_lex.proofs.Listed.{found_or_not, is_listed, listed}
use Rattle.aud_lex.proofs.Derived.{Apart, word_state, before, in_delimiter, delimiter_state, element_is_token}

dead_refuses : (x : List ℕ) → accepts (run Dead x) ≡ true → ⊥
dead_refuses x a = true≢false (sym a ∙ ap accepts (run_dead x))

-- one more in front of the repeated ones
pub longer : (A B : List ℕ → Type 0) (front x : List ℕ) → A front → (Repeated A then B) x → (Repeated A then B) (front ++ x)
longer A B front x a h = (front ++ h.0, h.1, ap (λ z. front ++ z) h.2 ∙ sym (append_assoc front h.0 h.1), again front h.0 a h.3, h.4)

-- a fact of the two states of a rule, shown byte by byte
by_bytes : (P : Bool → List ℕ → Type 0) → P true [] → P false [] → ((u : Bool) (b : ℕ) (x : List ℕ) → P false x → P true x → P u (b ∷ x)) → (u : Bool) (x : List ℕ) → P u x
by_bytes P t f goes true [] = t
by_bytes P t f goes false [] = f
by_bytes P t f goes u (b ∷ x) = goes u b x (by_bytes P t f goes false x) (by_bytes P t f goes true x)

-- Numbers

abbrev More : List ℕ → Type 0
More = Optional Underline then Digit

digit_more : (b : ℕ) → bytes.class b ≡ class.Digit → More (b ∷ [])
digit_more b e = ([], b ∷ [], refl, inl refl, (b, digit_of b e, refl))

underlined_more : (b : ℕ) → bytes.class b ≡ class.Digit → More (95 ∷ b ∷ [])
underlined_more b e = (95 ∷ [], b ∷ [], refl, inr refl, (b, digit_of b e, refl))

abbrev decimals_state : Bool → State
decimals_state true = DecimalsUnderscore
decimals_state false = InDecimals

abbrev Decimals : Bool → List ℕ → Type 0
Decimals u x = accepts (run (decimals_state u) x) ≡ true → Repeated More (before u ++ x) × (run (decimals_state u) x ≡ InDecimals)

decimal : (u : Bool) (b : ℕ) (x : List ℕ) (c : Class) → bytes.class b ≡ c → Decimals false x → Decimals true x → accepts (run (step (decimals_state u) c) x) ≡ true →
    Repeated More (before u ++ (b ∷ x)) × (run (step (decimals_state u) c) x ≡ InDecimals)
decimal true b x class.Digit e f g a = let k = f a in (again (95 ∷ b ∷ []) x (underlined_more b e) k.0, k.1)
decimal false b x class.Digit e f g a = let k = f a in (again (b ∷ []) x (digit_more b e) k.0, k.1)
decimal false b x class.Underscore e f g a = let k = g a in (subst (λ z. Repeated More (z ∷ x)) (sym (byte_is b class.Underscore e refl)) k.0, k.1)
decimal true b x _ e f g a = absurd (dead_refuses x a)
decimal false b x _ e f g a = absurd (dead_refuses x a)

decimals : (u : Bool) (x : List ℕ) → Decimals u x
decimals = by_bytes Decimals (λ a. cc) (λ a. (never, refl)) (λ u b x. decimal u b x (bytes.class b) refl)

-- the numeral behind the point
behind_point : (x : List ℕ) → accepts (run AfterPoint x) ≡ true → Numeral x × (run AfterPoint x ≡ InDecimals)
behind_point [] a = cc
behind_point (b ∷ x) a = under (bytes.class b) refl a
  where
    under : (c : Class) → bytes.class b ≡ c → accepts (run (step AfterPoint c) x) ≡ true → Numeral (b ∷ x) × (run (step AfterPoint c) x ≡ InDecimals)
    under class.Digit e d = let k = decimals false x d in ((b ∷ [], x, refl, (b, digit_of b e, refl), k.0), k.1)
    under _ e d = absurd (dead_refuses x d)

abbrev number_state : Bool → State
number_state true = NumberUnderscore
number_state false = InNumber

-- digits alone, or digits and decimals
abbrev NumberRest : List ℕ → State → Type 0
NumberRest x s = (Repeated More x × (s ≡ InNumber)) ⊎ ((Repeated More then The "." then Numeral) x × (s ≡ InDecimals))

abbrev Numbers : Bool → List ℕ → Type 0
Numbers u x = accepts (run (number_state u) x) ≡ true → NumberRest (before u ++ x) (run (number_state u) x)

longer_number : (front x : List ℕ) (s : State) → More front → NumberRest x s → NumberRest (front ++ x) s
longer_number front x s m h = ⊎_elim (λ k. inl (again front x m k.0, k.1)) (λ k. inr (longer More (The "." then Numeral) front x m k.0, k.1)) h

number : (u : Bool) (b : ℕ) (x : List ℕ) (c : Class) → bytes.class b ≡ c → Numbers false x → Numbers true x → accepts (run (step (number_state u) c) x) ≡ true →
    NumberRest (before u ++ (b ∷ x)) (run (step (number_state u) c) x)
number true b x class.Digit e f g a = longer_number (95 ∷ b ∷ []) x _ (underlined_more b e) (f a)
number false b x class.Digit e f g a = longer_number (b ∷ []) x _ (digit_more b e) (f a)
number false b x class.Underscore e f g a = subst (λ z. NumberRest (z ∷ x) (run NumberUnderscore x)) (sym (byte_is b class.Underscore e refl)) (g a)
number false b x class.Point e f g a =
    let k = behind_point x a in
    inr (([], b ∷ x, refl, never, (b ∷ [], x, refl, ap (λ z. z ∷ []) (byte_is b class.Point e refl), k.0)), k.1)
number true b x _ e f g a = absurd (dead_refuses x a)
number false b x _ e f g a = absurd (dead_refuses x a)

numbers : (u : Bool) (x : List ℕ) → Numbers u x
numbers = by_bytes Numbers (λ a. cc) (λ a. inl (never, refl)) (λ u b x. number u b x (bytes.class b) refl)

-- the kind of a text is that of the state that it leads to
abbrev In : State → List ℕ → Type 0
In s text = IsElement text (kind_in s text)

number_element : (b : ℕ) (x : List ℕ) → bytes.class b ≡ class.Digit → accepts (run InNumber x) ≡ true → In (run InNumber x) (b ∷ x)
number_element b x e a = ⊎_elim
    (λ k. subst (λ s. In s (b ∷ x)) (sym k.1) (integer (b ∷ [], x, refl, digit, k.0)))
    (λ k. let w = k.0 in subst (λ s. In s (b ∷ x)) (sym k.1) (real (b ∷ w.0, w.1, ap (λ z. b ∷ z) w.2, (b ∷ [], w.0, refl, digit, w.3), w.4))) (numbers false x a)
  where
    digit : Digit (b ∷ [])
    digit = (b, digit_of b e, refl)

-- Strings

abbrev string_state : Bool → State
string_state true = BehindQuote
string_state false = InString

-- behind a quotation mark that is the first of two or the last, or not
abbrev quote_before : Bool → List ℕ
quote_before true = 34 ∷ []
quote_before false = []

abbrev StringRest : List ℕ → Type 0
StringRest = Repeated StringElement then The "\""

abbrev Strings : Bool → List ℕ → Type 0
Strings u x = accepts (run (string_state u) x) ≡ true → StringRest (quote_before u ++ x) × (run (string_state u) x ≡ BehindQuote)

in_text : (u : Bool) (b : ℕ) (x : List ℕ) (c : Class) → bytes.class b ≡ c → is_plain b ≡ of_plain c → Strings false x → Strings true x →
    accepts (run (step (string_state u) c) x) ≡ true → StringRest (quote_before u ++ (b ∷ x)) × (run (step (string_state u) c) x ≡ BehindQuote)
in_text true b x class.Quote e p f g a =
    let k = f a in
    (subst (λ z. StringRest (34 ∷ z ∷ x)) (sym (byte_is b class.Quote e refl)) (longer StringElement (The "\"") (34 ∷ 34 ∷ []) x (inl refl) k.0), k.1)
in_text false b x class.Quote e p f g a = let k = g a in (subst (λ z. StringRest (z ∷ x)) (sym (byte_is b class.Quote e refl)) k.0, k.1)
in_text false b x class.Control e p f g a = absurd (dead_refuses x a)
in_text true b x _ e p f g a = absurd (dead_refuses x a)
in_text false b x _ e p f g a = let k = f a in (longer StringElement (The "\"") (b ∷ []) x (inr (b, p, refl)) k.0, k.1)

strings : (u : Bool) (x : List ℕ) → Strings u x
strings = by_bytes Strings (λ a. (([], 34 ∷ [], refl, never, refl), refl)) (λ a. cc) (λ u b x. in_text u b x (bytes.class b) refl (plains_agree b))

string_element : (b : ℕ) (x : List ℕ) → bytes.class b ≡ class.Quote → accepts (run InString x) ≡ true → In (run InString x) (b ∷ x)
string_element b x e a =
    let k = strings false x a in
    subst (λ s. In s (b ∷ x)) (sym k.1) (string (b ∷ [], x, refl, ap (λ z. z ∷ []) (byte_is b class.Quote e refl), k.0))

-- Identifiers and reserved words

abbrev WordRest : List ℕ → Type 0
WordRest = Repeated (Letter or Digit or Underline)

abbrev Words : Bool → List ℕ → Type 0
Words u x = accepts (run (word_state u) x) ≡ true → WordRest x × (run (word_state u) x ≡ InWord)

word : (u : Bool) (b : ℕ) (x : List ℕ) (c : Class) → bytes.class b ≡ c → Words false x → Words true x → accepts (run (step (word_state u) c) x) ≡ true →
    WordRest (b ∷ x) × (run (step (word_state u) c) x ≡ InWord)
word true b x class.Letter e f g a = let k = f a in (again (b ∷ []) x (inl (b, letter_of b e, refl)) k.0, k.1)
word false b x class.Letter e f g a = let k = f a in (again (b ∷ []) x (inl (b, letter_of b e, refl)) k.0, k.1)
word true b x class.Digit e f g a = let k = f a in (again (b ∷ []) x (inr (inl (b, digit_of b e, refl))) k.0, k.1)
word false b x class.Digit e f g a = let k = f a in (again (b ∷ []) x (inr (inl (b, digit_of b e, refl))) k.0, k.1)
word false b x class.Underscore e f g a =
    let k = g a in
    (again (b ∷ []) x (inr (inr (ap (λ z. z ∷ []) (byte_is b class.Underscore e refl)))) k.0, k.1)
word true b x _ e f g a = absurd (dead_refuses x a)
word false b x _ e f g a = absurd (dead_refuses x a)

words : (u : Bool) (x : List ℕ) → Words u x
words = by_bytes Words (λ a. cc) (λ a. (never, refl)) (λ u b x. word u b x (bytes.class b) refl)

abbrev wordy : State → Bool
wordy InWord = true
wordy WordUnderscore = true
wordy Dead = true
wordy _ = false

word_goes_on : (c : Class) → (wordy (step InWord c) ≡ true) × (wordy (step WordUnderscore c) ≡ true)
word_goes_on class.Letter = (refl, refl)
word_goes_on class.Digit = (refl, refl)
word_goes_on class.Underscore = (refl, refl)
word_goes_on _ = (refl, refl)

stays_wordy : (s : State) (c : Class) → wordy s ≡ true → wordy (step s c) ≡ true
stays_wordy InWord c e = (word_goes_on c).0
stays_wordy WordUnderscore c e = (word_goes_on c).1
stays_wordy Dead c e = refl
stays_wordy _ c e = cc

-- what no word goes on with
abbrev Refused : List ℕ → Type 0
Refused end = (s : State) → wordy s ≡ true → accepts (run s end) ≡ false

two_refused : (rest : List ℕ) → Refused (95 ∷ 95 ∷ rest)
two_refused rest InWord e = ap accepts (run_dead rest)
two_refused rest WordUnderscore e = ap accepts (run_dead rest)
two_refused rest Dead e = ap accepts (run_dead rest)
two_refused rest _ e = cc

last_refused : Refused (95 ∷ [])
last_refused InWord e = refl
last_refused WordUnderscore e = refl
last_refused Dead e = refl
last_refused _ e = cc

refused : (end front : List ℕ) (s : State) → Refused end → wordy s ≡ true → accepts (run s (front ++ end)) ≡ false
refused end [] s h w = h s w
refused end (c ∷ front) s h w = refused end front (step s (bytes.class c)) h (stays_wordy s (bytes.class c) w)

ends_not : (b : ℕ) (x end front : List ℕ) → is_token (b ∷ x) ≡ true → accepts (run InWord x) ≡ true → Refused end → is_token end ≡ false → b ∷ x ≡ front ++ end → ⊥
ends_not b x end [] t a h n e = true≢false (sym t ∙ ap is_token e ∙ n)
ends_not b x end (c ∷ front) t a h n e =
    let k : x ≡ front ++ end = cc in
    true≢false (sym a ∙ ap (λ z. accepts (run InWord z)) k ∙ refused end front InWord h refl)

apart : (b : ℕ) (x : List ℕ) → is_token (b ∷ x) ≡ true → accepts (run InWord x) ≡ true → Apart (b ∷ x)
apart b x t a = (
  λ h. let w = h.4 in
      let e : h.1 ≡ 95 ∷ 95 ∷ w.1 = w.2 ∙ ap (λ z. z ++ w.1) w.3 in
      ends_not b x (95 ∷ 95 ∷ w.1) h.0 t a (two_refused w.1) (ap accepts (run_dead w.1)) (h.2 ∙ ap (λ z. h.0 ++ z) e),
  λ h. ends_not b x (95 ∷ []) h.0 t a last_refused refl (h.2 ∙ ap (λ z. h.0 ++ z) h.4),
)

word_element : (b : ℕ) (x : List ℕ) → bytes.class b ≡ class.Letter → accepts (run InWord x) ≡ true → In (run InWord x) (b ∷ x)
word_element b x e a = subst (λ s. In s text) (sym k.1) (⊎_elim
    (λ h. reserved_word (found reserved (map small text) kind.Identifier) h)
    (λ h. subst (IsElement text) (sym h.0) (identifier ((b ∷ [], x, refl, (b, letter_of b e, refl), k.0), n.0, n.1) h.1))
    (found_or_not reserved (map small text) kind.Identifier))
  where
    text : List ℕ
    text = b ∷ x

    k : WordRest x × (run InWord x ≡ InWord)
    k = words false x a

    n : Apart text
    n = apart b x (ap (λ c. accepts (run (step Start c) x)) e ∙ a) a

-- Delimiters

-- a delimiter of one byte is listed
abbrev one_test : Class → ℕ → Bool
one_test c b = not (in_delimiter (step Start c)) || is_listed delimiters (b ∷ [])

one_listed : (b : ℕ) (c : Class) → bytes.class b ≡ c → in_delimiter (step Start c) ≡ true → is_listed delimiters (b ∷ []) ≡ true
one_listed b c e d =
    ap (λ t. not t || is_listed delimiters (b ∷ [])) (sym d) ∙ ap (λ z. one_test z b) (sym e) ∙ sym (agree (λ b. true) one_test refl (λ b h. refl) b)

-- no delimiter goes on so, or one of two bytes is whole and listed
abbrev After : Class → Class → Type 0
After c d =
    (step (step Start c) d ≡ Dead)
    ⊎ ((step (step Start c) d ≡ Whole) × (m : ℕ) × (n : ℕ) × (byte_of c ≡ Some m) × (byte_of d ≡ Some n) × (is_listed delimiters (m ∷ n ∷ []) ≡ true))

after : (c d : Class) → in_delimiter (step Start c) ≡ true → After c d
after class.Point class.Point e = inr (refl, 46, 46, refl, refl, refl)
after class.Colon class.Equals e = inr (refl, 58, 61, refl, refl, refl)
after class.Slash class.Equals e = inr (refl, 47, 61, refl, refl, refl)
after class.Equals class.Greater e = inr (refl, 61, 62, refl, refl, refl)
after class.Less class.Equals e = inr (refl, 60, 61, refl, refl, refl)
after class.Less class.Less e = inr (refl, 60, 60, refl, refl, refl)
after class.Less class.Greater e = inr (refl, 60, 62, refl, refl, refl)
after class.Greater class.Equals e = inr (refl, 62, 61, refl, refl, refl)
after class.Greater class.Greater e = inr (refl, 62, 62, refl, refl, refl)
after class.Star class.Star e = inr (refl, 42, 42, refl, refl, refl)
after class.Letter d e = cc
after class.Digit d e = cc
after class.Underscore d e = cc
after class.Quote d e = cc
after class.Graphic d e = cc
after class.Control d e = cc
after _ _ e = inl refl

listed_delimiter : (b : ℕ) (x : List ℕ) (c : Class) → bytes.class b ≡ c → in_delimiter (step Start c) ≡ true → accepts (run (step Start c) x) ≡ true →
    (in_delimiter (run (step Start c) x) ≡ true) × (is_listed delimiters (b ∷ x) ≡ true)
listed_delimiter b [] c e d a = (d, one_listed b c e d)
listed_delimiter b (b2 ∷ []) c e d a = ⊎_elim
    (λ h. absurd (true≢false (sym a ∙ ap accepts h)))
    (λ h. (
      ap in_delimiter h.0,
      ap (λ z. is_listed delimiters (z ∷ b2 ∷ [])) (byte_is b c e h.3) ∙ ap (λ z. is_listed delimiters (h.1 ∷ z ∷ [])) (byte_is b2 (bytes.class b2) refl h.4) ∙ h.5,
    )) (after c (bytes.class b2) d)
listed_delimiter b (b2 ∷ b3 ∷ x) c e d a = absurd (⊎_elim
    (λ h. dead_refuses x (ap (λ s. accepts (run s (b3 ∷ x))) (sym h) ∙ a))
    (λ h. dead_refuses x (ap (λ s. accepts (run s (b3 ∷ x))) (sym h.0) ∙ a)) (after c (bytes.class b2) d))

delimiter_element : (b : ℕ) (x : List ℕ) (c : Class) → bytes.class b ≡ c → in_delimiter (step Start c) ≡ true → accepts (run (step Start c) x) ≡ true →
    In (run (step Start c) x) (b ∷ x)
delimiter_element b x c e d a =
    let k = listed_delimiter b x c e d a in
    subst (IsElement (b ∷ x)) (sym (delimiter_state (run (step Start c) x) (b ∷ x) k.0).1)
    (delimiter (found delimiters (b ∷ x) kind.Box) (listed delimiters (b ∷ x) kind.Box k.1))

-- All together

by_first : (b : ℕ) (x : List ℕ) (c : Class) → bytes.class b ≡ c → accepts (run (step Start c) x) ≡ true → In (run (step Start c) x) (b ∷ x)
by_first b x class.Letter e a = word_element b x e a
by_first b x class.Digit e a = number_element b x e a
by_first b x class.Quote e a = string_element b x e a
by_first b x class.Underscore e a = absurd (dead_refuses x a)
by_first b x class.Graphic e a = absurd (dead_refuses x a)
by_first b x class.Control e a = absurd (dead_refuses x a)
by_first b x class.Point e a = delimiter_element b x class.Point e refl a
by_first b x class.Colon e a = delimiter_element b x class.Colon e refl a
by_first b x class.Equals e a = delimiter_element b x class.Equals e refl a
by_first b x class.Less e a = delimiter_element b x class.Less e refl a
by_first b x class.Greater e a = delimiter_element b x class.Greater e refl a
by_first b x class.Slash e a = delimiter_element b x class.Slash e refl a
by_first b x class.Star e a = delimiter_element b x class.Star e refl a
by_first b x class.Single e a = delimiter_element b x class.Single e refl a

token_is_element : (text : List ℕ) → is_token text ≡ true → IsElement text (kind_of text)
token_is_element [] a = cc
token_is_element (b ∷ x) a = by_first b x (bytes.class b) refl a

pub tokens_are_elements : TokensAreElements
tokens_are_elements text k = (λ h. subst (IsElement text) h.1 (token_is_element text h.0), element_is_token text k)

is_none : (text : String) → is_token (codes text) ≡ false → IsNone text
is_none text e k h = true≢false (sym (element_is_token (codes text) k h).0 ∙ e)

is_one : (text : String) (k : Kind) → is_token (codes text) ≡ true → kind_of (codes text) ≡ k → IsElement (codes text) k
is_one text k a e = (tokens_are_elements (codes text) k).0 (a, e)

pub examples : Examples
examples = (
  is_one "Max_1" kind.Identifier refl refl,
  is_one "BEGIN" kind.Begin refl refl,
  is_one "beginning" kind.Identifier refl refl,
  is_one "12_000" kind.Integer refl refl,
  is_one "3.14" kind.Real refl refl,
  is_one "\"\"" kind.Text refl refl,
  is_one "\"say \"\"hi\"\"\"" kind.Text refl refl,
  is_one ":=" kind.Becomes refl refl,
  is_one "'" kind.Apostrophe refl refl,
  is_none "Max__1" refl,
  is_none "Max_" refl,
  is_none "_Max" refl,
  is_none "1Max" refl,
  is_none "12_" refl,
  is_none "3." refl,
  is_none ".5" refl,
  is_none "1E3" refl,
  is_none "16#FF#" refl,
  is_none "\"hi" refl,
  is_none "\"a\tb\"" refl,
  is_none "\"a\"b\"" refl,
  is_none "'a'" refl,
  is_none "=<" refl,
  is_none "" refl,
  is_none " " refl,
)
