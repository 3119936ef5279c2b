-- Each lexical element of the manual is a token of its kind.
use Rattle.std.proofs.Common.{◌≡◌, ℕ, List, [], ◌∷◌, ◌++◌, map, Bool, true, false, not, ◌&&◌, refl, ap, ◌∙◌, sym, subst, ⊎_elim, append_assoc}
use Rattle.std.specs.Prelude.{codes}
use Prim.Native.String.{String}
use Rattle.aud_lex.specs.declared.token.Kind.{Kind}
use Rattle.aud_lex.specs.declared.token.Kind.TheVariants as kind
use Rattle.aud_lex.specs.declared.automaton.Class.{Class}
use Rattle.aud_lex.specs.declared.automaton.Class.TheVariants.{Quote, Control}
use Rattle.aud_lex.specs.declared.automaton.State.{State}
use Rattle.aud_lex.specs.declared.automaton.State.TheVariants.{Start, InWord, WordUnderscore, InNumber, NumberUnderscore, AfterPoint, InDecimals, DecimalsUnderscore, InString, BehindQuote, Whole}
use Rattle.aud_lex.specs.Bytes.{class}
use Rattle.aud_lex.specs.Kinds.{Spelled, spelled, reserved, delimiters}
use Rattle.aud_lex.specs.Tokens.{run, step, accepts, is_token, kind_of, kind_in, found, small, is_word_or_number}
use Rattle.aud_lex.specs.Why.Manual.{The, One, Anything, Optional, ◌then◌, ◌or◌, Repeated, never, again, Letter, Digit, Underline, Identifier, ReservedWord, Numeral, RealLiteral, StringElement, StringLiteral, Delimiter, IsElement, identifier, reserved_word, integer, real, string, delimiter}
use Rattle.aud_lex.proofs.Characters.{is_plain, of_plain, plains_agree, letter_class, digit_class, small_class}
use Rattle.aud_lex.proofs.Listed.{all_at, found_listed, none_found}

-- the automaton goes over each text of a rule from one state to another
abbrev pub Leads : State → (List ℕ → Type 0) → State → Type 0
Leads s A t = (x : List ℕ) → A x → run s x ≡ t

pub run_append : (s : State) (xs ys : List ℕ) → run s (xs ++ ys) ≡ run (run s xs) ys
run_append s [] ys = refl
run_append s (x ∷ xs) ys = run_append (step s (class x)) xs ys

then_leads : (A B : List ℕ → Type 0) (s t u : State) → Leads s A t → Leads t B u → Leads s (A then B) u
then_leads A B s t u f g x h =
    ap (run s) h.2 ∙ run_append s h.0 h.1 ∙ ap (λ q. run q h.1) (f h.0 h.3) ∙ g h.1 h.4

or_leads : (A B : List ℕ → Type 0) (s t : State) → Leads s A t → Leads s B t → Leads s (A or B) t
or_leads A B s t f g x h = ⊎_elim (f x) (g x) h

the_leads : (word : String) (s t : State) → run s (codes word) ≡ t → Leads s (The word) t
the_leads word s t e x h = ap (run s) h ∙ e

one_leads : (test : ℕ → Bool) (s t : State) → ((c : ℕ) → test c ≡ true → step s (class c) ≡ t) → Leads s (One test) t
one_leads test s t f x h = ap (run s) h.2 ∙ f h.0 h.1

repeated_leads : (A : List ℕ → Type 0) (s : State) → Leads s A s → Leads s (Repeated A) s
repeated_leads A s f _ never = refl
repeated_leads A s f _ (again front rest h hs) = run_append s front rest ∙ ap (λ q. run q rest) (f front h) ∙ repeated_leads A s f rest hs

letter_leads : (s t : State) → step s (class 65) ≡ t → Leads s Letter t
letter_leads s t e = one_leads _ s t (λ c h. ap (step s) (letter_class c h) ∙ e)

digit_leads : (s t : State) → step s (class 48) ≡ t → Leads s Digit t
digit_leads s t e = one_leads _ s t (λ c h. ap (step s) (digit_class c h) ∙ e)

-- Numbers

more_digits : (s t : State) → step s (class 48) ≡ s → step s (class 95) ≡ t → step t (class 48) ≡ s → Leads s (Repeated (Optional Underline then Digit)) s
more_digits s t e f g = repeated_leads _ s (λ x h. ⊎_elim
    (λ o. ap (run s) h.2 ∙ ap (λ z. run s (z ++ h.1)) o ∙ digit_leads s s e h.1 h.4)
    (λ o. ap (run s) h.2 ∙ ap (λ z. run s (z ++ h.1)) o ∙ ap (λ q. run q h.1) f ∙ digit_leads t s g h.1 h.4) h.3)

numeral_leads : Leads Start Numeral InNumber
numeral_leads = then_leads _ _ Start InNumber InNumber (digit_leads Start InNumber refl) (more_digits InNumber NumberUnderscore refl refl refl)

decimals_lead : Leads AfterPoint Numeral InDecimals
decimals_lead = then_leads _ _ AfterPoint InDecimals InDecimals (digit_leads AfterPoint InDecimals refl) (more_digits InDecimals DecimalsUnderscore refl refl refl)

real_leads : Leads Start RealLiteral InDecimals
real_leads = then_leads Numeral _ Start InNumber InDecimals numeral_leads
    (then_leads (The ".") Numeral InNumber AfterPoint InDecimals (the_leads "." InNumber AfterPoint refl) decimals_lead)

-- Strings

plain_stays : (c : Class) → of_plain c ≡ true → step InString c ≡ InString
plain_stays Quote e = cc
plain_stays Control e = cc
plain_stays _ e = refl

element_leads : Leads InString StringElement InString
element_leads = or_leads _ _ InString InString (the_leads "\"\"" InString InString refl)
    (one_leads is_plain InString InString (λ c h. plain_stays (class c) (sym (plains_agree c) ∙ h)))

string_leads : Leads Start StringLiteral BehindQuote
string_leads = then_leads (The "\"") _ Start InString BehindQuote (the_leads "\"" Start InString refl)
    (then_leads (Repeated StringElement) (The "\"") InString InString BehindQuote (repeated_leads StringElement InString element_leads) (the_leads "\"" InString BehindQuote refl))

-- Identifiers

-- no two underlines follow each other, and none is the last character
abbrev pub Apart : List ℕ → Type 0
Apart text = ((Anything then The "__" then Anything) text → ⊥) × ((Anything then The "_") text → ⊥)

apart_behind : (front rest : List ℕ) → Apart (front ++ rest) → Apart rest
apart_behind front rest h = (λ k. h.0 (front ++ k.0, k.1, joins k.0 k.1 k.2, tt, k.4), λ k. h.1 (front ++ k.0, k.1, joins k.0 k.1 k.2, tt, k.4))
  where
    joins : (f r : List ℕ) → rest ≡ f ++ r → front ++ rest ≡ (front ++ f) ++ r
    joins f r e = ap (λ z. front ++ z) e ∙ sym (append_assoc front f r)

-- behind an underline or not
abbrev pub word_state : Bool → State
word_state true = WordUnderscore
word_state false = InWord

abbrev pub before : Bool → List ℕ
before true = 95 ∷ []
before false = []

letter_goes : (u : Bool) → Leads (word_state u) Letter InWord
letter_goes true = letter_leads WordUnderscore InWord refl
letter_goes false = letter_leads InWord InWord refl

digit_goes : (u : Bool) → Leads (word_state u) Digit InWord
digit_goes true = digit_leads WordUnderscore InWord refl
digit_goes false = digit_leads InWord InWord refl

-- one character more of an identifier
word_goes : (u : Bool) (front rest : List ℕ) → (Letter or Digit or Underline) front → Apart (before u ++ (front ++ rest)) →
    ((v : Bool) → Apart (before v ++ rest) → run (word_state v) rest ≡ InWord) → run (word_state u) (front ++ rest) ≡ InWord
word_goes u front rest h a goes = ⊎_elim (λ l. plain (letter_goes u front l)) (λ k. ⊎_elim (λ d. plain (digit_goes u front d)) (underline u a) k) h
  where
    plain : run (word_state u) front ≡ InWord → run (word_state u) (front ++ rest) ≡ InWord
    plain e = run_append (word_state u) front rest ∙ ap (λ q. run q rest) e
        ∙ goes false (apart_behind (before u ++ front) rest (subst Apart (sym (append_assoc (before u) front rest)) a))

    underline : (v : Bool) → Apart (before v ++ (front ++ rest)) → front ≡ codes "_" → run (word_state v) (front ++ rest) ≡ InWord
    underline true b e = absurd (b.0 ([], 95 ∷ 95 ∷ rest, ap (λ z. 95 ∷ (z ++ rest)) e, tt, (95 ∷ 95 ∷ [], rest, refl, refl, tt)))
    underline false b e = ap (λ z. run InWord (z ++ rest)) e ∙ goes true (subst (λ z. Apart (z ++ rest)) e b)

word_leads : (u : Bool) (x : List ℕ) → Repeated (Letter or Digit or Underline) x → Apart (before u ++ x) → run (word_state u) x ≡ InWord
word_leads true _ never a = absurd (a.1 ([], 95 ∷ [], refl, tt, refl))
word_leads false _ never a = refl
word_leads u _ (again front rest h hs) a = word_goes u front rest h a (λ v b. word_leads v rest hs b)

identifier_leads : Leads Start Identifier InWord
identifier_leads x h =
    let w = h.0 in
    ap (run Start) w.2 ∙ run_append Start w.0 w.1 ∙ ap (λ q. run q w.1) (letter_leads Start InWord refl w.0 w.3)
    ∙ word_leads false w.1 w.4 (apart_behind w.0 w.1 (subst Apart w.2 (h.1, h.2)))

-- Reserved words and delimiters

abbrev in_word : State → Bool
in_word InWord = true
in_word _ = false

-- a token that is no word, no number and no string literal
abbrev pub in_delimiter : State → Bool
in_delimiter BehindQuote = false
in_delimiter s = accepts s && not (is_word_or_number s)

pub delimiter_state : (s : State) (text : List ℕ) → in_delimiter s ≡ true → (accepts s ≡ true) × (kind_in s text ≡ found delimiters text kind.Box)
delimiter_state Whole text d = (refl, refl)
delimiter_state _ text d = (cc, cc)

word_is : (s : State) → in_word s ≡ true → s ≡ InWord
word_is InWord e = refl
word_is _ e = cc

run_small : (s : State) (x : List ℕ) → run s (map small x) ≡ run s x
run_small s [] = refl
run_small s (b ∷ x) = ap (λ c. run (step s c) (map small x)) (small_class b) ∙ run_small (step s (class b)) x

abbrev Is : List ℕ → Kind → Type 0
Is text k = (is_token text ≡ true) × (kind_of text ≡ k)

at_state : (s : State) (text : List ℕ) (k : Kind) → run Start text ≡ s → accepts s ≡ true → kind_in s text ≡ k → Is text k
at_state s text k e a f = (ap accepts e ∙ a, ap (λ q. kind_in q text) e ∙ f)

reserved_is : (text : List ℕ) (k : Kind) → ReservedWord k text → Is text k
reserved_is text k h =
    let e : Spelled = spelled (map small text) k in
    at_state InWord text k
    (sym (run_small Start text) ∙ word_is (run Start (map small text)) (all_at (λ e. in_word (run Start e.bytes)) reserved e refl h))
    refl (found_listed reserved e kind.Identifier refl h)

delimiter_is : (text : List ℕ) (k : Kind) → Delimiter k text → Is text k
delimiter_is text k h =
    let e : Spelled = spelled text k in
    let s : State = run Start text in
    let d = delimiter_state s text (all_at (λ e. in_delimiter (run Start e.bytes)) delimiters e refl h) in
    at_state s text k refl d.0 (d.1 ∙ found_listed delimiters e kind.Box refl h)

pub element_is_token : (text : List ℕ) (k : Kind) → IsElement text k → Is text k
element_is_token text _ (identifier h n) = at_state InWord text kind.Identifier (identifier_leads text h) refl (none_found reserved (map small text) kind.Identifier n)
element_is_token text _ (reserved_word k h) = reserved_is text k h
element_is_token text _ (integer h) = at_state InNumber text kind.Integer (numeral_leads text h) refl refl
element_is_token text _ (real h) = at_state InDecimals text kind.Real (real_leads text h) refl refl
element_is_token text _ (string h) = at_state BehindQuote text kind.Text (string_leads text h) refl refl
element_is_token text _ (delimiter k h) = delimiter_is text k h
