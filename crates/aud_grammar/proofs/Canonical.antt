-- How a token is written canonically, and that it is the same token then.
use Rattle.std.proofs.Common.{◌≡◌, ℕ, zero, suc, ◌+◌, ◌-◌, ◌<◌, ◌≤◌, List, [], ◌∷◌, ◌++◌, map, refl, sym, ap, ◌∙◌, subst, arith, Bool, true, false, inl, inr, ⊎_elim, leb-true, le-leb}
use Rattle.std.proofs.lemmas.Bool.{eqb-true, eqb-false, ne_eqb, lt-leb, and_parts, and_left, and_right, or_right, cond-true, cond-false}
use Rattle.std.proofs.lemmas.Fmt.{decimal_by_steps}
use Rattle.std.specs.Fmt.{decimal}
use Rattle.std.specs.Prelude.{◌⊎◌, ◌==◌, ◌&&◌, ◌||◌, nat_le, ◌*◌, ◌/◌, ◌%◌, ◌^◌, pos, if◌then◌else◌, Some, None}
use Rattle.std.specs.List.{list_all}
use Rattle.aud_text.specs.Name.{capital, capitals}
use Rattle.aud_lex.specs.declared.token.Kind.{Kind}
use Rattle.aud_lex.specs.declared.token.Kind.TheVariants as kind
use Rattle.aud_lex.specs.declared.automaton.Class.{Class}
use Rattle.aud_lex.specs.declared.automaton.Class.TheVariants.{Letter, Digit, Underscore, Quote, Point, Colon, Equals, Less, Greater, Slash, Star, Single, Graphic, Control}
use Rattle.aud_lex.specs.declared.automaton.State.{State}
use Rattle.aud_lex.specs.declared.automaton.State.TheVariants.{Start, Dead, InWord, InNumber, AfterPoint, InDecimals, InString, BehindQuote, Whole}
use Rattle.aud_lex.specs.Bytes.{between, is_single, class}
use Rattle.aud_lex.specs.Element.{Element}
use Rattle.aud_lex.specs.Kinds.{Spelled, kind_number, reserved, delimiters}
use Rattle.aud_lex.specs.Why.Spaced.{Word}
use Rattle.aud_lex.specs.Tokens.{step, accepts, run, is_token, small, found, kind_in, kind_of}
use Rattle.std.specs.Str.{bytes_eq}
use Rattle.aud_lex.proofs.Fronts.{run_dead}
use Rattle.aud_syntax.specs.Why.Printed.{number_digits, decimal_digits, real_digits, doubled, quoted}
use Rattle.aud_grammar.specs.Values.{with_digit, digits_value, number_value, before_point, behind_point, only_digits, thousandths, whole_part, decimals, inner, unquoted}
use Rattle.aud_grammar.proofs.Literals.{fits}
use Rattle.aud_grammar.proofs.Reals.{Pointless, pointless_append, before_append, behind_append, digits_behind, to_point, a_digit, decimals_stay}

-- the spelling of the kind with this number
abbrev spelling_in : List Spelled → ℕ → List ℕ
spelling_in [] c = []
spelling_in (entry ∷ entries) c = if kind_number entry.kind == c then entry.bytes else spelling_in entries c

-- a token of the kind with this number and of these bytes, as it is written
abbrev pub spelling : ℕ → List ℕ → List ℕ
spelling c text =
    if c == 100 then capitals text
    else if c == 101 then number_digits (number_value text)
    else if c == 102 then real_digits (whole_part text) (decimals text)
    else if c == 103 then quoted (unquoted text)
    else spelling_in (reserved ++ delimiters) c

-- the words that end a line: begin, is and the semicolon
abbrev pub ends_line : ℕ → Bool
ends_line c = c == 10 || c == 32 || c == 85

abbrev pub written_as : ℕ → List ℕ → Word
written_as c text = record { bytes = spelling c text; is_last = ends_line c }

abbrev pub written : Element → Word
written t = written_as (kind_number t.kind) t.text

-- such bytes are a token of the kind, and mean what the others mean
pub record Stays (c : ℕ) (text bytes : List ℕ) : Type 0 where
  pub token : is_token bytes ≡ true
  pub kind : kind_number (kind_of bytes) ≡ c
  pub name : c ≡ 100 → capitals text ≡ capitals bytes
  pub number : c ≡ 101 → number_value text ≡ number_value bytes
  pub whole : c ≡ 102 → whole_part text ≡ whole_part bytes
  pub fraction : c ≡ 102 → decimals text ≡ decimals bytes
  pub literal : c ≡ 103 → unquoted text ≡ unquoted bytes

-- Words and delimiters

abbrev table_code : ℕ → Bool
table_code c = let bytes = spelling_in (reserved ++ delimiters) c in is_token bytes && kind_number (kind_of bytes) == c

abbrev all_below : ℕ → Bool
all_below zero = true
all_below (suc n) = table_code n && all_below n

table_holds : all_below 100 ≡ true
table_holds = refl

code_at : (n c : ℕ) (t : Bool) → (c == n) ≡ t → table_code n ≡ true → (c < n → table_code c ≡ true) → c < suc n → table_code c ≡ true
code_at n c true i h ih l = subst (λ z. table_code z ≡ true) (sym (eqb-true c n i)) h
code_at n c false i h ih l =
    let ne : c ≡ n → ⊥ = eqb-false c n i in
    ih (omega arith)

code_holds : (n c : ℕ) → all_below n ≡ true → c < n → table_code c ≡ true
code_holds zero c e h = absurd (omega arith)
code_holds (suc n) c e h =
    let k : (table_code n ≡ true) × (all_below n ≡ true) = and_parts (table_code n) (all_below n) e in
    code_at n c (c == n) refl k.0 (λ l. code_holds n c k.1 l) h

last_of : {X : Type 0} (t u v w : Bool) (x y z a b : X) → t ≡ false → u ≡ false → v ≡ false → w ≡ false → (if t then x else if u then y else if v then z else if w then a else b) ≡ b
last_of true u v w x y z a b e f g h = cc
last_of false true v w x y z a b e f g h = cc
last_of false false true w x y z a b e f g h = cc
last_of false false false true x y z a b e f g h = cc
last_of false false false false x y z a b e f g h = refl

table_stays : (c : ℕ) (text : List ℕ) → c < 100 → Stays c text (spelling c text)
table_stays c text h =
    let bytes : List ℕ = spelling_in (reserved ++ delimiters) c in
    let k : (is_token bytes ≡ true) × ((kind_number (kind_of bytes) == c) ≡ true) = and_parts (is_token bytes) (kind_number (kind_of bytes) == c) (code_holds 100 c table_holds h) in
    let e : spelling c text ≡ bytes =
    last_of (c == 100) (c == 101) (c == 102) (c == 103) _ _ _ _ bytes (ne_eqb c 100 (λ e. omega (arith, e, h))) (ne_eqb c 101 (λ e. omega (arith, e, h))) (ne_eqb c 102 (λ e. omega (arith, e, h))) (ne_eqb c 103 (λ e. omega (arith, e, h))) in
    subst (λ z. Stays c text z) (sym e) (record {
      token = k.0;
      kind = eqb-true _ _ k.1;
      name = λ e. absurd (omega (arith, e, h));
      number = λ e. absurd (omega (arith, e, h));
      whole = λ e. absurd (omega (arith, e, h));
      fraction = λ e. absurd (omega (arith, e, h));
      literal = λ e. absurd (omega (arith, e, h));
    })

found_code : (table : List Spelled) (bytes : List ℕ) (ordinary : Kind) → list_all (λ e. nat_le (suc (kind_number e.kind)) 100) table ≡ true → (kind_number (found table bytes ordinary) ≡ kind_number ordinary) ⊎ (kind_number (found table bytes ordinary) < 100)
found_code [] bytes ordinary h = inl refl
found_code (x ∷ xs) bytes ordinary h =
    let k = and_parts (nat_le (suc (kind_number x.kind)) 100) (list_all (λ e. nat_le (suc (kind_number e.kind)) 100) xs) h in
    at (bytes_eq x.bytes bytes) x.kind (found xs bytes ordinary) ordinary (leb-true _ _ k.0) (found_code xs bytes ordinary k.1)
  where
    at : (t : Bool) (c d ordinary : Kind) → suc (kind_number c) ≤ 100 → (kind_number d ≡ kind_number ordinary) ⊎ (kind_number d < 100) → (kind_number (if t then c else d) ≡ kind_number ordinary) ⊎ (kind_number (if t then c else d) < 100)
    at true c d ordinary h k = inr (omega arith)
    at false c d ordinary h k = k

-- Identifiers

within : (low b high : ℕ) → low ≤ b → b ≤ high → between low b high ≡ true
within low b high h k = ap (λ t. t && nat_le b high) (le-leb low b h) ∙ le-leb b high k

letter : (b : ℕ) → (between 65 b 90 || between 97 b 122) ≡ true → class b ≡ Letter
letter b e = cond-true (between 65 b 90 || between 97 b 122) _ _ e

-- a byte is a small letter or its own capital
by_case : (P : ℕ → ℕ → Type 0) (b : ℕ) → (97 ≤ b → b ≤ 122 → P b (b - 32)) → P b b → P b (capital b)
by_case P b h k = at (nat_le 97 b) (nat_le b 122) refl refl
  where
    at : (s t : Bool) → nat_le 97 b ≡ s → nat_le b 122 ≡ t → P b (if s && t then b - 32 else b)
    at true true e f = h (leb-true 97 b e) (leb-true b 122 f)
    at true false e f = k
    at false t e f = k

class_capital : (b : ℕ) → class (capital b) ≡ class b
class_capital b = by_case (λ x y. class y ≡ class x) b
    (λ h k. letter (b - 32) (ap (λ t. t || between 97 (b - 32) 122) (within 65 (b - 32) 90 (omega arith) (omega arith))) ∙ sym (letter b (or_right (between 65 b 90) (between 97 b 122) (within 97 b 122 h k))))
    refl

small_capital : (b : ℕ) → small (capital b) ≡ small b
small_capital b = by_case (λ x y. small y ≡ small x) b
    (λ h k. cond-true (nat_le 65 (b - 32) && nat_le (b - 32) 90) _ _ (within 65 (b - 32) 90 (omega arith) (omega arith))
    ∙ (let e : b - 32 + 32 ≡ b = omega arith in e)
    ∙ sym (cond-false (nat_le 65 b && nat_le b 90) _ _ (and_right (nat_le 65 b) (nat_le b 90) (lt-leb b 90 (omega (arith, h))))))
    refl

capital_twice : (b : ℕ) → capital (capital b) ≡ capital b
capital_twice b = at (nat_le 97 b) (nat_le b 122) refl refl
  where
    at : (s t : Bool) → nat_le 97 b ≡ s → nat_le b 122 ≡ t → capital (if s && t then b - 32 else b) ≡ (if s && t then b - 32 else b)
    at true true e f = let k : b ≤ 122 = leb-true b 122 f in cond-false (nat_le 97 (b - 32) && nat_le (b - 32) 122) _ _ (and_left (nat_le 97 (b - 32)) (nat_le (b - 32) 122) (lt-leb 97 (b - 32) (omega (arith, k))))
    at true false e f = cond-false (nat_le 97 b && nat_le b 122) _ _ (and_right (nat_le 97 b) (nat_le b 122) f)
    at false t e f = cond-false (nat_le 97 b && nat_le b 122) _ _ (and_left (nat_le 97 b) (nat_le b 122) e)

run_capitals : (text : List ℕ) (s : State) → run s (capitals text) ≡ run s text
run_capitals [] s = refl
run_capitals (b ∷ bs) s = ap (λ c. run (step s c) (capitals bs)) (class_capital b) ∙ run_capitals bs (step s (class b))

small_capitals : (text : List ℕ) → map small (capitals text) ≡ map small text
small_capitals [] = refl
small_capitals (b ∷ bs) = cc (small_capital b, small_capitals bs)

capitals_twice : (text : List ℕ) → capitals (capitals text) ≡ capitals text
capitals_twice [] = refl
capitals_twice (b ∷ bs) = cc (capital_twice b, capitals_twice bs)

ident_stays : (text : List ℕ) → run Start text ≡ InWord → kind_number (found reserved (map small text) kind.Identifier) ≡ 100 → Stays 100 text (capitals text)
ident_stays text e h =
    let r : run Start (capitals text) ≡ InWord = run_capitals text Start ∙ e in
    record {
      token = ap accepts r;
      kind = ap (λ s. kind_number (kind_in s (capitals text))) r ∙ ap (λ l. kind_number (found reserved l kind.Identifier)) (small_capitals text) ∙ h;
      name = λ e. sym (capitals_twice text);
      number = λ e. absurd (omega (arith, e));
      whole = λ e. absurd (omega (arith, e));
      fraction = λ e. absurd (omega (arith, e));
      literal = λ e. absurd (omega (arith, e));
    }

-- Numbers

run_append : (xs ys : List ℕ) (s : State) → run s (xs ++ ys) ≡ run (run s xs) ys
run_append [] ys s = refl
run_append (x ∷ xs) ys s = run_append xs ys (step s (class x))

value_append : (xs ys : List ℕ) (n : ℕ) → digits_value n (xs ++ ys) ≡ digits_value (digits_value n xs) ys
value_append [] ys n = refl
value_append (x ∷ xs) ys n = value_append xs ys (with_digit n x)

abbrev Numeral : ℕ → List ℕ → Type 0
Numeral n bytes = (run Start bytes ≡ InNumber) × (digits_value 0 bytes ≡ n) × Pointless bytes

one_digit : (n : ℕ) → n < 10 → Numeral n ((48 + n) ∷ [])
one_digit n h = (ap (λ c. step Start c) (a_digit n 0 h).0, (a_digit n 0 h).1 ∙ (let e : 0 * 10 + n ≡ n = omega arith in e), (ne_eqb (48 + n) 46 (λ e. omega (arith, e)), tt))

more_digits : (n : ℕ) (bytes : List ℕ) → 10 ≤ n → Numeral (n / 10) bytes → Numeral n (bytes ++ ((48 + n % 10) ∷ []))
more_digits n bytes h k =
    let d : n % 10 < 10 = omega arith in (
      run_append bytes ((48 + n % 10) ∷ []) Start ∙ ap (λ s. step s (class (48 + n % 10))) k.0 ∙ ap (λ c. step InNumber c) (a_digit (n % 10) 0 d).0,
      value_append bytes ((48 + n % 10) ∷ []) 0 ∙ ap (λ v. with_digit v (48 + n % 10)) k.1 ∙ (a_digit (n % 10) (n / 10) d).1 ∙ (let e : n / 10 * 10 + n % 10 ≡ n = omega arith in e),
      pointless_append bytes ((48 + n % 10) ∷ []) k.2 (ne_eqb (48 + n % 10) 46 (λ e. omega (arith, e)), tt),
    )

numeral : (n : ℕ) → n < 2 ^ 64 → Numeral n (decimal n)
numeral = decimal_by_steps Numeral one_digit more_digits

-- bytes that are a whole number and mean what the others mean
abbrev SameNumber : List ℕ → List ℕ → Type 0
SameNumber text bytes = (run Start bytes ≡ InNumber) × (number_value text ≡ number_value bytes) × Pointless bytes

same_number : (text : List ℕ) → SameNumber text (number_digits (number_value text))
same_number text = at (nat_le (digits_value 0 text) 2147483647) refl
  where
    at : (t : Bool) → nat_le (digits_value 0 text) 2147483647 ≡ t → SameNumber text (number_digits (number_value text))
    at true e =
        let l : digits_value 0 text ≤ 2147483647 = leb-true _ _ e in
        let n : Numeral (digits_value 0 text) (decimal (digits_value 0 text)) = numeral (digits_value 0 text) (omega (arith, l)) in
        let v : number_value text ≡ Some (pos (digits_value 0 text)) = fits text (digits_value 0 text) refl l in
        subst (λ z. SameNumber text (number_digits z)) (sym v) (n.0, v ∙ sym (fits (decimal (digits_value 0 text)) (digits_value 0 text) n.1 l), n.2)
    at false e =
        let v : number_value text ≡ None = cond-false (nat_le (digits_value 0 text) 2147483647) _ _ e in
        subst (λ z. SameNumber text (number_digits z)) (sym v) (refl, v, (refl, (refl, (refl, (refl, (refl, (refl, (refl, (refl, (refl, (refl, tt)))))))))))

number_stays : (text : List ℕ) → Stays 101 text (number_digits (number_value text))
number_stays text =
    let n = same_number text in
    record {
      token = ap accepts n.0;
      kind = ap (λ s. kind_number (kind_in s (number_digits (number_value text)))) n.0;
      name = λ e. absurd (omega (arith, e));
      number = λ e. n.1;
      whole = λ e. absurd (omega (arith, e));
      fraction = λ e. absurd (omega (arith, e));
      literal = λ e. absurd (omega (arith, e));
    }

real_stays : (text : List ℕ) → run Start text ≡ InDecimals → Stays 102 text (real_digits (whole_part text) (decimals text))
real_stays text e =
    let whole : List ℕ = number_digits (whole_part text) in
    let behind : List ℕ = decimal_digits (decimals text) in
    let n = same_number (before_point text) in
    let d = decimals_stay (only_digits (behind_point text)) (digits_behind (behind_point text) AfterPoint refl (to_point text Start refl e)) in
    let r : run Start (whole ++ (46 ∷ behind)) ≡ InDecimals = run_append whole (46 ∷ behind) Start ∙ ap (λ s. run s (46 ∷ behind)) n.0 ∙ d.0 in
    record {
      token = ap accepts r;
      kind = ap (λ s. kind_number (kind_in s (whole ++ (46 ∷ behind)))) r;
      name = λ e. absurd (omega (arith, e));
      number = λ e. absurd (omega (arith, e));
      whole = λ e. n.1 ∙ sym (ap number_value (before_append whole behind n.2));
      fraction = λ e. sym (ap (λ z. thousandths (only_digits z)) (behind_append whole behind n.2) ∙ d.1);
      literal = λ e. absurd (omega (arith, e));
    }

-- String literals

inner_doubled : (characters : List ℕ) → inner false (doubled characters ++ (34 ∷ [])) ≡ characters
inner_doubled [] = refl
inner_doubled (b ∷ bs) = at b (b == 34) refl (inner_doubled bs)
  where
    at : (b : ℕ) (t : Bool) → (b == 34) ≡ t → inner false (doubled bs ++ (34 ∷ [])) ≡ bs →
        inner false ((if t then 34 ∷ 34 ∷ doubled bs else b ∷ doubled bs) ++ (34 ∷ [])) ≡ b ∷ bs
    at b true e ih = ap (λ z. 34 ∷ z) ih ∙ ap (λ z. z ∷ bs) (sym (eqb-true b 34 e))
    at b false e ih = ap (λ t. if t && true then inner true (doubled bs ++ (34 ∷ [])) else b ∷ inner false (doubled bs ++ (34 ∷ []))) e ∙ ap (λ z. b ∷ z) ih

-- a byte that may stand in a string literal
abbrev Stands : ℕ → Type 0
Stands b = (b ≡ 34) ⊎ (step InString (class b) ≡ InString)

abbrev AllStand : List ℕ → Type 0
AllStand [] = Unit {0}
AllStand (b ∷ bs) = Stands b × AllStand bs

stands_run : (b : ℕ) (rest : List ℕ) (t : Bool) → (b == 34) ≡ t → Stands b → run InString (if t then 34 ∷ 34 ∷ rest else b ∷ rest) ≡ run InString rest
stands_run b rest true e h = refl
stands_run b rest false e h = ⊎_elim (λ i. absurd (eqb-false b 34 e i)) (λ i. ap (λ s. run s rest) i) h

doubled_run : (characters rest : List ℕ) → AllStand characters → run InString (doubled characters ++ rest) ≡ run InString rest
doubled_run [] rest h = refl
doubled_run (b ∷ bs) rest h = at (b == 34) refl ∙ doubled_run bs rest h.1
  where
    at : (t : Bool) → (b == 34) ≡ t → run InString ((if t then 34 ∷ 34 ∷ doubled bs else b ∷ doubled bs) ++ rest) ≡ run InString (doubled bs ++ rest)
    at true e = stands_run b (doubled bs ++ rest) true e h.0
    at false e = stands_run b (doubled bs ++ rest) false e h.0

is_quote : (t1 t2 t3 t4 t5 t6 t7 t8 t9 t10 t11 t12 t13 : Bool) →
    (if t1 then Letter else if t2 then Digit else if t3 then Underscore else if t4 then Quote else if t5 then Point else if t6 then Colon else if t7 then Equals else if t8 then Less else if t9 then Greater
    else if t10 then Slash else if t11 then Star else if t12 then Single else if t13 then Graphic else Control) ≡ Quote → t4 ≡ true
is_quote true t2 t3 t4 t5 t6 t7 t8 t9 t10 t11 t12 t13 e = cc
is_quote false true t3 t4 t5 t6 t7 t8 t9 t10 t11 t12 t13 e = cc
is_quote false false true t4 t5 t6 t7 t8 t9 t10 t11 t12 t13 e = cc
is_quote false false false true t5 t6 t7 t8 t9 t10 t11 t12 t13 e = refl
is_quote false false false false true t6 t7 t8 t9 t10 t11 t12 t13 e = cc
is_quote false false false false false true t7 t8 t9 t10 t11 t12 t13 e = cc
is_quote false false false false false false true t8 t9 t10 t11 t12 t13 e = cc
is_quote false false false false false false false true t9 t10 t11 t12 t13 e = cc
is_quote false false false false false false false false true t10 t11 t12 t13 e = cc
is_quote false false false false false false false false false true t11 t12 t13 e = cc
is_quote false false false false false false false false false false true t12 t13 e = cc
is_quote false false false false false false false false false false false true t13 e = cc
is_quote false false false false false false false false false false false false true e = cc
is_quote false false false false false false false false false false false false false e = cc

quote_class : (b : ℕ) → class b ≡ Quote → (b == 34) ≡ true
quote_class b e = is_quote (between 65 b 90 || between 97 b 122) (between 48 b 57) (b == 95) (b == 34) (b == 46) (b == 58) (b == 61) (b == 60) (b == 62) (b == 47) (b == 42) (is_single b) (between 32 b 126) e

-- the string goes on, ends or breaks off at a byte of the class
in_string_goes : (c : Class) → (c ≡ Quote) ⊎ ((step InString c ≡ InString) ⊎ (step InString c ≡ Dead))
in_string_goes Quote = inl refl
in_string_goes Control = inr (inr refl)
in_string_goes _ = inr (inl refl)

behind_quote_goes : (c : Class) → (c ≡ Quote) ⊎ (step BehindQuote c ≡ Dead)
behind_quote_goes Quote = inl refl
behind_quote_goes _ = inr refl

abbrev Ends : State → List ℕ → Type 0
Ends s bs = run s bs ≡ BehindQuote

dead_ends : (s : State) (bs : List ℕ) → s ≡ Dead → Ends s bs → ⊥
dead_ends s bs e h = let i : Dead ≡ BehindQuote = sym (run_dead bs) ∙ ap (λ z. run z bs) (sym e) ∙ h in cc

in_quote : (b : ℕ) (bs : List ℕ) → class b ≡ Quote → (run InString (b ∷ bs) ≡ run BehindQuote bs) × (run BehindQuote (b ∷ bs) ≡ run InString bs)
in_quote b bs e = (ap (λ c. run (step InString c) bs) e, ap (λ c. run (step BehindQuote c) bs) e)

abbrev Inner : List ℕ → Type 0
Inner bs = (Ends InString bs → AllStand (inner false bs)) × (Ends BehindQuote bs → AllStand (inner true bs))

inner_quote : (b : ℕ) (bs : List ℕ) → (b == 34) ≡ true → (inner false (b ∷ bs) ≡ inner true bs) × (inner true (b ∷ bs) ≡ b ∷ inner false bs)
inner_quote b bs e = (ap (λ t. if t && true then inner true bs else b ∷ inner false bs) e, ap (λ t. if t && false then inner true bs else b ∷ inner false bs) e)

inner_other : (b : ℕ) (bs : List ℕ) → (b == 34) ≡ false → inner false (b ∷ bs) ≡ b ∷ inner false bs
inner_other b bs e = ap (λ t. if t && true then inner true bs else b ∷ inner false bs) e

inner_quoted : (b : ℕ) (bs : List ℕ) → class b ≡ Quote → Inner bs → Inner (b ∷ bs)
inner_quoted b bs e h =
    let t : (b == 34) ≡ true = quote_class b e in (
      λ i. subst AllStand (sym (inner_quote b bs t).0) (h.1 (sym (in_quote b bs e).0 ∙ i)),
      λ i. subst AllStand (sym (inner_quote b bs t).1) (inl (eqb-true b 34 t), h.0 (sym (in_quote b bs e).1 ∙ i)),
    )

inner_on : (b : ℕ) (bs : List ℕ) → step InString (class b) ≡ InString → Ends InString (b ∷ bs) → Inner bs → AllStand (inner false (b ∷ bs))
inner_on b bs e i h = at (b == 34) refl
  where
    at : (t : Bool) → (b == 34) ≡ t → AllStand (inner false (b ∷ bs))
    at true f = let g : InString ≡ BehindQuote = sym e ∙ ap (λ z. step InString (class z)) (eqb-true b 34 f) in cc
    at false f = subst AllStand (sym (inner_other b bs f)) (inr e, h.0 (ap (λ s. run s bs) (sym e) ∙ i))

inner_stands : (bs : List ℕ) → Inner bs
inner_stands [] = (λ i. tt, λ i. tt)
inner_stands (b ∷ bs) =
    let ih : Inner bs = inner_stands bs in (
      λ i. ⊎_elim (λ e. (inner_quoted b bs e ih).0 i) (λ k. ⊎_elim (λ e. inner_on b bs e i ih) (λ e. absurd (dead_ends (step InString (class b)) bs e i)) k) (in_string_goes (class b)),
      λ i. ⊎_elim (λ e. (inner_quoted b bs e ih).1 i) (λ e. absurd (dead_ends (step BehindQuote (class b)) bs e i)) (behind_quote_goes (class b)),
    )

-- outside string literals
abbrev plain : State → Bool
plain Start = false
plain InString = false
plain BehindQuote = false
plain _ = true

plain_step : (s : State) (c : Class) → plain s ≡ true → plain (step s c) ≡ true
plain_step Start c e = cc
plain_step InString c e = cc
plain_step BehindQuote c e = cc
plain_step Dead c e = refl
plain_step Whole c e = refl
plain_step InWord Letter e = refl
plain_step InWord Digit e = refl
plain_step InWord Underscore e = refl
plain_step _ Letter e = refl
plain_step _ Digit e = refl
plain_step _ Underscore e = refl
plain_step _ Point e = refl
plain_step _ Equals e = refl
plain_step _ Less e = refl
plain_step _ Greater e = refl
plain_step _ Star e = refl
plain_step _ _ e = refl

plain_run : (bs : List ℕ) (s : State) → plain s ≡ true → plain (run s bs) ≡ true
plain_run [] s e = e
plain_run (b ∷ bs) s e = plain_run bs (step s (class b)) (plain_step s (class b) e)

first_goes : (c : Class) → (step Start c ≡ InString) ⊎ (plain (step Start c) ≡ true)
first_goes Quote = inl refl
first_goes _ = inr refl

literal_stands : (text : List ℕ) → Ends Start text → AllStand (unquoted text)
literal_stands [] h = tt
literal_stands (b ∷ bs) h = ⊎_elim
    (λ e. (inner_stands bs).0 (ap (λ s. run s bs) (sym e) ∙ h))
    (λ e. let i : plain BehindQuote ≡ true = ap plain (sym h) ∙ plain_run bs (step Start (class b)) e in cc)
    (first_goes (class b))

quoted_run : (characters : List ℕ) → AllStand characters → run Start (quoted characters) ≡ BehindQuote
quoted_run characters h = doubled_run characters (34 ∷ []) h

literal_stays : (text : List ℕ) → run Start text ≡ BehindQuote → Stays 103 text (quoted (unquoted text))
literal_stays text h =
    let r : run Start (quoted (unquoted text)) ≡ BehindQuote = quoted_run (unquoted text) (literal_stands text h) in
    record {
      token = ap accepts r;
      kind = ap (λ s. kind_number (kind_in s (quoted (unquoted text)))) r;
      name = λ e. absurd (omega (arith, e));
      number = λ e. absurd (omega (arith, e));
      whole = λ e. absurd (omega (arith, e));
      fraction = λ e. absurd (omega (arith, e));
      literal = λ e. sym (inner_doubled (unquoted text));
    }

-- Any token

found_stays : (text : List ℕ) (c : ℕ) (other : ℕ) → (c ≡ other) ⊎ (c < 100) → (c ≡ other → Stays c text (spelling c text)) → Stays c text (spelling c text)
found_stays text c other h k = ⊎_elim k (λ l. table_stays c text l) h

in_state : (text : List ℕ) (s : State) → run Start text ≡ s → Stays (kind_number (kind_in s text)) text (spelling (kind_number (kind_in s text)) text)
in_state text InWord r = found_stays text (kind_number (found reserved (map small text) kind.Identifier)) 100 (found_code reserved (map small text) kind.Identifier refl)
    (λ h. subst (λ z. Stays z text (spelling z text)) (sym h) (ident_stays text r h))
in_state text InNumber r = number_stays text
in_state text InDecimals r = real_stays text r
in_state text BehindQuote r = literal_stays text r
in_state text _ r = found_stays text (kind_number (found delimiters text kind.Box)) 99 (found_code delimiters text kind.Box refl) (λ h. table_stays _ text (omega (arith, h)))

-- a token is the same token when it is written canonically
pub stays : (text : List ℕ) → Stays (kind_number (kind_of text)) text (spelling (kind_number (kind_of text)) text)
stays text = in_state text (run Start text) refl
