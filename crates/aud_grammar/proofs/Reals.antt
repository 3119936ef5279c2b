-- A real number means the same when it is written canonically: the digits of its whole part, a point, and three or four digits.
use Rattle.std.proofs.Common.{◌≡◌, ℕ, zero, suc, ◌+◌, ◌-◌, ◌<◌, ◌≤◌, List, [], ◌∷◌, ◌++◌, refl, sym, ap, ◌∙◌, subst, arith, Bool, true, false, inl, inr, ⊎_elim, leb-true}
use Rattle.std.proofs.lemmas.Bool.{ne_eqb, and_parts}
use Rattle.std.specs.Prelude.{◌⊎◌, ◌==◌, ◌||◌, nat_le, ◌*◌, ◌/◌, ◌%◌, if◌then◌else◌, Option, Some, None}
use Rattle.aud_lex.specs.declared.automaton.Class.{Class}
use Rattle.aud_lex.specs.declared.automaton.Class.TheVariants.{Letter, Digit, Underscore, Quote, Point, Colon, Equals, Less, Greater, Slash, Star, Single, Graphic, Control}
use Rattle.aud_lex.specs.declared.automaton.State.{State}
use Rattle.aud_lex.specs.declared.automaton.State.TheVariants.{Start, Dead, InNumber, NumberUnderscore, AfterPoint, InDecimals, DecimalsUnderscore, Whole}
use Rattle.aud_lex.specs.Bytes.{between, is_single, class}
use Rattle.aud_lex.specs.Tokens.{step, run}
use Rattle.aud_lex.proofs.Fronts.{run_dead}
use Rattle.aud_syntax.specs.Why.Printed.{decimal_digits}
use Rattle.aud_grammar.specs.Values.{with_digit, before_point, behind_point, only_digits, thousandths}

-- no byte is a point
abbrev pub Pointless : List ℕ → Type 0
Pointless [] = Unit {0}
Pointless (b ∷ bs) = ((b == 46) ≡ false) × Pointless bs

pub pointless_append : (bs cs : List ℕ) → Pointless bs → Pointless cs → Pointless (bs ++ cs)
pointless_append [] cs h k = k
pointless_append (b ∷ bs) cs h k = (h.0, pointless_append bs cs h.1 k)

pub before_append : (bs cs : List ℕ) → Pointless bs → before_point (bs ++ (46 ∷ cs)) ≡ bs
before_append [] cs h = refl
before_append (b ∷ bs) cs h = ap (λ t. if t then [] else b ∷ before_point (bs ++ (46 ∷ cs))) h.0 ∙ ap (λ z. b ∷ z) (before_append bs cs h.1)

pub behind_append : (bs cs : List ℕ) → Pointless bs → behind_point (bs ++ (46 ∷ cs)) ≡ cs
behind_append [] cs h = refl
behind_append (b ∷ bs) cs h = ap (λ t. if t then bs ++ (46 ∷ cs) else behind_point (bs ++ (46 ∷ cs))) h.0 ∙ behind_append bs cs h.1

-- what the class of a byte says of it: that it is a digit, an underscore or a point
abbrev tested : Class → Bool → Bool → Bool → Bool
tested Digit d u p = d
tested Underscore d u p = u
tested Point d u p = p
tested _ d u p = true

told_apart : (t1 t2 t3 t4 t5 t6 t7 t8 t9 t10 t11 t12 t13 : Bool) →
    tested (if t1 then Letter else if t2 then Digit else if t3 then Underscore else if t4 then Quote else if t5 then Point else if t6 then Colon else if t7 then Equals else if t8 then Less else if t9 then Greater
    else if t10 then Slash else if t11 then Star else if t12 then Single else if t13 then Graphic else Control) t2 t3 t5 ≡ true
told_apart true t2 t3 t4 t5 t6 t7 t8 t9 t10 t11 t12 t13 = refl
told_apart false true t3 t4 t5 t6 t7 t8 t9 t10 t11 t12 t13 = refl
told_apart false false true t4 t5 t6 t7 t8 t9 t10 t11 t12 t13 = refl
told_apart false false false true t5 t6 t7 t8 t9 t10 t11 t12 t13 = refl
told_apart false false false false true t6 t7 t8 t9 t10 t11 t12 t13 = refl
told_apart false false false false false true t7 t8 t9 t10 t11 t12 t13 = refl
told_apart false false false false false false true t8 t9 t10 t11 t12 t13 = refl
told_apart false false false false false false false true t9 t10 t11 t12 t13 = refl
told_apart false false false false false false false false true t10 t11 t12 t13 = refl
told_apart false false false false false false false false false true t11 t12 t13 = refl
told_apart false false false false false false false false false false true t12 t13 = refl
told_apart false false false false false false false false false false false true t13 = refl
told_apart false false false false false false false false false false false false true = refl
told_apart false false false false false false false false false false false false false = refl

class_tells : (b : ℕ) → tested (class b) (between 48 b 57) (b == 95) (b == 46) ≡ true
class_tells b = told_apart (between 65 b 90 || between 97 b 122) (between 48 b 57) (b == 95) (b == 34) (b == 46) (b == 58) (b == 61) (b == 60) (b == 62) (b == 47) (b == 42) (is_single b) (between 32 b 126)

class_is : (b : ℕ) (c : Class) → class b ≡ c → tested c (between 48 b 57) (b == 95) (b == 46) ≡ true
class_is b c e = subst (λ z. tested z (between 48 b 57) (b == 95) (b == 46) ≡ true) e (class_tells b)

-- Behind the point

-- bytes of which each is a digit, or less
abbrev AllDigits : List ℕ → Type 0
AllDigits [] = Unit {0}
AllDigits (b ∷ bs) = (b ≤ 57) × AllDigits bs

abbrev is_behind : State → Bool
is_behind AfterPoint = true
is_behind InDecimals = true
is_behind DecimalsUnderscore = true
is_behind _ = false

-- how a real number goes on behind its point
abbrev GoesBehind : State → Class → Type 0
GoesBehind s c = ((c ≡ Digit) × (step s c ≡ InDecimals)) ⊎ (((c ≡ Underscore) × (step s c ≡ DecimalsUnderscore)) ⊎ (step s c ≡ Dead))

goes_behind : (s : State) (c : Class) → is_behind s ≡ true → GoesBehind s c
goes_behind AfterPoint Digit h = inl (refl, refl)
goes_behind InDecimals Digit h = inl (refl, refl)
goes_behind DecimalsUnderscore Digit h = inl (refl, refl)
goes_behind InDecimals Underscore h = inr (inl (refl, refl))
goes_behind AfterPoint _ h = inr (inr refl)
goes_behind InDecimals _ h = inr (inr refl)
goes_behind DecimalsUnderscore _ h = inr (inr refl)
goes_behind _ c h = cc

dead_behind : (s : State) (bs : List ℕ) → s ≡ Dead → run s bs ≡ InDecimals → ⊥
dead_behind s bs e h = let i : Dead ≡ InDecimals = sym (run_dead bs) ∙ ap (λ z. run z bs) (sym e) ∙ h in cc

digit_first : (b : ℕ) (bs : List ℕ) → class b ≡ Digit → AllDigits (only_digits bs) → AllDigits (only_digits (b ∷ bs))
digit_first b bs e h =
    let k : b ≤ 57 = leb-true b 57 (and_parts (nat_le 48 b) (nat_le b 57) (class_is b Digit e)).1 in
    subst AllDigits (sym (ap (λ t. if t then only_digits bs else b ∷ only_digits bs) (ne_eqb b 95 (λ i. omega (arith, i, k))))) (k, h)

underscore_first : (b : ℕ) (bs : List ℕ) → class b ≡ Underscore → AllDigits (only_digits bs) → AllDigits (only_digits (b ∷ bs))
underscore_first b bs e h = subst AllDigits (sym (ap (λ t. if t then only_digits bs else b ∷ only_digits bs) (class_is b Underscore e))) h

pub digits_behind : (bs : List ℕ) (s : State) → is_behind s ≡ true → run s bs ≡ InDecimals → AllDigits (only_digits bs)
digits_behind [] s h r = tt
digits_behind (b ∷ bs) s h r = ⊎_elim
    (λ e. digit_first b bs e.0 (digits_behind bs InDecimals refl (ap (λ z. run z bs) (sym e.1) ∙ r)))
    (λ k. ⊎_elim
    (λ e. underscore_first b bs e.0 (digits_behind bs DecimalsUnderscore refl (ap (λ z. run z bs) (sym e.1) ∙ r)))
    (λ e. absurd (dead_behind (step s (class b)) bs e r))
    k)
    (goes_behind s (class b) h)

-- Before the point

abbrev is_before : State → Bool
is_before Start = true
is_before InNumber = true
is_before NumberUnderscore = true
is_before _ = false

-- a state from which no real number comes
abbrev is_lost : State → Bool
is_lost Start = false
is_lost InNumber = false
is_lost NumberUnderscore = false
is_lost AfterPoint = false
is_lost InDecimals = false
is_lost DecimalsUnderscore = false
is_lost _ = true

lost_step : (s : State) (c : Class) → is_lost s ≡ true → is_lost (step s c) ≡ true
lost_step Start c h = cc
lost_step InNumber c h = cc
lost_step NumberUnderscore c h = cc
lost_step AfterPoint c h = cc
lost_step InDecimals c h = cc
lost_step DecimalsUnderscore c h = cc
lost_step Dead c h = refl
lost_step Whole c h = refl
lost_step _ Letter h = refl
lost_step _ Digit h = refl
lost_step _ Underscore h = refl
lost_step _ Quote h = refl
lost_step _ Point h = refl
lost_step _ Colon h = refl
lost_step _ Equals h = refl
lost_step _ Less h = refl
lost_step _ Greater h = refl
lost_step _ Slash h = refl
lost_step _ Star h = refl
lost_step _ Single h = refl
lost_step _ Graphic h = refl
lost_step _ Control h = refl

lost_run : (bs : List ℕ) (s : State) → is_lost s ≡ true → is_lost (run s bs) ≡ true
lost_run [] s h = h
lost_run (b ∷ bs) s h = lost_run bs (step s (class b)) (lost_step s (class b) h)

lost_before : (s : State) (bs : List ℕ) → is_lost s ≡ true → run s bs ≡ InDecimals → ⊥
lost_before s bs h r = let i : is_lost InDecimals ≡ true = ap is_lost (sym r) ∙ lost_run bs s h in cc

-- how a real number goes on before its point
abbrev GoesBefore : State → Class → Type 0
GoesBefore s c = ((c ≡ Point) × (step s c ≡ AfterPoint)) ⊎ ((((c ≡ Digit) ⊎ (c ≡ Underscore)) × (is_before (step s c) ≡ true)) ⊎ (is_lost (step s c) ≡ true))

goes_before : (s : State) (c : Class) → is_before s ≡ true → GoesBefore s c
goes_before InNumber Point h = inl (refl, refl)
goes_before Start Digit h = inr (inl (inl refl, refl))
goes_before InNumber Digit h = inr (inl (inl refl, refl))
goes_before NumberUnderscore Digit h = inr (inl (inl refl, refl))
goes_before InNumber Underscore h = inr (inl (inr refl, refl))
goes_before Start _ h = inr (inr refl)
goes_before InNumber _ h = inr (inr refl)
goes_before NumberUnderscore _ h = inr (inr refl)
goes_before _ c h = cc

no_point : (b : ℕ) → (class b ≡ Digit) ⊎ (class b ≡ Underscore) → (b == 46) ≡ false
no_point b h = ne_eqb b 46 (λ e. let i : class b ≡ Point = ap class e in ⊎_elim (λ k. let x : Digit ≡ Point = sym k ∙ i in cc) (λ k. let x : Underscore ≡ Point = sym k ∙ i in cc) h)

pub to_point : (bs : List ℕ) (s : State) → is_before s ≡ true → run s bs ≡ InDecimals → run AfterPoint (behind_point bs) ≡ InDecimals
to_point [] s h r = let i : is_before InDecimals ≡ true = ap is_before (sym r) ∙ h in cc
to_point (b ∷ bs) s h r = ⊎_elim
    (λ e. ap (λ t. run AfterPoint (if t then bs else behind_point bs)) (class_is b Point e.0) ∙ ap (λ z. run z bs) (sym e.1) ∙ r)
    (λ k. ⊎_elim
    (λ e. ap (λ t. run AfterPoint (if t then bs else behind_point bs)) (no_point b e.0) ∙ to_point bs (step s (class b)) e.1 r)
    (λ e. absurd (lost_before (step s (class b)) bs e r))
    k)
    (goes_before s (class b) h)

-- The digits that are written

pub a_digit : (d n : ℕ) → d < 10 → (class (48 + d) ≡ Digit) × (with_digit n (48 + d) ≡ n * 10 + d)
a_digit zero n h = (refl, refl)
a_digit (suc zero) n h = (refl, refl)
a_digit (suc (suc zero)) n h = (refl, refl)
a_digit (suc (suc (suc zero))) n h = (refl, refl)
a_digit (suc (suc (suc (suc zero)))) n h = (refl, refl)
a_digit (suc (suc (suc (suc (suc zero))))) n h = (refl, refl)
a_digit (suc (suc (suc (suc (suc (suc zero)))))) n h = (refl, refl)
a_digit (suc (suc (suc (suc (suc (suc (suc zero))))))) n h = (refl, refl)
a_digit (suc (suc (suc (suc (suc (suc (suc (suc zero)))))))) n h = (refl, refl)
a_digit (suc (suc (suc (suc (suc (suc (suc (suc (suc zero))))))))) n h = (refl, refl)
a_digit (suc (suc (suc (suc (suc (suc (suc (suc (suc (suc d)))))))))) n h = absurd (omega arith)

kept : (d : ℕ) (bs : List ℕ) → d < 10 → only_digits ((48 + d) ∷ bs) ≡ (48 + d) ∷ only_digits bs
kept d bs h = ap (λ t. if t then only_digits bs else (48 + d) ∷ only_digits bs) (ne_eqb (48 + d) 95 (λ e. omega (arith, e, h)))

-- digits behind a point are the end of a real number, and mean so many thousandths
abbrev Means : List ℕ → Option ℕ → Type 0
Means bytes n = (run AfterPoint bytes ≡ InDecimals) × (thousandths (only_digits bytes) ≡ n)

three_digits : (x y z : ℕ) → x < 10 → y < 10 → z < 10 → Means ((48 + x) ∷ (48 + y) ∷ (48 + z) ∷ []) (Some (((0 * 10 + x) * 10 + y) * 10 + z))
three_digits x y z h i j = (
  ap (λ c. run (step AfterPoint c) ((48 + y) ∷ (48 + z) ∷ [])) (a_digit x 0 h).0 ∙ ap (λ c. run (step InDecimals c) ((48 + z) ∷ [])) (a_digit y 0 i).0 ∙ ap (λ c. step InDecimals c) (a_digit z 0 j).0,
  ap thousandths (kept x ((48 + y) ∷ (48 + z) ∷ []) h ∙ ap (λ bs. (48 + x) ∷ bs) (kept y ((48 + z) ∷ []) i ∙ ap (λ bs. (48 + y) ∷ bs) (kept z [] j)))
      ∙ ap (λ v. Some (with_digit (with_digit v (48 + y)) (48 + z))) (a_digit x 0 h).1
      ∙ ap (λ v. Some (with_digit v (48 + z))) (a_digit y (0 * 10 + x) i).1
      ∙ ap Some (a_digit z ((0 * 10 + x) * 10 + y) j).1,
)

abbrev Below : Option ℕ → Type 0
Below None = Unit {0}
Below (Some n) = n < 1000

at_most : (v b : ℕ) (t : Bool) → b ≤ 57 → (if t then v else v * 10 + (b - 48)) ≤ v * 10 + 9
at_most v b true h = omega arith
at_most v b false h = omega (arith, h)

below : (bs : List ℕ) → AllDigits bs → Below (thousandths bs)
below [] h = omega arith
below (a ∷ []) h = let i : with_digit 0 a ≤ 0 * 10 + 9 = at_most 0 a (a == 95) h.0 in omega (arith, i)
below (a ∷ b ∷ []) h =
    let i : with_digit 0 a ≤ 0 * 10 + 9 = at_most 0 a (a == 95) h.0 in
    let j : with_digit (with_digit 0 a) b ≤ with_digit 0 a * 10 + 9 = at_most (with_digit 0 a) b (b == 95) h.1.0 in
    omega (arith, i, j)
below (a ∷ b ∷ c ∷ []) h =
    let i : with_digit 0 a ≤ 0 * 10 + 9 = at_most 0 a (a == 95) h.0 in
    let j : with_digit (with_digit 0 a) b ≤ with_digit 0 a * 10 + 9 = at_most (with_digit 0 a) b (b == 95) h.1.0 in
    let k : with_digit (with_digit (with_digit 0 a) b) c ≤ with_digit (with_digit 0 a) b * 10 + 9 = at_most (with_digit (with_digit 0 a) b) c (c == 95) h.1.1.0 in
    omega (arith, i, j, k)
below (a ∷ b ∷ c ∷ d ∷ bs) h = tt

written_back : (n : Option ℕ) → Below n → Means (decimal_digits n) n
written_back None h = (refl, refl)
written_back (Some n) h =
    let m = three_digits (n / 100 % 10) (n / 10 % 10) (n % 10) (omega arith) (omega arith) (omega arith) in
    let e : ((0 * 10 + n / 100 % 10) * 10 + n / 10 % 10) * 10 + n % 10 ≡ n = omega (arith, h) in
    (m.0, m.1 ∙ ap Some e)

pub decimals_stay : (bs : List ℕ) → AllDigits bs → Means (decimal_digits (thousandths bs)) (thousandths bs)
decimals_stay bs h = written_back (thousandths bs) (below bs h)
