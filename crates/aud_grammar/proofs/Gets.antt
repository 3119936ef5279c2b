-- What can go on: each symbol derives some tokens, and each kind with which a phrase can begin does begin some.
use Rattle.std.specs.Prelude.{◌≡◌, ◌⊎◌, ℕ, zero, suc, List, [], ◌∷◌, ◌++◌, Bool, true, false, ◌==◌, if◌then◌else◌, refl}
use Rattle.std.proofs.Common.{inl, inr, ⊎_elim, ◌≤◌, arith}
use Rattle.std.proofs.lemmas.Bool.{eq-eqb}
use Rattle.aud_lex.specs.declared.token.Kind.{Kind}
use Rattle.aud_lex.specs.declared.token.Kind.TheVariants as kind
use Rattle.aud_lex.specs.Element.{Element}
use Rattle.aud_lex.specs.Kinds.{kind_number}
use Rattle.aud_grammar.specs.Grammar as g
use Rattle.aud_grammar.specs.Grammar.{Word, Ada, TextIo, Duration, Phrase, Symbol, T, P, W, N, L, Down, A, Opt, Rep, rule}
use Rattle.aud_grammar.specs.First.{spelling, among, is_word, next_in, firsts, first_of, first_of_all, first_within}
use Rattle.aud_grammar.specs.Parsed.{Verdict, Good, Wrong, Deep}
use Rattle.aud_grammar.specs.Actions.{Item, token, none, listed, made}
use Rattle.aud_grammar.specs.Why.Derives.{Member, here, Derives, d_end, d_word, d_token, d_spelled, d_rule, d_level, d_down, d_one, d_yes, d_no, d_more, d_stop}
use Rattle.aud_grammar.proofs.Choices.{or_in, or_left, or_right, and_in, both}
use Rattle.aud_grammar.proofs.Sound.{push_one}

-- more room does no harm

level_more : {p : Phrase} {k : List Symbol} {r : ℕ} {ds : List Item} {ts : List Element} → ((q : ℕ) → r ≤ q → Derives (N p ∷ k) q ds ts) → (q : ℕ) → suc r ≤ q → Derives (L p ∷ k) q ds ts
level_more d zero le = absurd (omega arith)
level_more d (suc q) le = d_level (d q (omega arith))

pub more_room : {s : List Symbol} {r : ℕ} {ds : List Item} {ts : List Element} → Derives s r ds ts → (q : ℕ) → r ≤ q → Derives s q ds ts
more_room d_end q le = d_end
more_room (d_word h d) q le = d_word h (more_room d q le)
more_room (d_token h d) q le = d_token h (more_room d q le)
more_room (d_spelled h d) q le = d_spelled h (more_room d q le)
more_room (d_rule d) q le = d_rule (more_room d q le)
more_room (d_level d) q le = level_more (λ x i. more_room d x i) q le
more_room (d_down d) q le = d_down (more_room d (suc q) (omega arith))
more_room (d_one m d) q le = d_one m (more_room d q le)
more_room (d_yes d) q le = d_yes (more_room d q le)
more_room (d_no d) q le = d_no (more_room d q le)
more_room (d_more d) q le = d_more (more_room d q le)
more_room (d_stop d) q le = d_stop (more_room d q le)

-- the symbols derive some tokens that begin with these, with some room

abbrev pub Gets : List Symbol → List Element → Type 0
Gets k front = (r : ℕ) × (es : List Item) × (us : List Element) × Derives k r es (front ++ us)

-- a test that symbols, looked at n rules deep, begin with no identifier that the grammar names: then each kind with which they can begin does begin some tokens
abbrev all_of : (Phrase → Bool) → List Phrase → Bool
all_of f [] = true
all_of f (p ∷ ps) = both (f p) (all_of f ps)

abbrev exact_seq : (Phrase → Bool) → List Symbol → Bool
exact_seq f [] = true
exact_seq f (T c ∷ s) = true
exact_seq f (P c ∷ s) = true
exact_seq f (W w ∷ s) = false
exact_seq f (N p ∷ s) = f p
exact_seq f (L p ∷ s) = f p
exact_seq f (Down ∷ s) = exact_seq f s
exact_seq f (A ps ∷ s) = all_of f ps
exact_seq f (Opt p ∷ s) = both (f p) (exact_seq f s)
exact_seq f (Rep p ∷ s) = both (f p) (exact_seq f s)

abbrev exact_within : ℕ → Phrase → Bool
exact_within zero p = false
exact_within (suc n) p = exact_seq (exact_within n) (rule p)

abbrev pub exact : Phrase → Bool
exact = exact_within 12

-- no choice is empty, and what opens a level is exact
abbrev pub Full : List Symbol → Type 0
Full [] = Unit {0}
Full (A [] ∷ s) = ⊥
Full (A (p ∷ ps) ∷ s) = Full s
Full (T c ∷ s) = Full s
Full (P c ∷ s) = Full s
Full (W w ∷ s) = Full s
Full (N p ∷ s) = Full s
Full (L p ∷ s) = (exact p ≡ true) × Full s
Full (Down ∷ s) = Full s
Full (Opt p ∷ s) = Full s
Full (Rep p ∷ s) = Full s

pub full_append : (s k : List Symbol) → Full s → Full k → Full (s ++ k)
full_append [] k h i = i
full_append (A [] ∷ s) k h i = absurd h
full_append (A (p ∷ ps) ∷ s) k h i = full_append s k h i
full_append (T c ∷ s) k h i = full_append s k h i
full_append (P c ∷ s) k h i = full_append s k h i
full_append (W w ∷ s) k h i = full_append s k h i
full_append (N p ∷ s) k h i = full_append s k h i
full_append (L p ∷ s) k h i = (h.0, full_append s k h.1 i)
full_append (Down ∷ s) k h i = full_append s k h i
full_append (Opt p ∷ s) k h i = full_append s k h i
full_append (Rep p ∷ s) k h i = full_append s k h i

-- the same as a test
abbrev full_test : List Symbol → Bool
full_test [] = true
full_test (T c ∷ s) = full_test s
full_test (P c ∷ s) = full_test s
full_test (W w ∷ s) = full_test s
full_test (N p ∷ s) = full_test s
full_test (L p ∷ s) = both (exact p) (full_test s)
full_test (Down ∷ s) = full_test s
full_test (A [] ∷ s) = false
full_test (A (p ∷ ps) ∷ s) = full_test s
full_test (Opt p ∷ s) = full_test s
full_test (Rep p ∷ s) = full_test s

full_tests : (s : List Symbol) → full_test s ≡ true → Full s
full_tests [] h = tt
full_tests (T c ∷ s) h = full_tests s h
full_tests (P c ∷ s) h = full_tests s h
full_tests (W w ∷ s) h = full_tests s h
full_tests (N p ∷ s) h = full_tests s h
full_tests (L p ∷ s) h = let t = and_in (exact p) (full_test s) h in (t.0, full_tests s t.1)
full_tests (Down ∷ s) h = full_tests s h
full_tests (A [] ∷ s) h = cc
full_tests (A (p ∷ ps) ∷ s) h = full_tests s h
full_tests (Opt p ∷ s) h = full_tests s h
full_tests (Rep p ∷ s) h = full_tests s h

table_full_test : (p : Phrase) → full_test (rule p) ≡ true
table_full_test g.Expression = refl
table_full_test _ = refl

pub table_full : (p : Phrase) → Full (rule p)
table_full p = full_tests (rule p) (table_full_test p)

same_code : (c : Kind) → among (c ∷ []) (kind_number c) ≡ true
same_code c = or_left (kind_number c == kind_number c) false (eq-eqb (kind_number c) (kind_number c) refl)

pub gets_word : (c : Kind) (t : Element) (k : List Symbol) (front : List Element) → among (c ∷ []) (kind_number t.kind) ≡ true → Gets k front → Gets (T c ∷ k) (t ∷ front)
gets_word c t k front e h = (h.0, h.1, h.2, d_word e h.3)

pub gets_token : (c : Kind) (t : Element) (k : List Symbol) (front : List Element) → among (c ∷ []) (kind_number t.kind) ≡ true → Gets k front → Gets (P c ∷ k) (t ∷ front)
gets_token c t k front e h = (h.0, token t ∷ h.1, h.2, d_token e h.3)

pub gets_spelled : (w : Word) (t : Element) (k : List Symbol) (front : List Element) → is_word w t ≡ true → Gets k front → Gets (W w ∷ k) (t ∷ front)
gets_spelled w t k front e h = (h.0, token t ∷ h.1, h.2, d_spelled e h.3)

-- its first token forgotten
gets_less : (k : List Symbol) (t : Element) → Gets k (t ∷ []) → Gets k []
gets_less k t h = (h.0, h.1, t ∷ h.2, h.3)

pub gets_rule : (p : Phrase) (k : List Symbol) (front : List Element) → Gets (rule p ++ k) front → Gets (N p ∷ k) front
gets_rule p k front h = (h.0, made p h.1, h.2, d_rule h.3)

pub gets_level : (p : Phrase) (k : List Symbol) (front : List Element) → Gets (N p ∷ k) front → Gets (L p ∷ k) front
gets_level p k front h = (suc h.0, h.1, h.2, d_level h.3)

pub gets_down : (k : List Symbol) (front : List Element) → Gets k front → Gets (Down ∷ k) front
gets_down k front h = (h.0, h.1, h.2, d_down (more_room h.3 (suc h.0) (omega arith)))

pub gets_one : (p : Phrase) (ps : List Phrase) (k : List Symbol) (front : List Element) → Member p ps → Gets (N p ∷ k) front → Gets (A ps ∷ k) front
gets_one p ps k front m h = (h.0, h.1, h.2, d_one m h.3)

pub gets_other : (p : Phrase) (ps : List Phrase) (k : List Symbol) (front : List Element) → Gets (A ps ∷ k) front → Gets (A (p ∷ ps) ∷ k) front
gets_other p ps k front h = (h.0, h.1, h.2, push_one p h.3)

pub gets_yes : (p : Phrase) (k : List Symbol) (front : List Element) → Gets (N p ∷ k) front → Gets (Opt p ∷ k) front
gets_yes p k front h = (h.0, h.1, h.2, d_yes h.3)

pub gets_no : (p : Phrase) (k : List Symbol) (front : List Element) → Gets k front → Gets (Opt p ∷ k) front
gets_no p k front h = (h.0, none ∷ h.1, h.2, d_no h.3)

pub gets_more : (p : Phrase) (k : List Symbol) (front : List Element) → Gets (N p ∷ Rep p ∷ k) front → Gets (Rep p ∷ k) front
gets_more p k front h = (h.0, listed h.1, h.2, d_more h.3)

pub gets_stop : (p : Phrase) (k : List Symbol) (front : List Element) → Gets k front → Gets (Rep p ∷ k) front
gets_stop p k front h = (h.0, none ∷ h.1, h.2, d_stop h.3)

-- a test that a phrase derives some tokens in n steps down
abbrev some_of : (Phrase → Bool) → List Phrase → Bool
some_of f [] = false
some_of f (p ∷ ps) = if f p then true else some_of f ps

abbrev ends_seq : (Phrase → Bool) → List Symbol → Bool
ends_seq f [] = true
ends_seq f (T c ∷ s) = ends_seq f s
ends_seq f (P c ∷ s) = ends_seq f s
ends_seq f (W w ∷ s) = ends_seq f s
ends_seq f (N p ∷ s) = both (f p) (ends_seq f s)
ends_seq f (L p ∷ s) = both (f p) (ends_seq f s)
ends_seq f (Down ∷ s) = ends_seq f s
ends_seq f (A ps ∷ s) = both (some_of f ps) (ends_seq f s)
ends_seq f (Opt p ∷ s) = ends_seq f s
ends_seq f (Rep p ∷ s) = ends_seq f s

abbrev ends_within : ℕ → Phrase → Bool
ends_within zero p = false
ends_within (suc n) p = ends_seq (ends_within n) (rule p)

abbrev Extends : (Phrase → Bool) → Type 0
Extends f = (p : Phrase) → f p ≡ true → (k : List Symbol) → Gets k [] → Gets (N p ∷ k) []

-- a token of this kind
abbrev any_token : Kind → Element
any_token c = record { kind = c; text = []; at = record { line = 1; col = 1 } }

can_word : (c : Kind) (k : List Symbol) → Gets k [] → Gets (T c ∷ k) []
can_word c k h = gets_less (T c ∷ k) _ (gets_word c (any_token c) k [] (same_code c) h)

can_token : (c : Kind) (k : List Symbol) → Gets k [] → Gets (P c ∷ k) []
can_token c k h = gets_less (P c ∷ k) _ (gets_token c (any_token c) k [] (same_code c) h)

-- the identifier itself
abbrev the_word : Word → Element
the_word w = record { kind = kind.Identifier; text = spelling w; at = record { line = 1; col = 1 } }

same_word : (w : Word) → is_word w (the_word w) ≡ true
same_word Ada = refl
same_word TextIo = refl
same_word Duration = refl

can_spelled : (w : Word) (k : List Symbol) → Gets k [] → Gets (W w ∷ k) []
can_spelled w k h = gets_less (W w ∷ k) _ (gets_spelled w (the_word w) k [] (same_word w) h)

can_some : (f : Phrase → Bool) → Extends f → (ps : List Phrase) (k : List Symbol) → some_of f ps ≡ true → Gets k [] → Gets (A ps ∷ k) []
can_some f ext [] k e h = cc
can_some f ext (p ∷ ps) k e h = ⊎_elim (λ i. gets_one p (p ∷ ps) k [] here (ext p i k h)) (λ i. gets_other p ps k [] (can_some f ext ps k i h)) (or_in (f p) (some_of f ps) e)

can_seq : (f : Phrase → Bool) → Extends f → (s k : List Symbol) → ends_seq f s ≡ true → Gets k [] → Gets (s ++ k) []
can_seq f ext [] k e h = h
can_seq f ext (T c ∷ s) k e h = can_word c (s ++ k) (can_seq f ext s k e h)
can_seq f ext (P c ∷ s) k e h = can_token c (s ++ k) (can_seq f ext s k e h)
can_seq f ext (W w ∷ s) k e h = can_spelled w (s ++ k) (can_seq f ext s k e h)
can_seq f ext (N p ∷ s) k e h = let t = and_in (f p) (ends_seq f s) e in ext p t.0 (s ++ k) (can_seq f ext s k t.1 h)
can_seq f ext (L p ∷ s) k e h = let t = and_in (f p) (ends_seq f s) e in gets_level p (s ++ k) [] (ext p t.0 (s ++ k) (can_seq f ext s k t.1 h))
can_seq f ext (Down ∷ s) k e h = gets_down (s ++ k) [] (can_seq f ext s k e h)
can_seq f ext (A ps ∷ s) k e h = let t = and_in (some_of f ps) (ends_seq f s) e in can_some f ext ps (s ++ k) t.0 (can_seq f ext s k t.1 h)
can_seq f ext (Opt p ∷ s) k e h = gets_no p (s ++ k) [] (can_seq f ext s k e h)
can_seq f ext (Rep p ∷ s) k e h = gets_stop p (s ++ k) [] (can_seq f ext s k e h)

can_within : (n : ℕ) → Extends (ends_within n)
can_within zero p e k h = cc
can_within (suc n) p e k h = gets_rule p k [] (can_seq (ends_within n) (can_within n) (rule p) k e h)

table_ends : (p : Phrase) → ends_within 16 p ≡ true
table_ends g.Expression = refl
table_ends _ = refl

can_part : (p : Phrase) (k : List Symbol) → Gets k [] → Gets (N p ∷ k) []
can_part p k h = can_within 16 p (table_ends p) k h

pub can : (s : List Symbol) → Full s → Gets s []
can [] f = (0, [], [], d_end)
can (T c ∷ s) f = can_word c s (can s f)
can (P c ∷ s) f = can_token c s (can s f)
can (W w ∷ s) f = can_spelled w s (can s f)
can (N p ∷ s) f = can_part p s (can s f)
can (L p ∷ s) f = gets_level p s [] (can_part p s (can s f.1))
can (Down ∷ s) f = gets_down s [] (can s f)
can (A [] ∷ s) f = absurd f
can (A (p ∷ ps) ∷ s) f = gets_one p (p ∷ ps) s [] here (can_part p s (can s f))
can (Opt p ∷ s) f = gets_no p s [] (can s f)
can (Rep p ∷ s) f = gets_stop p s [] (can s f)

-- each kind with which a phrase can begin does begin some tokens that it derives

among_either : (F G : List Kind) (c : ℕ) → among (F ++ G) c ≡ true → (among F c ≡ true) ⊎ (among G c ≡ true)
among_either [] G c h = inr h
among_either (x ∷ F) G c h = ⊎_elim (λ e. inl (or_left (c == kind_number x) _ e)) (λ e. ⊎_elim (λ i. inl (or_right (c == kind_number x) _ i)) (λ i. inr i) (among_either F G c e)) (or_in (c == kind_number x) (among (F ++ G) c) h)

abbrev Starts : Element → (Phrase → List Kind) → (Phrase → Bool) → Type 0
Starts t f x = (p : Phrase) → x p ≡ true → among (f p) (kind_number t.kind) ≡ true → (k : List Symbol) → Full k → Gets (N p ∷ k) (t ∷ [])

start_all : (t : Element) (f : Phrase → List Kind) (x : Phrase → Bool) → Starts t f x → (ps : List Phrase) (k : List Symbol) → Full k → all_of x ps ≡ true → among (first_of_all f ps) (kind_number t.kind) ≡ true → Gets (A ps ∷ k) (t ∷ [])
start_all t f x st [] k u y e = cc
start_all t f x st (p ∷ ps) k u y e =
    let z = and_in (x p) (all_of x ps) y in
    ⊎_elim (λ i. gets_one p (p ∷ ps) k (t ∷ []) here (st p z.0 i k u)) (λ i. gets_other p ps k (t ∷ []) (start_all t f x st ps k u z.1 i)) (among_either (f p) (first_of_all f ps) (kind_number t.kind) e)

start_seq : (t : Element) (f : Phrase → List Kind) (x : Phrase → Bool) → Starts t f x → (s k : List Symbol) → Full s → Full k → exact_seq x s ≡ true → among (first_of f s) (kind_number t.kind) ≡ true → Gets (s ++ k) (t ∷ [])
start_seq t f x st [] k u w y e = cc
start_seq t f x st (T c ∷ s) k u w y e = gets_word c t (s ++ k) [] e (can (s ++ k) (full_append s k u w))
start_seq t f x st (P c ∷ s) k u w y e = gets_token c t (s ++ k) [] e (can (s ++ k) (full_append s k u w))
start_seq t f x st (W c ∷ s) k u w y e = cc
start_seq t f x st (N p ∷ s) k u w y e = st p y e (s ++ k) (full_append s k u w)
start_seq t f x st (L p ∷ s) k u w y e = gets_level p (s ++ k) (t ∷ []) (st p y e (s ++ k) (full_append s k u.1 w))
start_seq t f x st (Down ∷ s) k u w y e = gets_down (s ++ k) (t ∷ []) (start_seq t f x st s k u w y e)
start_seq t f x st (A [] ∷ s) k u w y e = absurd u
start_seq t f x st (A (p ∷ ps) ∷ s) k u w y e = start_all t f x st (p ∷ ps) (s ++ k) (full_append s k u w) y e
start_seq t f x st (Opt p ∷ s) k u w y e =
    let z = and_in (x p) (exact_seq x s) y in
    ⊎_elim (λ i. gets_yes p (s ++ k) (t ∷ []) (st p z.0 i (s ++ k) (full_append s k u w))) (λ i. gets_no p (s ++ k) (t ∷ []) (start_seq t f x st s k u w z.1 i)) (among_either (f p) (first_of f s) (kind_number t.kind) e)
start_seq t f x st (Rep p ∷ s) k u w y e =
    let z = and_in (x p) (exact_seq x s) y in
    ⊎_elim (λ i. gets_more p (s ++ k) (t ∷ []) (st p z.0 i (Rep p ∷ (s ++ k)) (full_append s k u w))) (λ i. gets_stop p (s ++ k) (t ∷ []) (start_seq t f x st s k u w z.1 i)) (among_either (f p) (first_of f s) (kind_number t.kind) e)

start_within : (t : Element) (n : ℕ) → Starts t (first_within n) (exact_within n)
start_within t zero p y e k u = cc
start_within t (suc n) p y e k u = gets_rule p k (t ∷ []) (start_seq t (first_within n) (exact_within n) (start_within t n) (rule p) k (table_full p) u y e)

-- the token that opens one level too many
abbrev pub reach_of : Verdict → List Element
reach_of Good = []
reach_of (Wrong ts) = []
reach_of (Deep []) = []
reach_of (Deep (t ∷ ts)) = t ∷ []

pub deep_gets : (p : Phrase) (k : List Symbol) (ts : List Element) → next_in (firsts p) ts ≡ true → Full (L p ∷ k) → Gets (L p ∷ k) (reach_of (Deep ts))
deep_gets p k [] e u = cc
deep_gets p k (t ∷ ts) e u = gets_level p k (t ∷ []) (start_within t 12 p u.0 e k u.1)
