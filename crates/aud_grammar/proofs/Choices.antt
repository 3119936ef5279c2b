-- What symbols can begin with, and that the next token decides each choice of the grammar.
use Rattle.std.specs.Prelude.{◌≡◌, ◌⊎◌, ℕ, List, [], ◌∷◌, ◌++◌, Bool, true, false, ◌==◌, if◌then◌else◌, refl}
use Rattle.std.proofs.Common.{sym, ap, ◌∙◌, subst, inl, inr, ⊎_elim}
use Rattle.std.proofs.lemmas.Bool.{eqb-true}
use Rattle.aud_lex.specs.declared.token.Kind.{Kind}
use Rattle.aud_lex.specs.declared.token.Kind.TheVariants as kind
use Rattle.aud_lex.specs.Element.{Element}
use Rattle.aud_grammar.specs.Grammar as g
use Rattle.aud_grammar.specs.Grammar.{Phrase, Symbol, T, P, W, N, L, Down, A, Opt, Rep, rule}
use Rattle.aud_lex.specs.Kinds.{kind_number}
use Rattle.aud_grammar.specs.First.{among, next_in, firsts}
use Rattle.aud_grammar.specs.Actions.{Item}
use Rattle.aud_grammar.specs.Why.Derives.{Member, here, later, Derives, d_end, d_word, d_token, d_spelled, d_rule, d_level, d_down, d_one, d_yes, d_no, d_more, d_stop}
use Rattle.aud_grammar.proofs.Tables.{follow}

-- sets of kinds, as numbers

abbrev pub mem : List ℕ → ℕ → Bool
mem [] c = false
mem (x ∷ xs) c = if c == x then true else mem xs c

abbrev pub codes : List Kind → List ℕ
codes [] = []
codes (k ∷ ks) = kind_number k ∷ codes ks

abbrev pub next_code : List Element → ℕ
next_code [] = 999
next_code (t ∷ ts) = kind_number t.kind

abbrev pub Sub : List ℕ → List ℕ → Type 0
Sub F G = (c : ℕ) → mem F c ≡ true → mem G c ≡ true

abbrev pub Apart : List ℕ → List ℕ → Type 0
Apart F G = (c : ℕ) → mem F c ≡ true → mem G c ≡ true → ⊥

pub or_in : (b x : Bool) → (if b then true else x) ≡ true → (b ≡ true) ⊎ (x ≡ true)
or_in true x h = inl refl
or_in false x h = inr h

pub or_left : (b x : Bool) → b ≡ true → (if b then true else x) ≡ true
or_left true x h = refl
or_left false x h = cc

pub or_right : (b x : Bool) → x ≡ true → (if b then true else x) ≡ true
or_right true x h = refl
or_right false x h = h

pub and_in : (b x : Bool) → (if b then x else false) ≡ true → (b ≡ true) × (x ≡ true)
and_in true x h = (refl, h)
and_in false x h = cc

pub not_in : (b x : Bool) → (if b then false else x) ≡ true → (b ≡ false) × (x ≡ true)
not_in true x h = cc
not_in false x h = (refl, h)

pub not_both : (b : Bool) → b ≡ true → b ≡ false → ⊥
not_both b h i = cc

pub is_false : (b : Bool) → (b ≡ true → ⊥) → b ≡ false
is_false true h = absurd (h refl)
is_false false h = refl

pub mem_left : (F G : List ℕ) (c : ℕ) → mem F c ≡ true → mem (F ++ G) c ≡ true
mem_left [] G c h = cc
mem_left (x ∷ F) G c h = ⊎_elim (λ e. or_left (c == x) _ e) (λ e. or_right (c == x) _ (mem_left F G c e)) (or_in (c == x) (mem F c) h)

pub mem_right : (F G : List ℕ) (c : ℕ) → mem G c ≡ true → mem (F ++ G) c ≡ true
mem_right [] G c h = h
mem_right (x ∷ F) G c h = or_right (c == x) _ (mem_right F G c h)

pub mem_either : (F G : List ℕ) (c : ℕ) → mem (F ++ G) c ≡ true → (mem F c ≡ true) ⊎ (mem G c ≡ true)
mem_either [] G c h = inr h
mem_either (x ∷ F) G c h = ⊎_elim (λ e. inl (or_left (c == x) _ e)) (λ e. ⊎_elim (λ i. inl (or_right (c == x) _ i)) (λ i. inr i) (mem_either F G c e)) (or_in (c == x) (mem (F ++ G) c) h)

pub codes_append : (ks ls : List Kind) → codes (ks ++ ls) ≡ codes ks ++ codes ls
codes_append [] ls = refl
codes_append (k ∷ ks) ls = ap (λ z. kind_number k ∷ z) (codes_append ks ls)

pub mem_codes : (ks : List Kind) (c : ℕ) → mem (codes ks) c ≡ among ks c
mem_codes [] c = refl
mem_codes (k ∷ ks) c = ap (λ z. if c == kind_number k then true else z) (mem_codes ks c)

pub not_the_end : (k : Kind) → (999 == kind_number k) ≡ false
not_the_end kind.Procedure = refl
not_the_end _ = refl

pub end_not_among : (ks : List Kind) → among ks 999 ≡ false
end_not_among [] = refl
end_not_among (k ∷ ks) = ap (λ b. if b then true else among ks 999) (not_the_end k) ∙ end_not_among ks

pub next_is : (ks : List Kind) (ts : List Element) → next_in ks ts ≡ mem (codes ks) (next_code ts)
next_is ks [] = sym (mem_codes ks 999 ∙ end_not_among ks)
next_is ks (t ∷ ts) = sym (mem_codes ks (kind_number t.kind))

-- the kinds with which a phrase, one of several phrases, and symbols before what follows them can begin

abbrev pub fs : Phrase → List ℕ
fs p = codes (firsts p)

abbrev pub fs_all : List Phrase → List ℕ
fs_all [] = []
fs_all (p ∷ ps) = fs p ++ fs_all ps

abbrev pub first_seq : List Symbol → List ℕ → List ℕ
first_seq [] F = F
first_seq (T c ∷ s) F = kind_number c ∷ []
first_seq (P c ∷ s) F = kind_number c ∷ []
first_seq (W w ∷ s) F = kind_number kind.Identifier ∷ []
first_seq (N p ∷ s) F = fs p
first_seq (L p ∷ s) F = fs p
first_seq (Down ∷ s) F = first_seq s F
first_seq (A ps ∷ s) F = fs_all ps
first_seq (Opt p ∷ s) F = fs p ++ first_seq s F
first_seq (Rep p ∷ s) F = fs p ++ first_seq s F

-- each choice is decided by the next token

abbrev pub AllFollow : List Phrase → List ℕ → Type 0
AllFollow [] G = Unit {0}
AllFollow (p ∷ ps) G = Sub G (follow p) × AllFollow ps G

abbrev pub Distinct : List Phrase → Type 0
Distinct [] = Unit {0}
Distinct (p ∷ ps) = Apart (fs p) (fs_all ps) × Distinct ps

abbrev pub Clean : List Symbol → List ℕ → Type 0
Clean [] F = Unit {0}
Clean (T c ∷ s) F = Clean s F
Clean (P c ∷ s) F = Clean s F
Clean (W w ∷ s) F = Clean s F
Clean (N p ∷ s) F = Sub (first_seq s F) (follow p) × Clean s F
Clean (L p ∷ s) F = Sub (first_seq s F) (follow p) × Clean s F
Clean (Down ∷ s) F = Clean s F
Clean (A ps ∷ s) F = AllFollow ps (first_seq s F) × Distinct ps × Clean s F
Clean (Opt p ∷ s) F = Apart (fs p) (first_seq s F) × Sub (first_seq s F) (follow p) × Clean s F
Clean (Rep p ∷ s) F = Apart (fs p) (first_seq s F) × Sub (fs p ++ first_seq s F) (follow p) × Clean s F

-- the same as tests

abbrev pub sub_test : List ℕ → List ℕ → Bool
sub_test [] G = true
sub_test (x ∷ F) G = if mem G x then sub_test F G else false

abbrev pub apart_test : List ℕ → List ℕ → Bool
apart_test [] G = true
apart_test (x ∷ F) G = if mem G x then false else apart_test F G

pub sub_tests : (F G : List ℕ) → sub_test F G ≡ true → Sub F G
sub_tests [] G h c m = cc
sub_tests (x ∷ F) G h c m =
    let t = and_in (mem G x) (sub_test F G) h in
    ⊎_elim (λ e. subst (λ n. mem G n ≡ true) (sym (eqb-true c x e)) t.0) (λ e. sub_tests F G t.1 c e) (or_in (c == x) (mem F c) m)

pub apart_tests : (F G : List ℕ) → apart_test F G ≡ true → Apart F G
apart_tests [] G h c m n = cc
apart_tests (x ∷ F) G h c m n =
    let t = not_in (mem G x) (apart_test F G) h in
    ⊎_elim (λ e. not_both (mem G x) (subst (λ y. mem G y ≡ true) (eqb-true c x e) n) t.0) (λ e. apart_tests F G t.1 c e n) (or_in (c == x) (mem F c) m)

abbrev pub both : Bool → Bool → Bool
both b x = if b then x else false

abbrev pub all_follow_test : List Phrase → List ℕ → Bool
all_follow_test [] G = true
all_follow_test (p ∷ ps) G = both (sub_test G (follow p)) (all_follow_test ps G)

abbrev pub distinct_test : List Phrase → Bool
distinct_test [] = true
distinct_test (p ∷ ps) = both (apart_test (fs p) (fs_all ps)) (distinct_test ps)

abbrev pub clean_test : List Symbol → List ℕ → Bool
clean_test [] F = true
clean_test (T c ∷ s) F = clean_test s F
clean_test (P c ∷ s) F = clean_test s F
clean_test (W w ∷ s) F = clean_test s F
clean_test (N p ∷ s) F = both (sub_test (first_seq s F) (follow p)) (clean_test s F)
clean_test (L p ∷ s) F = both (sub_test (first_seq s F) (follow p)) (clean_test s F)
clean_test (Down ∷ s) F = clean_test s F
clean_test (A ps ∷ s) F = both (all_follow_test ps (first_seq s F)) (both (distinct_test ps) (clean_test s F))
clean_test (Opt p ∷ s) F = both (apart_test (fs p) (first_seq s F)) (both (sub_test (first_seq s F) (follow p)) (clean_test s F))
clean_test (Rep p ∷ s) F = both (apart_test (fs p) (first_seq s F)) (both (sub_test (fs p ++ first_seq s F) (follow p)) (clean_test s F))

pub all_follow_tests : (ps : List Phrase) (G : List ℕ) → all_follow_test ps G ≡ true → AllFollow ps G
all_follow_tests [] G h = tt
all_follow_tests (p ∷ ps) G h = let t = and_in (sub_test G (follow p)) _ h in (sub_tests _ _ t.0, all_follow_tests ps G t.1)

pub distinct_tests : (ps : List Phrase) → distinct_test ps ≡ true → Distinct ps
distinct_tests [] h = tt
distinct_tests (p ∷ ps) h = let t = and_in (apart_test (fs p) (fs_all ps)) _ h in (apart_tests _ _ t.0, distinct_tests ps t.1)

pub clean_tests : (s : List Symbol) (F : List ℕ) → clean_test s F ≡ true → Clean s F
clean_tests [] F h = tt
clean_tests (T c ∷ s) F h = clean_tests s F h
clean_tests (P c ∷ s) F h = clean_tests s F h
clean_tests (W w ∷ s) F h = clean_tests s F h
clean_tests (N p ∷ s) F h = let t = and_in (sub_test (first_seq s F) (follow p)) _ h in (sub_tests _ _ t.0, clean_tests s F t.1)
clean_tests (L p ∷ s) F h = let t = and_in (sub_test (first_seq s F) (follow p)) _ h in (sub_tests _ _ t.0, clean_tests s F t.1)
clean_tests (Down ∷ s) F h = clean_tests s F h
clean_tests (A ps ∷ s) F h =
    let t = and_in (all_follow_test ps (first_seq s F)) _ h in
    let u = and_in (distinct_test ps) _ t.1 in
    (all_follow_tests _ _ t.0, distinct_tests _ u.0, clean_tests s F u.1)
clean_tests (Opt p ∷ s) F h =
    let t = and_in (apart_test (fs p) (first_seq s F)) _ h in
    let u = and_in (sub_test (first_seq s F) (follow p)) _ t.1 in
    (apart_tests _ _ t.0, sub_tests _ _ u.0, clean_tests s F u.1)
clean_tests (Rep p ∷ s) F h =
    let t = and_in (apart_test (fs p) (first_seq s F)) _ h in
    let u = and_in (sub_test (fs p ++ first_seq s F) (follow p)) _ t.1 in
    (apart_tests _ _ t.0, sub_tests _ _ u.0, clean_tests s F u.1)

-- the grammar passes the tests, phrase by phrase, as the checker computes
pub table_clean_test : (p : Phrase) → clean_test (rule p) (follow p) ≡ true
table_clean_test g.Expression = refl
table_clean_test _ = refl

pub table_first_test : (p : Phrase) (F : List ℕ) → sub_test (first_seq (rule p) F) (fs p) ≡ true
table_first_test g.Expression F = refl
table_first_test _ F = refl

pub table_clean : (p : Phrase) → Clean (rule p) (follow p)
table_clean p = clean_tests (rule p) (follow p) (table_clean_test p)

pub table_first : (p : Phrase) (F : List ℕ) → Sub (first_seq (rule p) F) (fs p)
table_first p F = sub_tests _ _ (table_first_test p F)

-- lists of symbols put together

pub first_append : (s k : List Symbol) (F : List ℕ) → first_seq (s ++ k) F ≡ first_seq s (first_seq k F)
first_append [] k F = refl
first_append (T c ∷ s) k F = refl
first_append (P c ∷ s) k F = refl
first_append (W w ∷ s) k F = refl
first_append (N p ∷ s) k F = refl
first_append (L p ∷ s) k F = refl
first_append (Down ∷ s) k F = first_append s k F
first_append (A ps ∷ s) k F = refl
first_append (Opt p ∷ s) k F = ap (λ z. fs p ++ z) (first_append s k F)
first_append (Rep p ∷ s) k F = ap (λ z. fs p ++ z) (first_append s k F)

pub clean_append : (s k : List Symbol) (F : List ℕ) → Clean s (first_seq k F) → Clean k F → Clean (s ++ k) F
clean_append [] k F h i = i
clean_append (T c ∷ s) k F h i = clean_append s k F h i
clean_append (P c ∷ s) k F h i = clean_append s k F h i
clean_append (W w ∷ s) k F h i = clean_append s k F h i
clean_append (N p ∷ s) k F h i = (subst (λ z. Sub z (follow p)) (sym (first_append s k F)) h.0, clean_append s k F h.1 i)
clean_append (L p ∷ s) k F h i = (subst (λ z. Sub z (follow p)) (sym (first_append s k F)) h.0, clean_append s k F h.1 i)
clean_append (Down ∷ s) k F h i = clean_append s k F h i
clean_append (A ps ∷ s) k F h i = (subst (λ z. AllFollow ps z) (sym (first_append s k F)) h.0, h.1, clean_append s k F h.2 i)
clean_append (Opt p ∷ s) k F h i = (subst (λ z. Apart (fs p) z) (sym (first_append s k F)) h.0, subst (λ z. Sub z (follow p)) (sym (first_append s k F)) h.1, clean_append s k F h.2 i)
clean_append (Rep p ∷ s) k F h i = (subst (λ z. Apart (fs p) z) (sym (first_append s k F)) h.0, subst (λ z. Sub (fs p ++ z) (follow p)) (sym (first_append s k F)) h.1, clean_append s k F h.2 i)

pub sub_append : (F G H : List ℕ) → Sub G H → Sub (F ++ G) (F ++ H)
sub_append F G H h c m = ⊎_elim (λ e. mem_left F H c e) (λ e. mem_right F H c (h c e)) (mem_either F G c m)

pub first_less : (s : List Symbol) (F G : List ℕ) → Sub F G → Sub (first_seq s F) (first_seq s G)
first_less [] F G h = h
first_less (T c ∷ s) F G h = λ n m. m
first_less (P c ∷ s) F G h = λ n m. m
first_less (W w ∷ s) F G h = λ n m. m
first_less (N p ∷ s) F G h = λ n m. m
first_less (L p ∷ s) F G h = λ n m. m
first_less (Down ∷ s) F G h = first_less s F G h
first_less (A ps ∷ s) F G h = λ n m. m
first_less (Opt p ∷ s) F G h = sub_append (fs p) _ _ (first_less s F G h)
first_less (Rep p ∷ s) F G h = sub_append (fs p) _ _ (first_less s F G h)

pub all_follow_less : (ps : List Phrase) (F G : List ℕ) → Sub F G → AllFollow ps G → AllFollow ps F
all_follow_less [] F G h a = tt
all_follow_less (p ∷ ps) F G h a = (λ c m. a.0 c (h c m), all_follow_less ps F G h a.1)

pub clean_less : (s : List Symbol) (F G : List ℕ) → Sub F G → Clean s G → Clean s F
clean_less [] F G h i = tt
clean_less (T c ∷ s) F G h i = clean_less s F G h i
clean_less (P c ∷ s) F G h i = clean_less s F G h i
clean_less (W w ∷ s) F G h i = clean_less s F G h i
clean_less (N p ∷ s) F G h i = (λ c m. i.0 c (first_less s F G h c m), clean_less s F G h i.1)
clean_less (L p ∷ s) F G h i = (λ c m. i.0 c (first_less s F G h c m), clean_less s F G h i.1)
clean_less (Down ∷ s) F G h i = clean_less s F G h i
clean_less (A ps ∷ s) F G h i = (all_follow_less ps _ _ (first_less s F G h) i.0, i.1, clean_less s F G h i.2)
clean_less (Opt p ∷ s) F G h i = (λ c m n. i.0 c m (first_less s F G h c n), λ c m. i.1 c (first_less s F G h c m), clean_less s F G h i.2)
clean_less (Rep p ∷ s) F G h i = (λ c m n. i.0 c m (first_less s F G h c n), λ c m. i.1 c (sub_append (fs p) _ _ (first_less s F G h) c m), clean_less s F G h i.2)

pub clean_rule : (p : Phrase) (k : List Symbol) (F : List ℕ) → Clean (N p ∷ k) F → Clean (rule p ++ k) F
clean_rule p k F h = clean_append (rule p) k F (clean_less (rule p) _ _ h.0 (table_clean p)) h.1

-- a derivation begins with one of the first kinds

abbrev pub fin : List ℕ
fin = 999 ∷ []

pub member_first : {p : Phrase} {ps : List Phrase} → Member p ps → Sub (fs p) (fs_all ps)
member_first here c m = mem_left _ _ c m
member_first (later {q} h) c m = mem_right (fs q) _ c (member_first h c m)

pub starts : {s : List Symbol} {r : ℕ} {ds : List Item} {ts : List Element} → Derives s r ds ts → mem (first_seq s fin) (next_code ts) ≡ true
starts d_end = refl
starts (d_word h d) = h
starts (d_token h d) = h
starts (d_spelled h d) = (and_in _ _ h).0
starts (d_rule {p} {k} {ts = ts} d) = table_first p (first_seq k fin) (next_code ts) (subst (λ z. mem z (next_code ts) ≡ true) (first_append (rule p) k fin) (starts d))
starts (d_level d) = starts d
starts (d_down d) = starts d
starts (d_one {ts = ts} m d) = member_first m (next_code ts) (starts d)
starts (d_yes {p} {k} {ts = ts} d) = mem_left (fs p) (first_seq k fin) (next_code ts) (starts d)
starts (d_no {p} {k} {ts = ts} d) = mem_right (fs p) (first_seq k fin) (next_code ts) (starts d)
starts (d_more {p} {k} {ts = ts} d) = mem_left (fs p) (first_seq k fin) (next_code ts) (starts d)
starts (d_stop {p} {k} {ts = ts} d) = mem_right (fs p) (first_seq k fin) (next_code ts) (starts d)

-- of two lists that are the same, the first elements are, and the others
pub heads : {A : Type 0} {x y : A} {xs ys : List A} → x ∷ xs ≡ y ∷ ys → (x ≡ y) × (xs ≡ ys)
heads e = (cc, cc)
