-- The first step of a derivation, whole or begun: the first symbol decides it, and the next token says which.
use Rattle.std.specs.Prelude.{Option, Some, None, ◌≡◌, ◌⊎◌, ℕ, zero, suc, List, [], ◌∷◌, ◌++◌, take, Bool, true, false, refl}
use Rattle.std.proofs.Common.{sym, ap, ◌∙◌, subst, inl, inr}
use Rattle.aud_lex.specs.Element.{Element}
use Rattle.aud_lex.specs.Kinds.{kind_number}
use Rattle.aud_grammar.specs.Grammar.{Phrase, Symbol, T, P, W, N, L, Down, A, Opt, Rep, rule}
use Rattle.aud_grammar.specs.First.{is_word, next_in, firsts}
use Rattle.aud_grammar.specs.Actions.{Item}
use Rattle.aud_grammar.specs.Why.Derives.{Member, here, later, Derives, d_end, d_word, d_token, d_spelled, d_rule, d_level, d_down, d_one, d_yes, d_no, d_more, d_stop}
use Rattle.aud_grammar.specs.Why.Begun.{Begun, b_stop, b_word, b_token, b_spelled, b_rule, b_level, b_down, b_one, b_yes, b_no, b_more, b_last}
use Rattle.aud_grammar.proofs.Choices.{and_in, mem, mem_left, mem_right, fs, fs_all, fin, first_seq, first_append, table_first, member_first, next_code, next_is, not_both, Apart, starts}

-- a whole derivation of the tokens, or one that has come so far
pub data Goes : Bool → List Symbol → ℕ → List Element → Type 0 where
  whole : {s : List Symbol} {r : ℕ} {ds : List Item} {ts : List Element} → Derives s r ds ts → Goes true s r ts
  begun : {s : List Symbol} {r : ℕ} {ts : List Element} → Begun s r ts → Goes false s r ts

-- one that has come to no token says nothing
abbrev pub Says : Bool → List Element → Type 0
Says true ts = Unit {0}
Says false ts = ts ≡ [] → ⊥

pub says_more : (b : Bool) (front us : List Element) → Says b us → Says b (front ++ us)
says_more true front us h = tt
says_more false [] us h = h
says_more false (t ∷ front) us h = λ e. cc

abbrev pub Step : Bool → List Symbol → ℕ → List Element → Type 0
Step b [] r ts = ts ≡ []
Step b (T c ∷ k) r ts = (t : Element) × (us : List Element) × Goes b k r us × (ts ≡ t ∷ us)
Step b (P c ∷ k) r ts = (t : Element) × (us : List Element) × Goes b k r us × (ts ≡ t ∷ us)
Step b (W w ∷ k) r ts = (t : Element) × (us : List Element) × Goes b k r us × (ts ≡ t ∷ us) × (is_word w t ≡ true)
Step b (N p ∷ k) r ts = Goes b (rule p ++ k) r ts
Step b (L p ∷ k) r ts = (q : ℕ) × (r ≡ suc q) × Goes b (N p ∷ k) q ts
Step b (Down ∷ k) r ts = Goes b k (suc r) ts
Step b (A ps ∷ k) r ts = (p : Phrase) × Member p ps × Goes b (N p ∷ k) r ts
Step b (Opt p ∷ k) r ts = Goes b (N p ∷ k) r ts ⊎ Goes b k r ts
Step b (Rep p ∷ k) r ts = Goes b (N p ∷ Rep p ∷ k) r ts ⊎ Goes b k r ts

pub step : {b : Bool} {s : List Symbol} {r : ℕ} {ts : List Element} → Goes b s r ts → Says b ts → Step b s r ts
step (whole d_end) n = refl
step (whole (d_word {t = t} {ts = ts} h d)) n = (t, ts, whole d, refl)
step (whole (d_token {t = t} {ts = ts} h d)) n = (t, ts, whole d, refl)
step (whole (d_spelled {t = t} {ts = ts} h d)) n = (t, ts, whole d, refl, h)
step (whole (d_rule d)) n = whole d
step (whole (d_level {r = r} d)) n = (r, refl, whole d)
step (whole (d_down d)) n = whole d
step (whole (d_one {p} m d)) n = (p, m, whole d)
step (whole (d_yes d)) n = inl (whole d)
step (whole (d_no d)) n = inr (whole d)
step (whole (d_more d)) n = inl (whole d)
step (whole (d_stop d)) n = inr (whole d)
step (begun b_stop) n = absurd (n refl)
step (begun (b_word {t = t} {ts = ts} h d)) n = (t, ts, begun d, refl)
step (begun (b_token {t = t} {ts = ts} h d)) n = (t, ts, begun d, refl)
step (begun (b_spelled {t = t} {ts = ts} h d)) n = (t, ts, begun d, refl, h)
step (begun (b_rule d)) n = begun d
step (begun (b_level {r = r} d)) n = (r, refl, begun d)
step (begun (b_down d)) n = begun d
step (begun (b_one {p} m d)) n = (p, m, begun d)
step (begun (b_yes d)) n = inl (begun d)
step (begun (b_no d)) n = inr (begun d)
step (begun (b_more d)) n = inl (begun d)
step (begun (b_last d)) n = inr (begun d)

-- what is begun begins with one of the first kinds
begun_starts : {s : List Symbol} {r : ℕ} {ts : List Element} → Begun s r ts → (ts ≡ [] → ⊥) → mem (first_seq s fin) (next_code ts) ≡ true
begun_starts b_stop n = absurd (n refl)
begun_starts (b_word h d) n = h
begun_starts (b_token h d) n = h
begun_starts (b_spelled h d) n = (and_in _ _ h).0
begun_starts (b_rule {p} {k} {ts = ts} d) n = table_first p (first_seq k fin) (next_code ts) (subst (λ z. mem z (next_code ts) ≡ true) (first_append (rule p) k fin) (begun_starts d n))
begun_starts (b_level d) n = begun_starts d n
begun_starts (b_down d) n = begun_starts d n
begun_starts (b_one {ts = ts} m d) n = member_first m (next_code ts) (begun_starts d n)
begun_starts (b_yes {p} {k} {ts = ts} d) n = mem_left (fs p) (first_seq k fin) (next_code ts) (begun_starts d n)
begun_starts (b_no {p} {k} {ts = ts} d) n = mem_right (fs p) (first_seq k fin) (next_code ts) (begun_starts d n)
begun_starts (b_more {p} {k} {ts = ts} d) n = mem_left (fs p) (first_seq k fin) (next_code ts) (begun_starts d n)
begun_starts (b_last {p} {k} {ts = ts} d) n = mem_right (fs p) (first_seq k fin) (next_code ts) (begun_starts d n)

pub begins : {b : Bool} {s : List Symbol} {r : ℕ} {ts : List Element} → Goes b s r ts → Says b ts → mem (first_seq s fin) (next_code ts) ≡ true
begins (whole d) n = starts d
begins (begun d) n = begun_starts d n

goes_one : {b : Bool} {p : Phrase} {ps : List Phrase} {k : List Symbol} {r : ℕ} {ts : List Element} → Member p ps → Goes b (N p ∷ k) r ts → Goes b (A ps ∷ k) r ts
goes_one m (whole d) = whole (d_one m d)
goes_one m (begun d) = begun (b_one m d)

pub begun_other : (p : Phrase) {ps : List Phrase} {k : List Symbol} {r : ℕ} {ts : List Element} → Begun (A ps ∷ k) r ts → Begun (A (p ∷ ps) ∷ k) r ts
begun_other p b_stop = b_stop
begun_other p (b_one m d) = b_one (later m) d

-- behind a token
pub behind : {b : Bool} {k : List Symbol} {r : ℕ} (x : Element) (us : List Element) → (t : Element) × (ws : List Element) × Goes b k r ws × (x ∷ us ≡ t ∷ ws) → Goes b k r us
behind {b} {k} {r} x us w = let i : w.1 ≡ us = cc (w.3) in subst (λ z. Goes b k r z) i w.2

-- the next token, if there is one
abbrev pub next_of : List Element → Option Element
next_of [] = None
next_of (t ∷ ts) = Some t

abbrev code_of : Option Element → ℕ
code_of None = 999
code_of (Some t) = kind_number t.kind

is_code_of : (ts : List Element) → next_code ts ≡ code_of (next_of ts)
is_code_of [] = refl
is_code_of (t ∷ ts) = refl

pub next_codes : (ts us : List Element) → next_of ts ≡ next_of us → next_code ts ≡ next_code us
next_codes ts us n = is_code_of ts ∙ ap code_of n ∙ sym (is_code_of us)

-- a test of the next token leaves one way

pub yes_not : {X : Type 0} (p : Phrase) (F : List ℕ) (ts us : List Element) → Apart (fs p) F → next_in (firsts p) ts ≡ true → next_of ts ≡ next_of us → mem F (next_code us) ≡ true → X
yes_not p F ts us h e n m = absurd (h (next_code us) (subst (λ c. mem (fs p) c ≡ true) (next_codes ts us n) (sym (next_is (firsts p) ts) ∙ e)) m)

pub no_not : {X : Type 0} (p : Phrase) (ts us : List Element) → next_in (firsts p) ts ≡ false → next_of ts ≡ next_of us → mem (fs p) (next_code us) ≡ true → X
no_not p ts us e n m = absurd (not_both _ m (ap (λ c. mem (fs p) c) (sym (next_codes ts us n)) ∙ sym (next_is (firsts p) ts) ∙ e))

pub this_way : {X : Type 0} {b : Bool} {p q : Phrase} {ps : List Phrase} (k : List Symbol) (r : ℕ) (ts us : List Element) → Member q (p ∷ ps) → Goes b (N q ∷ k) r us → Says b us →
    Apart (fs p) (fs_all ps) → next_in (firsts p) ts ≡ true → next_of ts ≡ next_of us → (Goes b (N p ∷ k) r us → X) → X
this_way k r ts us here d s apart h n go = go d
this_way {p = p} {ps = ps} k r ts us (later m) d s apart h n go = yes_not p (fs_all ps) ts us apart h n (member_first m (next_code us) (begins d s))

pub other_way : {b : Bool} {p q : Phrase} {ps : List Phrase} (k : List Symbol) (r : ℕ) (ts us : List Element) → Member q (p ∷ ps) → Goes b (N q ∷ k) r us → Says b us →
    next_in (firsts p) ts ≡ false → next_of ts ≡ next_of us → Goes b (A ps ∷ k) r us
other_way {p = p} k r ts us here d s h n = no_not p ts us h n (begins d s)
other_way k r ts us (later m) d s h n = goes_one m d

pub last_way : {X : Type 0} {b : Bool} {p q : Phrase} (k : List Symbol) (r : ℕ) (us : List Element) → Member q (p ∷ []) → Goes b (N q ∷ k) r us → (Goes b (N p ∷ k) r us → X) → X
last_way k r us here d go = go d
last_way k r us (later m) d go = elim m [ ]

-- a front of what is begun is begun
pub begun_take : {s : List Symbol} {r : ℕ} {ts : List Element} → Begun s r ts → (n : ℕ) → Begun s r (take n ts)
begun_take b_stop zero = b_stop
begun_take b_stop (suc n) = b_stop
begun_take (b_word h d) zero = b_stop
begun_take (b_word h d) (suc n) = b_word h (begun_take d n)
begun_take (b_token h d) zero = b_stop
begun_take (b_token h d) (suc n) = b_token h (begun_take d n)
begun_take (b_spelled h d) zero = b_stop
begun_take (b_spelled h d) (suc n) = b_spelled h (begun_take d n)
begun_take (b_rule d) n = b_rule (begun_take d n)
begun_take (b_level d) n = b_level (begun_take d n)
begun_take (b_down d) n = b_down (begun_take d n)
begun_take (b_one m d) n = b_one m (begun_take d n)
begun_take (b_yes d) n = b_yes (begun_take d n)
begun_take (b_no d) n = b_no (begun_take d n)
begun_take (b_more d) n = b_more (begun_take d n)
begun_take (b_last d) n = b_last (begun_take d n)

-- and so is what is derived
pub derives_begun : {s : List Symbol} {r : ℕ} {ds : List Item} {ts : List Element} → Derives s r ds ts → Begun s r ts
derives_begun d_end = b_stop
derives_begun (d_word h d) = b_word h (derives_begun d)
derives_begun (d_token h d) = b_token h (derives_begun d)
derives_begun (d_spelled h d) = b_spelled h (derives_begun d)
derives_begun (d_rule d) = b_rule (derives_begun d)
derives_begun (d_level d) = b_level (derives_begun d)
derives_begun (d_down d) = b_down (derives_begun d)
derives_begun (d_one m d) = b_one m (derives_begun d)
derives_begun (d_yes d) = b_yes (derives_begun d)
derives_begun (d_no d) = b_no (derives_begun d)
derives_begun (d_more d) = b_more (derives_begun d)
derives_begun (d_stop d) = b_last (derives_begun d)
