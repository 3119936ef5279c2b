-- Where reading ends, the grammar ends: at the first token that no derivation has.
use Rattle.std.specs.Prelude.{Option, Some, None, ◌≡◌, ℕ, suc, List, [], ◌∷◌, ◌++◌, Bool, true, false, ◌==◌, refl}
use Rattle.std.proofs.Common.{sym, ap, ◌∙◌, subst, ⊎_elim, ◌≤◌, arith}
use Rattle.std.proofs.lemmas.Bool.{eqb-true, eq-eqb}
use Rattle.aud_lex.specs.declared.token.Kind.{Kind}
use Rattle.aud_lex.specs.Element.{Element}
use Rattle.aud_lex.specs.Kinds.{kind_number}
use Rattle.aud_grammar.specs.Grammar.{Word, Phrase, Symbol, T, P, W, N, L, rule}
use Rattle.aud_grammar.specs.First.{next_in, is_word, next_word, firsts}
use Rattle.aud_grammar.specs.Parsed.{Verdict, Good, Wrong, Deep}
use Rattle.aud_grammar.specs.Actions.{Item}
use Rattle.aud_grammar.specs.Ties.Outcome.{Out, o_end, o_rest, o_word, o_token, o_no_word, o_no_token, o_spelled, o_misspelled, o_rule, o_level, o_deep, o_shut, o_down, o_this, o_other, o_last, o_yes, o_no, o_more, o_stop}
use Rattle.aud_grammar.specs.Why.Derives.{here}
use Rattle.aud_grammar.specs.Why.Begun.{Begun, b_stop, b_word, b_token, b_spelled, b_rule, b_level, b_down, b_one, b_yes, b_no, b_more, b_last}
use Rattle.aud_grammar.proofs.Tables.{follow}
use Rattle.aud_grammar.proofs.Choices.{mem, next_code, or_in, not_both, not_the_end, next_is, first_seq, Clean, clean_rule, fin}
use Rattle.aud_grammar.proofs.Gets.{Gets, gets_word, gets_token, gets_spelled, gets_rule, gets_level, gets_down, gets_one, gets_other, gets_yes, gets_no, gets_more, gets_stop, Full, full_append, table_full, can, reach_of, deep_gets}
use Rattle.aud_grammar.proofs.Ways.{next_of, next_codes, Goes, Says, says_more, step, begins, behind, begun_other, yes_not, no_not, this_way, other_way, last_way}

abbrev pub rest_of : Verdict → List Element
rest_of Good = []
rest_of (Wrong ts) = ts
rest_of (Deep ts) = ts

-- what a derivation with room q says, which goes on as the run with room r did: where a token is wrong, there is none; where a level is missing, it has more room
abbrev pub Tells : Verdict → ℕ → ℕ → Type 0
Tells Good r q = Unit {0}
Tells (Wrong ts) r q = ⊥
Tells (Deep ts) r q = r ≡ q → ⊥

tells_in : (v : Verdict) (r q : ℕ) → Tells v r q → Tells v (suc r) (suc q)
tells_in Good r q t = t
tells_in (Wrong ts) r q t = t
tells_in (Deep ts) r q t = λ e. t (omega arith)

tells_out : (v : Verdict) (r q : ℕ) → Tells v (suc r) (suc q) → Tells v r q
tells_out Good r q t = t
tells_out (Wrong ts) r q t = t
tells_out (Deep ts) r q t = λ e. t (omega arith)

-- a fault of levels stands at a token
abbrev pub Stands : Verdict → Type 0
Stands (Deep []) = ⊥
Stands v = Unit {0}

stands : (p : Phrase) (ts : List Element) → next_in (firsts p) ts ≡ true → Stands (Deep ts)
stands p [] h = cc
stands p (t ∷ ts) h = tt

-- derivations that go on with the token with which the run did
abbrev pub Only : List Symbol → ℕ → List Element → Verdict → Type 0
Only s r front v = (b : Bool) (us : List Element) (q : ℕ) → r ≤ q → Says b us → next_of (rest_of v) ≡ next_of us → Goes b s q (front ++ us) → Tells v r q

pub record Ends (s : List Symbol) (r : ℕ) (ts : List Element) (v : Verdict) : Type 0 where
  pub front : List Element
  pub split : ts ≡ front ++ rest_of v
  pub alive : Gets s (front ++ reach_of v)
  pub held : Begun s r front
  pub only : Only s r front v
  pub stood : Stands v

same_next : (front ts us : List Element) → next_of ts ≡ next_of us → next_of (front ++ ts) ≡ next_of (front ++ us)
same_next [] ts us h = h
same_next (t ∷ front) ts us h = refl

next_same : (ts front rest us : List Element) → ts ≡ front ++ rest → next_of rest ≡ next_of us → next_of ts ≡ next_of (front ++ us)
next_same ts front rest us e n = ap next_of e ∙ same_next front rest us n

end_code : (t : Element) → 999 ≡ kind_number t.kind → ⊥
end_code t e = not_both (999 == kind_number t.kind) (eq-eqb 999 (kind_number t.kind) e) (not_the_end t.kind)

wrong_next : (c : Kind) (ts us : List Element) → next_in (c ∷ []) ts ≡ false → next_of ts ≡ next_of us → mem (kind_number c ∷ []) (next_code us) ≡ true → ⊥
wrong_next c ts us e n m = not_both _ m (ap (λ x. mem (kind_number c ∷ []) x) (sym (next_codes ts us n)) ∙ sym (next_is (c ∷ []) ts) ∙ e)

abbrev word_of : Word → Option Element → Bool
word_of w None = false
word_of w (Some t) = is_word w t

is_word_of : (w : Word) (ts : List Element) → next_word w ts ≡ word_of w (next_of ts)
is_word_of w [] = refl
is_word_of w (t ∷ ts) = refl

wrong_word : (w : Word) (ts us : List Element) (t : Element) (vs : List Element) → next_word w ts ≡ false → next_of ts ≡ next_of us → us ≡ t ∷ vs → is_word w t ≡ true → ⊥
wrong_word w ts us t vs h n e i = not_both (is_word w t) i (sym (is_word_of w ts ∙ ap (word_of w) (n ∙ ap next_of e)) ∙ h)

-- the run ends at once
ends_here : {s : List Symbol} {r : ℕ} {ts : List Element} (v : Verdict) → ts ≡ rest_of v → Gets s (reach_of v) → Only s r [] v → Stands v → Ends s r ts v
ends_here v e alive only stood = record { front = []; split = e; alive = alive; held = b_stop; only = only; stood = stood }

-- a step that passes a token, and one that passes none

pass_ends : {s k : List Symbol} {r : ℕ} {ts : List Element} {v : Verdict} (t : Element) → Ends k r ts v → ((l : List Element) → Gets k l → Gets s (t ∷ l)) →
    ((l : List Element) → Begun k r l → Begun s r (t ∷ l)) →
    ((b : Bool) (us : List Element) (q : ℕ) → Goes b s q (t ∷ us) → Says b (t ∷ us) → Goes b k q us) → Ends s r (t ∷ ts) v
pass_ends t e gets held past = record {
  front = t ∷ e.front;
  split = ap (λ z. t ∷ z) e.split;
  alive = gets (e.front ++ reach_of _) e.alive;
  held = held e.front e.held;
  only = λ b us q le h n d.
      e.only b us q le h n (past b (e.front ++ us) q d (says_more b (t ∷ e.front) us h));
  stood = e.stood;
}

step_ends : {s k : List Symbol} {r r' : ℕ} {ts : List Element} {v : Verdict} → Ends k r' ts v → ((l : List Element) → Gets k l → Gets s l) →
    ((l : List Element) → Begun k r' l → Begun s r l) →
    ((b : Bool) (us : List Element) (q : ℕ) → r ≤ q → Says b us → next_of ts ≡ next_of us → Goes b s q us →
    ((q' : ℕ) → r' ≤ q' → Goes b k q' us → Tells v r' q') → Tells v r q) → Ends s r ts v
step_ends {ts = ts} {v = v} e gets held tell = record {
  front = e.front;
  split = e.split;
  alive = gets (e.front ++ reach_of v) e.alive;
  held = held e.front e.held;
  only = λ b us q le h n d.
      tell b (e.front ++ us) q le (says_more b e.front us h) (next_same ts e.front (rest_of v) us e.split n) d (λ q' i w. e.only b us q' i h n w);
  stood = e.stood;
}

pub ends : {s : List Symbol} {r : ℕ} {ts : List Element} {ds : List Item} {v : Verdict} → Out s r ts ds v → Clean s fin → Full s → Ends s r ts v
ends o_end c u = ends_here Good refl (can [] u) (λ b us q le h n d. tt) tt
ends (o_rest {t = t} {ts = ts}) c u = ends_here (Wrong (t ∷ ts)) refl (can [] u) (λ b us q le h n d. end_code t (sym (next_codes (t ∷ ts) us n ∙ ap next_code (step d h)))) tt
ends (o_word {c = c'} {k = k} {t = t} e o) c u = pass_ends t (ends o c u) (λ l i. gets_word c' t k l e i) (λ l i. b_word e i) (λ b us q d h. behind t us (step d h))
ends (o_token {c = c'} {k = k} {t = t} e o) c u = pass_ends t (ends o c u) (λ l i. gets_token c' t k l e i) (λ l i. b_token e i) (λ b us q d h. behind t us (step d h))
ends (o_no_word {c = c'} {k = k} {ts = ts} e) c u = ends_here (Wrong ts) refl (can (T c' ∷ k) u) (λ b us q le h n d. wrong_next c' ts us e n (begins d h)) tt
ends (o_no_token {c = c'} {k = k} {ts = ts} e) c u = ends_here (Wrong ts) refl (can (P c' ∷ k) u) (λ b us q le h n d. wrong_next c' ts us e n (begins d h)) tt
ends (o_spelled {w = c'} {k = k} {t = t} e o) c u = pass_ends t (ends o c u) (λ l i. gets_spelled c' t k l e i) (λ l i. b_spelled e i) (λ b us q d h. let w = step d h in behind t us (w.0, w.1, w.2, w.3))
ends (o_misspelled {w = c'} {k = k} {ts = ts} e) c u = ends_here (Wrong ts) refl (can (W c' ∷ k) u) (λ b us q le h n d. let w = step d h in wrong_word c' ts us w.0 w.1 e n w.3 w.4) tt
ends (o_rule {p} {k} o) c u =
    step_ends (ends o (clean_rule p k fin c) (full_append (rule p) k (table_full p) u)) (λ l i. gets_rule p k l i) (λ l i. b_rule i) (λ b us q le h n d go. go q le (step d h))
ends (o_level {p} {k} {r} {v = v} o) c u =
    step_ends (ends o c u.1) (λ l i. gets_level p k l i) (λ l i. b_level i)
    (λ b us q le h n d go.
    let w = step d h in
    let i : r ≤ w.0 = omega (arith, w.1) in
    subst (λ z. Tells v (suc r) z) (sym w.1) (tells_in v r w.0 (go w.0 i w.2)))
ends (o_deep {p} {k} {ts} e) c u = ends_here (Deep ts) refl (deep_gets p k ts e u) (λ b us q le h n d. let w = step d h in λ z. omega (arith, w.1, z)) (stands p ts e)
ends (o_shut {p} {k} {ts} e) c u = ends_here (Wrong ts) refl (can (L p ∷ k) u) (λ b us q le h n d. no_not p ts us e n (begins d h)) tt
ends (o_down {k} {r} {v = v} o) c u =
    step_ends (ends o c u) (λ l i. gets_down k l i) (λ l i. b_down i)
    (λ b us q le h n d go. let i : suc r ≤ suc q = omega arith in tells_out v r q (go (suc q) i (step d h)))
ends (o_this {p} {q = x} {ps} {k = k} {ts = ts} e o) c u =
    step_ends (ends o (c.0.0, c.2) u) (λ l i. gets_one p (p ∷ x ∷ ps) k l here i) (λ l i. b_one here i)
    (λ b us q le h n d go. let w = step d h in this_way k q ts us w.1 w.2 h c.1.0 e n (λ i. go q le i))
ends (o_other {p} {q = x} {ps} {k = k} {ts = ts} e o) c u =
    step_ends (ends o (c.0.1, c.1.1, c.2) u) (λ l i. gets_other p (x ∷ ps) k l i) (λ l i. begun_other p i)
    (λ b us q le h n d go. let w = step d h in go q le (other_way k q ts us w.1 w.2 h e n))
ends (o_last {p} {k = k} o) c u =
    step_ends (ends o (c.0.0, c.2) u) (λ l i. gets_one p (p ∷ []) k l here i) (λ l i. b_one here i)
    (λ b us q le h n d go. let w = step d h in last_way k q us w.1 w.2 (λ i. go q le i))
ends (o_yes {p} {k} {ts = ts} e o) c u =
    step_ends (ends o (c.1, c.2) u) (λ l i. gets_yes p k l i) (λ l i. b_yes i)
    (λ b us q le h n d go. ⊎_elim (λ w. go q le w) (λ w. yes_not p (first_seq k fin) ts us c.0 e n (begins w h)) (step d h))
ends (o_no {p} {k} {ts = ts} e o) c u =
    step_ends (ends o c.2 u) (λ l i. gets_no p k l i) (λ l i. b_no i)
    (λ b us q le h n d go. ⊎_elim (λ w. no_not p ts us e n (begins w h)) (λ w. go q le w) (step d h))
ends (o_more {p} {k} {ts = ts} e o) c u =
    step_ends (ends o (c.1, c) u) (λ l i. gets_more p k l i) (λ l i. b_more i)
    (λ b us q le h n d go. ⊎_elim (λ w. go q le w) (λ w. yes_not p (first_seq k fin) ts us c.0 e n (begins w h)) (step d h))
ends (o_stop {p} {k} {ts = ts} e o) c u =
    step_ends (ends o c.2 u) (λ l i. gets_stop p k l i) (λ l i. b_last i)
    (λ b us q le h n d go. ⊎_elim (λ w. no_not p ts us e n (begins w h)) (λ w. go q le w) (step d h))

-- whole lists of tokens, from one phrase on; follow says that the phrase may come last

abbrev pub may_end : Phrase → Bool
may_end p = mem (follow p) 999

pub whole_clean : (p : Phrase) → may_end p ≡ true → Clean (N p ∷ []) fin
whole_clean p e = (λ c m. subst (λ x. mem (follow p) x ≡ true) (sym (is_end c m)) e, tt)
  where
    is_end : (c : ℕ) → mem fin c ≡ true → c ≡ 999
    is_end c m = ⊎_elim (λ i. eqb-true c 999 i) (λ i. cc) (or_in (c == 999) false m)
