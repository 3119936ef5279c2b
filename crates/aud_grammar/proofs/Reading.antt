-- The function `read` computes what reading ends in.
use Rattle.std.specs.Prelude.{◌≡◌, ℕ, zero, suc, ◌-◌, ◌≤◌, List, [], ◌∷◌, ◌++◌, Bool, true, false, ◌==◌, nat_le, if◌then◌else◌, refl}
use Rattle.std.proofs.Common.{sym, ap, ◌∙◌, arith, leb-true, le-leb}
use Rattle.aud_lex.specs.declared.token.Kind.{Kind}
use Rattle.aud_lex.specs.Element.{Element}
use Rattle.aud_grammar.specs.Grammar as g
use Rattle.aud_grammar.specs.Grammar.{Word, Phrase, Symbol, T, P, W, N, L, Down, A, Opt, Rep, rule}
use Rattle.aud_lex.specs.Kinds.{kind_number}
use Rattle.aud_grammar.specs.First.{among, next_in, is_word, next_word, firsts}
use Rattle.aud_grammar.specs.Parsed.{Verdict, Wrong, Deep}
use Rattle.aud_grammar.specs.Actions.{Item, token, none, listed, made}
use Rattle.aud_grammar.proofs.Tables.{rank}
use Rattle.aud_grammar.specs.Parsed.{pick, Ran, onto, budget, read}
use Rattle.aud_grammar.specs.Ties.Outcome.{Out, o_end, o_rest, o_word, o_token, o_no_word, o_no_token, o_spelled, o_misspelled, o_rule, o_level, o_deep, o_shut, o_down, o_this, o_other, o_last, o_yes, o_no, o_more, o_stop}

-- how many rules are entered before the next token is passed

abbrev pub below : ℕ → List Phrase → Bool
below n [] = true
below n (p ∷ ps) = if nat_le (suc (rank p)) n then below n ps else false

abbrev pub enough : ℕ → List Symbol → Bool
enough n [] = true
enough n (T c ∷ s) = true
enough n (P c ∷ s) = true
enough n (W w ∷ s) = true
enough n (N p ∷ s) = nat_le (rank p) n
enough n (L p ∷ s) = nat_le (suc (rank p)) n
enough n (Down ∷ s) = enough n s
enough n (A ps ∷ s) = below n ps
enough n (Opt p ∷ s) = if nat_le (suc (rank p)) n then enough n s else false
enough n (Rep p ∷ s) = if nat_le (suc (rank p)) n then enough n s else false

table_rank : (p : Phrase) (k : List Symbol) → enough (rank p - 1) (rule p ++ k) ≡ true
table_rank g.Expression k = refl
table_rank _ k = refl

table_budget : (p : Phrase) → nat_le (suc (rank p)) budget ≡ true
table_budget g.Expression = refl
table_budget _ = refl

pub table_rank_some : (p : Phrase) → nat_le 1 (rank p) ≡ true
table_rank_some g.Expression = refl
table_rank_some _ = refl

-- so the function takes the way of reading

up : (a m n : ℕ) → nat_le a m ≡ true → m ≤ n → nat_le a n ≡ true
up a m n h le = let i : a ≤ m = leb-true a m h in let j : a ≤ n = omega arith in le-leb a n j

pub and_in : (b x : Bool) → (if b then x else false) ≡ true → (b ≡ true) × (x ≡ true)
and_in true x h = (refl, h)
and_in false x h = cc

and_of : (b x : Bool) → b ≡ true → x ≡ true → (if b then x else false) ≡ true
and_of true x h i = i
and_of false x h i = cc

below_up : (ps : List Phrase) (m n : ℕ) → below m ps ≡ true → m ≤ n → below n ps ≡ true
below_up [] m n h le = refl
below_up (p ∷ ps) m n h le = let t = and_in (nat_le (suc (rank p)) m) (below m ps) h in and_of _ _ (up _ m n t.0 le) (below_up ps m n t.1 le)

enough_up : (s : List Symbol) (m n : ℕ) → enough m s ≡ true → m ≤ n → enough n s ≡ true
enough_up [] m n h le = refl
enough_up (T c ∷ s) m n h le = refl
enough_up (P c ∷ s) m n h le = refl
enough_up (W w ∷ s) m n h le = refl
enough_up (N p ∷ s) m n h le = up _ m n h le
enough_up (L p ∷ s) m n h le = up _ m n h le
enough_up (Down ∷ s) m n h le = enough_up s m n h le
enough_up (A ps ∷ s) m n h le = below_up ps m n h le
enough_up (Opt p ∷ s) m n h le = let t = and_in (nat_le (suc (rank p)) m) (enough m s) h in and_of _ _ (up _ m n t.0 le) (enough_up s m n t.1 le)
enough_up (Rep p ∷ s) m n h le = let t = and_in (nat_le (suc (rank p)) m) (enough m s) h in and_of _ _ (up _ m n t.0 le) (enough_up s m n t.1 le)

pub enough_rule : (p : Phrase) (k : List Symbol) (m : ℕ) → nat_le (rank p) (suc m) ≡ true → enough m (rule p ++ k) ≡ true
enough_rule p k m h =
    let i : rank p ≤ suc m = leb-true _ _ h in
    let j : rank p - 1 ≤ m = omega arith in
    enough_up (rule p ++ k) (rank p - 1) m (table_rank p k) j

below_budget : (ps : List Phrase) → below budget ps ≡ true
below_budget [] = refl
below_budget (p ∷ ps) = and_of _ _ (table_budget p) (below_budget ps)

pub enough_budget : (s : List Symbol) → enough budget s ≡ true
enough_budget [] = refl
enough_budget (T c ∷ s) = refl
enough_budget (P c ∷ s) = refl
enough_budget (W w ∷ s) = refl
enough_budget (N p ∷ s) = let i : suc (rank p) ≤ budget = leb-true _ _ (table_budget p) in let j : rank p ≤ budget = omega arith in le-leb _ _ j
enough_budget (L p ∷ s) = table_budget p
enough_budget (Down ∷ s) = enough_budget s
enough_budget (A ps ∷ s) = below_budget ps
enough_budget (Opt p ∷ s) = and_of _ _ (table_budget p) (enough_budget s)
enough_budget (Rep p ∷ s) = and_of _ _ (table_budget p) (enough_budget s)

pub is_yes : (b : Bool) (x y : Ran) → b ≡ true → (if b then x else y) ≡ x
is_yes true x y h = refl
is_yes false x y h = cc

pub is_no : (b : Bool) (x y : Ran) → b ≡ false → (if b then x else y) ≡ y
is_no true x y h = cc
is_no false x y h = refl

one_of : (b : Bool) → (if b then true else false) ≡ true → b ≡ true
one_of true h = refl
one_of false h = cc

none_of : (b : Bool) → (if b then true else false) ≡ false → b ≡ false
none_of true h = cc
none_of false h = refl

pub no_word : (c : Kind) (k : List Symbol) (r n : ℕ) (ts : List Element) → next_in (c ∷ []) ts ≡ false → read ts n (T c ∷ k) r ≡ ([], Wrong ts)
no_word c k r n [] h = refl
no_word c k r n (t ∷ ts) h = is_no (kind_number t.kind == kind_number c) _ _ (none_of _ h)

pub no_token : (c : Kind) (k : List Symbol) (r n : ℕ) (ts : List Element) → next_in (c ∷ []) ts ≡ false → read ts n (P c ∷ k) r ≡ ([], Wrong ts)
no_token c k r n [] h = refl
no_token c k r n (t ∷ ts) h = is_no (kind_number t.kind == kind_number c) _ _ (none_of _ h)

pub no_spelled : (w : Word) (k : List Symbol) (r n : ℕ) (ts : List Element) → next_word w ts ≡ false → read ts n (W w ∷ k) r ≡ ([], Wrong ts)
no_spelled w k r n [] h = refl
no_spelled w k r n (t ∷ ts) h = is_no (is_word w t) _ _ h

pub run_down : (k : List Symbol) (r n : ℕ) (ts : List Element) → read ts n (Down ∷ k) r ≡ read ts n k (suc r)
run_down k r n [] = refl
run_down k r n (t ∷ ts) = refl

pub run_rule : (p : Phrase) (k : List Symbol) (r n : ℕ) (ts : List Element) → read ts (suc n) (N p ∷ k) r ≡ onto (made p) (read ts n (rule p ++ k) r)
run_rule p k r n [] = refl
run_rule p k r n (t ∷ ts) = refl

pub run_level : (p : Phrase) (k : List Symbol) (r n : ℕ) (ts : List Element) → read ts (suc n) (L p ∷ k) (suc r) ≡ read ts n (N p ∷ k) r
run_level p k r n [] = refl
run_level p k r n (t ∷ ts) = refl

pub run_deep : (p : Phrase) (k : List Symbol) (n : ℕ) (ts : List Element) → next_in (firsts p) ts ≡ true → read ts (suc n) (L p ∷ k) 0 ≡ ([], Deep ts)
run_deep p k n [] h = is_yes (next_in (firsts p) []) _ _ h
run_deep p k n (t ∷ ts) h = is_yes (next_in (firsts p) (t ∷ ts)) _ _ h

pub run_shut : (p : Phrase) (k : List Symbol) (n : ℕ) (ts : List Element) → next_in (firsts p) ts ≡ false → read ts (suc n) (L p ∷ k) 0 ≡ ([], Wrong ts)
run_shut p k n [] h = refl
run_shut p k n (t ∷ ts) h = is_no (next_in (firsts p) (t ∷ ts)) _ _ h

pub run_one : (p : Phrase) (ps : List Phrase) (k : List Symbol) (r n : ℕ) (ts : List Element) → read ts (suc n) (A (p ∷ ps) ∷ k) r ≡ read ts n (N (pick p ps ts) ∷ k) r
run_one p ps k r n [] = refl
run_one p ps k r n (t ∷ ts) = refl

pub run_yes : (p : Phrase) (k : List Symbol) (r n : ℕ) (ts : List Element) → next_in (firsts p) ts ≡ true → read ts (suc n) (Opt p ∷ k) r ≡ read ts n (N p ∷ k) r
run_yes p k r n [] h = is_yes (next_in (firsts p) []) _ _ h
run_yes p k r n (t ∷ ts) h = is_yes (next_in (firsts p) (t ∷ ts)) _ _ h

pub run_no : (p : Phrase) (k : List Symbol) (r n : ℕ) (ts : List Element) → next_in (firsts p) ts ≡ false → read ts (suc n) (Opt p ∷ k) r ≡ onto (λ st. none ∷ st) (read ts (suc n) k r)
run_no p k r n [] h = refl
run_no p k r n (t ∷ ts) h = is_no (next_in (firsts p) (t ∷ ts)) _ _ h

pub run_more : (p : Phrase) (k : List Symbol) (r n : ℕ) (ts : List Element) → next_in (firsts p) ts ≡ true → read ts (suc n) (Rep p ∷ k) r ≡ onto listed (read ts n (N p ∷ Rep p ∷ k) r)
run_more p k r n [] h = is_yes (next_in (firsts p) []) _ _ h
run_more p k r n (t ∷ ts) h = is_yes (next_in (firsts p) (t ∷ ts)) _ _ h

pub run_stop : (p : Phrase) (k : List Symbol) (r n : ℕ) (ts : List Element) → next_in (firsts p) ts ≡ false → read ts (suc n) (Rep p ∷ k) r ≡ onto (λ st. none ∷ st) (read ts (suc n) k r)
run_stop p k r n [] h = refl
run_stop p k r n (t ∷ ts) h = is_no (next_in (firsts p) (t ∷ ts)) _ _ h

if_yes : (b : Bool) (x y : Phrase) → b ≡ true → (if b then x else y) ≡ x
if_yes true x y h = refl
if_yes false x y h = cc

if_no : (b : Bool) (x y : Phrase) → b ≡ false → (if b then x else y) ≡ y
if_no true x y h = cc
if_no false x y h = refl

pub pick_yes : (p q : Phrase) (ps : List Phrase) (ts : List Element) → next_in (firsts p) ts ≡ true → pick p (q ∷ ps) ts ≡ p
pick_yes p q ps ts h = if_yes (next_in (firsts p) ts) p (pick q ps ts) h

pub pick_no : (p q : Phrase) (ps : List Phrase) (ts : List Element) → next_in (firsts p) ts ≡ false → pick p (q ∷ ps) ts ≡ pick q ps ts
pick_no p q ps ts h = if_no (next_in (firsts p) ts) p (pick q ps ts) h

-- what reading ends in, however many rules may still be entered, if they are enough
abbrev Same : List Symbol → ℕ → List Element → List Item → Verdict → Type 0
Same s r ts ds v = (n : ℕ) → enough n s ≡ true → read ts n s r ≡ (ds, v)

by_rule : (p : Phrase) (k : List Symbol) (r : ℕ) (ts : List Element) (ds : List Item) (v : Verdict) → Same (rule p ++ k) r ts ds v → Same (N p ∷ k) r ts (made p ds) v
by_rule p k r ts ds v h zero e = let i : rank p ≤ 0 = leb-true _ _ e in let j : 1 ≤ rank p = leb-true _ _ (table_rank_some p) in absurd (omega arith)
by_rule p k r ts ds v h (suc n) e = run_rule p k r n ts ∙ ap (onto (made p)) (h n (enough_rule p k n e))

pub less : (a n : ℕ) → nat_le (suc a) (suc n) ≡ true → nat_le a n ≡ true
less a n e = let i : suc a ≤ suc n = leb-true _ _ e in let j : a ≤ n = omega arith in le-leb a n j

pub none_left : (a : ℕ) → nat_le (suc a) 0 ≡ true → ⊥
none_left a e = let i : suc a ≤ 0 = leb-true _ _ e in omega arith

by_level : (p : Phrase) (k : List Symbol) (r : ℕ) (ts : List Element) (ds : List Item) (v : Verdict) → Same (N p ∷ k) r ts ds v → Same (L p ∷ k) (suc r) ts ds v
by_level p k r ts ds v h zero e = absurd (none_left _ e)
by_level p k r ts ds v h (suc n) e = run_level p k r n ts ∙ h n (less _ n e)

by_deep : (p : Phrase) (k : List Symbol) (ts : List Element) → next_in (firsts p) ts ≡ true → Same (L p ∷ k) 0 ts [] (Deep ts)
by_deep p k ts t zero e = absurd (none_left _ e)
by_deep p k ts t (suc n) e = run_deep p k n ts t

by_shut : (p : Phrase) (k : List Symbol) (ts : List Element) → next_in (firsts p) ts ≡ false → Same (L p ∷ k) 0 ts [] (Wrong ts)
by_shut p k ts t zero e = absurd (none_left _ e)
by_shut p k ts t (suc n) e = run_shut p k n ts t

by_this : (p q : Phrase) (ps : List Phrase) (k : List Symbol) (r : ℕ) (ts : List Element) (ds : List Item) (v : Verdict) → next_in (firsts p) ts ≡ true → Same (N p ∷ k) r ts ds v → Same (A (p ∷ q ∷ ps) ∷ k) r ts ds v
by_this p q ps k r ts ds v t h zero e = absurd (none_left (rank p) (and_in (nat_le (suc (rank p)) 0) _ e).0)
by_this p q ps k r ts ds v t h (suc n) e =
    run_one p (q ∷ ps) k r n ts ∙ ap (λ z. read ts n (N z ∷ k) r) (pick_yes p q ps ts t) ∙ h n (less _ n (and_in (nat_le (suc (rank p)) (suc n)) _ e).0)

by_other : (p q : Phrase) (ps : List Phrase) (k : List Symbol) (r : ℕ) (ts : List Element) (ds : List Item) (v : Verdict) → next_in (firsts p) ts ≡ false → Same (A (q ∷ ps) ∷ k) r ts ds v → Same (A (p ∷ q ∷ ps) ∷ k) r ts ds v
by_other p q ps k r ts ds v t h zero e = absurd (none_left (rank p) (and_in (nat_le (suc (rank p)) 0) _ e).0)
by_other p q ps k r ts ds v t h (suc n) e =
    run_one p (q ∷ ps) k r n ts ∙ ap (λ z. read ts n (N z ∷ k) r) (pick_no p q ps ts t) ∙ sym (run_one q ps k r n ts) ∙ h (suc n) (and_in (nat_le (suc (rank p)) (suc n)) _ e).1

by_last : (p : Phrase) (k : List Symbol) (r : ℕ) (ts : List Element) (ds : List Item) (v : Verdict) → Same (N p ∷ k) r ts ds v → Same (A (p ∷ []) ∷ k) r ts ds v
by_last p k r ts ds v h zero e = absurd (none_left (rank p) (and_in (nat_le (suc (rank p)) 0) _ e).0)
by_last p k r ts ds v h (suc n) e = run_one p [] k r n ts ∙ h n (less _ n (and_in (nat_le (suc (rank p)) (suc n)) _ e).0)

by_yes : (p : Phrase) (k : List Symbol) (r : ℕ) (ts : List Element) (ds : List Item) (v : Verdict) → next_in (firsts p) ts ≡ true → Same (N p ∷ k) r ts ds v → Same (Opt p ∷ k) r ts ds v
by_yes p k r ts ds v t h zero e = absurd (none_left (rank p) (and_in (nat_le (suc (rank p)) 0) _ e).0)
by_yes p k r ts ds v t h (suc n) e = run_yes p k r n ts t ∙ h n (less _ n (and_in (nat_le (suc (rank p)) (suc n)) _ e).0)

by_no : (p : Phrase) (k : List Symbol) (r : ℕ) (ts : List Element) (ds : List Item) (v : Verdict) → next_in (firsts p) ts ≡ false → Same k r ts ds v → Same (Opt p ∷ k) r ts (none ∷ ds) v
by_no p k r ts ds v t h zero e = absurd (none_left (rank p) (and_in (nat_le (suc (rank p)) 0) _ e).0)
by_no p k r ts ds v t h (suc n) e = run_no p k r n ts t ∙ ap (onto (λ st. none ∷ st)) (h (suc n) (and_in (nat_le (suc (rank p)) (suc n)) _ e).1)

by_more : (p : Phrase) (k : List Symbol) (r : ℕ) (ts : List Element) (ds : List Item) (v : Verdict) → next_in (firsts p) ts ≡ true → Same (N p ∷ Rep p ∷ k) r ts ds v → Same (Rep p ∷ k) r ts (listed ds) v
by_more p k r ts ds v t h zero e = absurd (none_left (rank p) (and_in (nat_le (suc (rank p)) 0) _ e).0)
by_more p k r ts ds v t h (suc n) e = run_more p k r n ts t ∙ ap (onto listed) (h n (less _ n (and_in (nat_le (suc (rank p)) (suc n)) _ e).0))

by_stop : (p : Phrase) (k : List Symbol) (r : ℕ) (ts : List Element) (ds : List Item) (v : Verdict) → next_in (firsts p) ts ≡ false → Same k r ts ds v → Same (Rep p ∷ k) r ts (none ∷ ds) v
by_stop p k r ts ds v t h zero e = absurd (none_left (rank p) (and_in (nat_le (suc (rank p)) 0) _ e).0)
by_stop p k r ts ds v t h (suc n) e = run_stop p k r n ts t ∙ ap (onto (λ st. none ∷ st)) (h (suc n) (and_in (nat_le (suc (rank p)) (suc n)) _ e).1)

by_word : (c : Kind) (k : List Symbol) (r : ℕ) (t : Element) (ts : List Element) (ds : List Item) (v : Verdict) → among (c ∷ []) (kind_number t.kind) ≡ true → Same k r ts ds v → Same (T c ∷ k) r (t ∷ ts) ds v
by_word c k r t ts ds v h i n e = is_yes (kind_number t.kind == kind_number c) _ _ (one_of _ h) ∙ i budget (enough_budget k)

by_token : (c : Kind) (k : List Symbol) (r : ℕ) (t : Element) (ts : List Element) (ds : List Item) (v : Verdict) → among (c ∷ []) (kind_number t.kind) ≡ true → Same k r ts ds v → Same (P c ∷ k) r (t ∷ ts) (token t ∷ ds) v
by_token c k r t ts ds v h i n e = is_yes (kind_number t.kind == kind_number c) _ _ (one_of _ h) ∙ ap (onto (λ st. token t ∷ st)) (i budget (enough_budget k))

by_spelled : (w : Word) (k : List Symbol) (r : ℕ) (t : Element) (ts : List Element) (ds : List Item) (v : Verdict) → is_word w t ≡ true → Same k r ts ds v → Same (W w ∷ k) r (t ∷ ts) (token t ∷ ds) v
by_spelled w k r t ts ds v h i n e = is_yes (is_word w t) _ _ h ∙ ap (onto (λ st. token t ∷ st)) (i budget (enough_budget k))

pub same : {s : List Symbol} {r : ℕ} {ts : List Element} {ds : List Item} {v : Verdict} → Out s r ts ds v → Same s r ts ds v
same o_end n e = refl
same o_rest n e = refl
same (o_word {c} {k} {r} {t} {ts} {ds} {v} h o) n e = by_word c k r t ts ds v h (same o) n e
same (o_token {c} {k} {r} {t} {ts} {ds} {v} h o) n e = by_token c k r t ts ds v h (same o) n e
same (o_no_word {c} {k} {r} {ts} h) n e = no_word c k r n ts h
same (o_no_token {c} {k} {r} {ts} h) n e = no_token c k r n ts h
same (o_spelled {w} {k} {r} {t} {ts} {ds} {v} h o) n e = by_spelled w k r t ts ds v h (same o) n e
same (o_misspelled {w} {k} {r} {ts} h) n e = no_spelled w k r n ts h
same (o_rule {p} {k} {r} {ts} {ds} {v} o) n e = by_rule p k r ts ds v (same o) n e
same (o_level {p} {k} {r} {ts} {ds} {v} o) n e = by_level p k r ts ds v (same o) n e
same (o_deep {p} {k} {ts} h) n e = by_deep p k ts h n e
same (o_shut {p} {k} {ts} h) n e = by_shut p k ts h n e
same (o_down {k} {r} {ts} o) n e = run_down k r n ts ∙ same o n e
same (o_this {p} {q} {ps} {k} {r} {ts} {ds} {v} h o) n e = by_this p q ps k r ts ds v h (same o) n e
same (o_other {p} {q} {ps} {k} {r} {ts} {ds} {v} h o) n e = by_other p q ps k r ts ds v h (same o) n e
same (o_last {p} {k} {r} {ts} {ds} {v} o) n e = by_last p k r ts ds v (same o) n e
same (o_yes {p} {k} {r} {ts} {ds} {v} h o) n e = by_yes p k r ts ds v h (same o) n e
same (o_no {p} {k} {r} {ts} {ds} {v} h o) n e = by_no p k r ts ds v h (same o) n e
same (o_more {p} {k} {r} {ts} {ds} {v} h o) n e = by_more p k r ts ds v h (same o) n e
same (o_stop {p} {k} {r} {ts} {ds} {v} h o) n e = by_stop p k r ts ds v h (same o) n e

-- from the start
pub read_is : {s : List Symbol} {r : ℕ} {ts : List Element} {ds : List Item} {v : Verdict} → Out s r ts ds v → read ts budget s r ≡ (ds, v)
read_is {s} o = same o budget (enough_budget s)
