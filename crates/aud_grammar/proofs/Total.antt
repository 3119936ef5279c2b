-- The function takes the way of reading: what it answers is derived, or is a fault.
use Rattle.std.specs.Prelude.{◌≡◌, ℕ, zero, suc, ◌≤◌, List, [], ◌∷◌, ◌++◌, Bool, true, false, ◌==◌, nat_le, if◌then◌else◌, refl}
use Rattle.std.proofs.Common.{sym, ap, subst, arith, leb-true}
use Rattle.aud_lex.specs.declared.token.Kind.{Kind}
use Rattle.aud_lex.specs.Element.{Element}
use Rattle.aud_grammar.specs.Grammar.{Word, Phrase, Symbol, T, P, W, N, L, Down, A, Opt, Rep, rule}
use Rattle.aud_lex.specs.Kinds.{kind_number}
use Rattle.aud_grammar.specs.First.{next_in, is_word, firsts}
use Rattle.aud_grammar.specs.Parsed.{Verdict}
use Rattle.aud_grammar.specs.Actions.{Item}
use Rattle.aud_grammar.proofs.Tables.{rank}
use Rattle.aud_grammar.specs.Parsed.{pick, Ran, budget, read}
use Rattle.aud_grammar.specs.Ties.Outcome.{Out, o_end, o_rest, o_word, o_token, o_no_word, o_no_token, o_spelled, o_misspelled, o_rule, o_level, o_deep, o_shut, o_down, o_this, o_other, o_last, o_yes, o_no, o_more, o_stop}
use Rattle.aud_grammar.proofs.Reading.{is_yes, no_word, no_token, no_spelled, run_down, run_rule, run_level, run_deep, run_shut, run_one, run_yes, run_no, run_more, run_stop, pick_yes, pick_no, none_left, less, and_in, table_rank_some, enough_rule, enough_budget, below, enough}
use Rattle.aud_grammar.proofs.Gets.{Full, full_append, table_full}

abbrev pub Outs : List Symbol → ℕ → List Element → Ran → Type 0
Outs s r ts x = Out s r ts x.0 x.1

move : (s : List Symbol) (r : ℕ) (ts : List Element) (x y : Ran) → x ≡ y → Outs s r ts y → Outs s r ts x
move s r ts x y e o = subst (λ z. Outs s r ts z) (sym e) o

word_out : (c : Kind) (k : List Symbol) (r : ℕ) (t : Element) (ts : List Element) (n : ℕ) → Outs k r ts (read ts budget k r) → (b : Bool) → (kind_number t.kind == kind_number c) ≡ b → Outs (T c ∷ k) r (t ∷ ts) (read (t ∷ ts) n (T c ∷ k) r)
word_out c k r t ts n o true h = move (T c ∷ k) r (t ∷ ts) _ _ (is_yes (kind_number t.kind == kind_number c) _ _ h) (o_word (ap (λ b. if b then true else false) h) o)
word_out c k r t ts n o false h = let i : next_in (c ∷ []) (t ∷ ts) ≡ false = ap (λ b. if b then true else false) h in move (T c ∷ k) r (t ∷ ts) _ _ (no_word c k r n (t ∷ ts) i) (o_no_word i)

token_out : (c : Kind) (k : List Symbol) (r : ℕ) (t : Element) (ts : List Element) (n : ℕ) → Outs k r ts (read ts budget k r) → (b : Bool) → (kind_number t.kind == kind_number c) ≡ b → Outs (P c ∷ k) r (t ∷ ts) (read (t ∷ ts) n (P c ∷ k) r)
token_out c k r t ts n o true h = move (P c ∷ k) r (t ∷ ts) _ _ (is_yes (kind_number t.kind == kind_number c) _ _ h) (o_token (ap (λ b. if b then true else false) h) o)
token_out c k r t ts n o false h = let i : next_in (c ∷ []) (t ∷ ts) ≡ false = ap (λ b. if b then true else false) h in move (P c ∷ k) r (t ∷ ts) _ _ (no_token c k r n (t ∷ ts) i) (o_no_token i)

spelled_out : (w : Word) (k : List Symbol) (r : ℕ) (t : Element) (ts : List Element) (n : ℕ) → Outs k r ts (read ts budget k r) → (b : Bool) → is_word w t ≡ b → Outs (W w ∷ k) r (t ∷ ts) (read (t ∷ ts) n (W w ∷ k) r)
spelled_out w k r t ts n o true h = move (W w ∷ k) r (t ∷ ts) _ _ (is_yes (is_word w t) _ _ h) (o_spelled h o)
spelled_out w k r t ts n o false h = move (W w ∷ k) r (t ∷ ts) _ _ (no_spelled w k r n (t ∷ ts) h) (o_misspelled h)

level_out : (p : Phrase) (k : List Symbol) (ts : List Element) (n : ℕ) (b : Bool) → next_in (firsts p) ts ≡ b → Outs (L p ∷ k) 0 ts (read ts (suc n) (L p ∷ k) 0)
level_out p k ts n true h = move (L p ∷ k) 0 ts _ _ (run_deep p k n ts h) (o_deep h)
level_out p k ts n false h = move (L p ∷ k) 0 ts _ _ (run_shut p k n ts h) (o_shut h)

opt_out : (p : Phrase) (k : List Symbol) (r : ℕ) (ts : List Element) (n : ℕ) → Outs (N p ∷ k) r ts (read ts n (N p ∷ k) r) → Outs k r ts (read ts (suc n) k r) → (b : Bool) → next_in (firsts p) ts ≡ b → Outs (Opt p ∷ k) r ts (read ts (suc n) (Opt p ∷ k) r)
opt_out p k r ts n x y true h = move (Opt p ∷ k) r ts _ _ (run_yes p k r n ts h) (o_yes h x)
opt_out p k r ts n x y false h = move (Opt p ∷ k) r ts _ _ (run_no p k r n ts h) (o_no h y)

rep_out : (p : Phrase) (k : List Symbol) (r : ℕ) (ts : List Element) (n : ℕ) → Outs (N p ∷ Rep p ∷ k) r ts (read ts n (N p ∷ Rep p ∷ k) r) → Outs k r ts (read ts (suc n) k r) → (b : Bool) → next_in (firsts p) ts ≡ b → Outs (Rep p ∷ k) r ts (read ts (suc n) (Rep p ∷ k) r)
rep_out p k r ts n x y true h = move (Rep p ∷ k) r ts _ _ (run_more p k r n ts h) (o_more h x)
rep_out p k r ts n x y false h = move (Rep p ∷ k) r ts _ _ (run_stop p k r n ts h) (o_stop h y)

mutual_pick : (p q : Phrase) (ps : List Phrase) (k : List Symbol) (r : ℕ) (ts : List Element) (ds : List Item) (v : Verdict) → (Out (N (pick q ps ts) ∷ k) r ts ds v → Out (A (q ∷ ps) ∷ k) r ts ds v) →
    (b : Bool) → next_in (firsts p) ts ≡ b → Out (N (pick p (q ∷ ps) ts) ∷ k) r ts ds v → Out (A (p ∷ q ∷ ps) ∷ k) r ts ds v
mutual_pick p q ps k r ts ds v f true h o = o_this h (subst (λ z. Out (N z ∷ k) r ts ds v) (pick_yes p q ps ts h) o)
mutual_pick p q ps k r ts ds v f false h o = o_other h (f (subst (λ z. Out (N z ∷ k) r ts ds v) (pick_no p q ps ts h) o))

pick_out : (ps : List Phrase) (p : Phrase) (k : List Symbol) (r : ℕ) (ts : List Element) (ds : List Item) (v : Verdict) → Out (N (pick p ps ts) ∷ k) r ts ds v → Out (A (p ∷ ps) ∷ k) r ts ds v
pick_out [] p k r ts ds v o = o_last o
pick_out (q ∷ ps) p k r ts ds v o = mutual_pick p q ps k r ts ds v (λ x. pick_out ps q k r ts ds v x) (next_in (firsts p) ts) refl o

pick_test : (p q : Phrase) (ps : List Phrase) (ts : List Element) (n : ℕ) → nat_le (suc (rank p)) (suc n) ≡ true → nat_le (rank (pick q ps ts)) n ≡ true → (b : Bool) → next_in (firsts p) ts ≡ b → nat_le (rank (pick p (q ∷ ps) ts)) n ≡ true
pick_test p q ps ts n h i true e = subst (λ z. nat_le (rank z) n ≡ true) (sym (pick_yes p q ps ts e)) (less (rank p) n h)
pick_test p q ps ts n h i false e = subst (λ z. nat_le (rank z) n ≡ true) (sym (pick_no p q ps ts e)) i

pick_enough : (ps : List Phrase) (p : Phrase) (ts : List Element) (n : ℕ) → below (suc n) (p ∷ ps) ≡ true → nat_le (rank (pick p ps ts)) n ≡ true
pick_enough [] p ts n h = less (rank p) n (and_in (nat_le (suc (rank p)) (suc n)) _ h).0
pick_enough (q ∷ ps) p ts n h = let t = and_in (nat_le (suc (rank p)) (suc n)) _ h in pick_test p q ps ts n t.0 (pick_enough ps q ts n t.1) (next_in (firsts p) ts) refl

no_rule : (p : Phrase) → nat_le (rank p) 0 ≡ true → ⊥
no_rule p e = let i : rank p ≤ 0 = leb-true _ _ e in let j : 1 ≤ rank p = leb-true _ _ (table_rank_some p) in omega arith

pub out : (ts : List Element) (n : ℕ) (s : List Symbol) (r : ℕ) → Full s → enough n s ≡ true → Outs s r ts (read ts n s r)
out [] n [] r u e = o_end
out (t ∷ ts) n [] r u e = o_rest
out [] n (T c ∷ k) r u e = o_no_word refl
out (t ∷ ts) n (T c ∷ k) r u e = word_out c k r t ts n (out ts budget k r u (enough_budget k)) (kind_number t.kind == kind_number c) refl
out [] n (P c ∷ k) r u e = o_no_token refl
out (t ∷ ts) n (P c ∷ k) r u e = token_out c k r t ts n (out ts budget k r u (enough_budget k)) (kind_number t.kind == kind_number c) refl
out [] n (W w ∷ k) r u e = o_misspelled refl
out (t ∷ ts) n (W w ∷ k) r u e = spelled_out w k r t ts n (out ts budget k r u (enough_budget k)) (is_word w t) refl
out ts n (Down ∷ k) r u e = move (Down ∷ k) r ts _ _ (run_down k r n ts) (o_down (out ts n k (suc r) u e))
out ts zero (N p ∷ k) r u e = absurd (no_rule p e)
out ts (suc n) (N p ∷ k) r u e = move (N p ∷ k) r ts _ _ (run_rule p k r n ts) (o_rule (out ts n (rule p ++ k) r (full_append (rule p) k (table_full p) u) (enough_rule p k n e)))
out ts zero (L p ∷ k) r u e = absurd (none_left (rank p) e)
out ts (suc n) (L p ∷ k) zero u e = level_out p k ts n (next_in (firsts p) ts) refl
out ts (suc n) (L p ∷ k) (suc r) u e = move (L p ∷ k) (suc r) ts _ _ (run_level p k r n ts) (o_level (out ts n (N p ∷ k) r u.1 (less (rank p) n e)))
out ts n (A [] ∷ k) r u e = absurd u
out ts zero (A (p ∷ ps) ∷ k) r u e = absurd (none_left (rank p) (and_in (nat_le (suc (rank p)) 0) _ e).0)
out ts (suc n) (A (p ∷ ps) ∷ k) r u e = move (A (p ∷ ps) ∷ k) r ts _ _ (run_one p ps k r n ts) (pick_out ps p k r ts _ _ (out ts n (N (pick p ps ts) ∷ k) r u (pick_enough ps p ts n e)))
out ts zero (Opt p ∷ k) r u e = absurd (none_left (rank p) (and_in (nat_le (suc (rank p)) 0) _ e).0)
out ts (suc n) (Opt p ∷ k) r u e = let t = and_in (nat_le (suc (rank p)) (suc n)) _ e in opt_out p k r ts n (out ts n (N p ∷ k) r u (less (rank p) n t.0)) (out ts (suc n) k r u t.1) (next_in (firsts p) ts) refl
out ts zero (Rep p ∷ k) r u e = absurd (none_left (rank p) (and_in (nat_le (suc (rank p)) 0) _ e).0)
out ts (suc n) (Rep p ∷ k) r u e = let t = and_in (nat_le (suc (rank p)) (suc n)) _ e in rep_out p k r ts n (out ts n (N p ∷ Rep p ∷ k) r u (less (rank p) n t.0)) (out ts (suc n) k r u t.1) (next_in (firsts p) ts) refl
