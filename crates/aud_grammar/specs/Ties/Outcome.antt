-- How a list of symbols reads a list of tokens, looking one token ahead, as a relation.
use Rattle.std.specs.Prelude.{◌≡◌, ℕ, suc, List, [], ◌∷◌, ◌++◌, true, false}
use Rattle.aud_lex.specs.declared.token.Kind.{Kind}
use Rattle.aud_lex.specs.Element.{Element}
use Rattle.aud_lex.specs.Kinds.{kind_number}
use Rattle.aud_grammar.specs.Grammar.{Word, Phrase, Symbol, T, P, W, N, L, Down, A, Opt, Rep, rule}
use Rattle.aud_grammar.specs.First.{among, next_in, is_word, next_word, firsts}
use Rattle.aud_grammar.specs.Actions.{Item, token, none, listed, made}
use Rattle.aud_grammar.specs.Parsed.{Verdict, Good, Wrong, Deep}

-- Out s r tokens items verdict: reading the tokens by the symbols, with room for r levels, makes these items and ends so
pub data Out : List Symbol → ℕ → List Element → List Item → Verdict → Type 0 where
  o_end : {r : ℕ} → Out [] r [] [] Good
  o_rest : {r : ℕ} {t : Element} {ts : List Element} → Out [] r (t ∷ ts) [] (Wrong (t ∷ ts))
  o_word : {c : Kind} {k : List Symbol} {r : ℕ} {t : Element} {ts : List Element} {ds : List Item} {v : Verdict} →
      among (c ∷ []) (kind_number t.kind) ≡ true → Out k r ts ds v → Out (T c ∷ k) r (t ∷ ts) ds v
  o_token : {c : Kind} {k : List Symbol} {r : ℕ} {t : Element} {ts : List Element} {ds : List Item} {v : Verdict} →
      among (c ∷ []) (kind_number t.kind) ≡ true → Out k r ts ds v → Out (P c ∷ k) r (t ∷ ts) (token t ∷ ds) v
  o_no_word : {c : Kind} {k : List Symbol} {r : ℕ} {ts : List Element} →
      next_in (c ∷ []) ts ≡ false → Out (T c ∷ k) r ts [] (Wrong ts)
  o_no_token : {c : Kind} {k : List Symbol} {r : ℕ} {ts : List Element} →
      next_in (c ∷ []) ts ≡ false → Out (P c ∷ k) r ts [] (Wrong ts)
  o_spelled : {w : Word} {k : List Symbol} {r : ℕ} {t : Element} {ts : List Element} {ds : List Item} {v : Verdict} →
      is_word w t ≡ true → Out k r ts ds v → Out (W w ∷ k) r (t ∷ ts) (token t ∷ ds) v
  o_misspelled : {w : Word} {k : List Symbol} {r : ℕ} {ts : List Element} →
      next_word w ts ≡ false → Out (W w ∷ k) r ts [] (Wrong ts)
  o_rule : {p : Phrase} {k : List Symbol} {r : ℕ} {ts : List Element} {ds : List Item} {v : Verdict} →
      Out (rule p ++ k) r ts ds v → Out (N p ∷ k) r ts (made p ds) v
  o_level : {p : Phrase} {k : List Symbol} {r : ℕ} {ts : List Element} {ds : List Item} {v : Verdict} →
      Out (N p ∷ k) r ts ds v → Out (L p ∷ k) (suc r) ts ds v
  o_deep : {p : Phrase} {k : List Symbol} {ts : List Element} →
      next_in (firsts p) ts ≡ true → Out (L p ∷ k) 0 ts [] (Deep ts)
  o_shut : {p : Phrase} {k : List Symbol} {ts : List Element} →
      next_in (firsts p) ts ≡ false → Out (L p ∷ k) 0 ts [] (Wrong ts)
  o_down : {k : List Symbol} {r : ℕ} {ts : List Element} {ds : List Item} {v : Verdict} →
      Out k (suc r) ts ds v → Out (Down ∷ k) r ts ds v
  o_this : {p q : Phrase} {ps : List Phrase} {k : List Symbol} {r : ℕ} {ts : List Element} {ds : List Item} {v : Verdict} →
      next_in (firsts p) ts ≡ true → Out (N p ∷ k) r ts ds v → Out (A (p ∷ q ∷ ps) ∷ k) r ts ds v
  o_other : {p q : Phrase} {ps : List Phrase} {k : List Symbol} {r : ℕ} {ts : List Element} {ds : List Item} {v : Verdict} →
      next_in (firsts p) ts ≡ false → Out (A (q ∷ ps) ∷ k) r ts ds v → Out (A (p ∷ q ∷ ps) ∷ k) r ts ds v
  o_last : {p : Phrase} {k : List Symbol} {r : ℕ} {ts : List Element} {ds : List Item} {v : Verdict} →
      Out (N p ∷ k) r ts ds v → Out (A (p ∷ []) ∷ k) r ts ds v
  o_yes : {p : Phrase} {k : List Symbol} {r : ℕ} {ts : List Element} {ds : List Item} {v : Verdict} →
      next_in (firsts p) ts ≡ true → Out (N p ∷ k) r ts ds v → Out (Opt p ∷ k) r ts ds v
  o_no : {p : Phrase} {k : List Symbol} {r : ℕ} {ts : List Element} {ds : List Item} {v : Verdict} →
      next_in (firsts p) ts ≡ false → Out k r ts ds v → Out (Opt p ∷ k) r ts (none ∷ ds) v
  o_more : {p : Phrase} {k : List Symbol} {r : ℕ} {ts : List Element} {ds : List Item} {v : Verdict} →
      next_in (firsts p) ts ≡ true → Out (N p ∷ Rep p ∷ k) r ts ds v → Out (Rep p ∷ k) r ts (listed ds) v
  o_stop : {p : Phrase} {k : List Symbol} {r : ℕ} {ts : List Element} {ds : List Item} {v : Verdict} →
      next_in (firsts p) ts ≡ false → Out k r ts ds v → Out (Rep p ∷ k) r ts (none ∷ ds) v

-- reading by the symbols ends in this verdict
abbrev pub Fails : List Symbol → ℕ → List Element → Verdict → Type 0
Fails s r ts v = (ds : List Item) × Out s r ts ds v
