-- What the grammar derives, said without looking ahead.
use Rattle.std.specs.Prelude.{◌≡◌, ℕ, suc, List, [], ◌∷◌, ◌++◌, true}
use Rattle.aud_lex.specs.declared.token.Kind.{Kind}
use Rattle.aud_lex.specs.Element.{Element}
use Rattle.aud_grammar.specs.Grammar.{Word, Phrase, Symbol, T, P, W, N, L, Down, A, Opt, Rep, rule}
use Rattle.aud_lex.specs.Kinds.{kind_number}
use Rattle.aud_grammar.specs.First.{among, is_word}
use Rattle.aud_grammar.specs.Actions.{Item, token, none, listed, made}

-- a member of a list of phrases
pub data Member (p : Phrase) : List Phrase → Type 0 where
  here : {ps : List Phrase} → Member p (p ∷ ps)
  later : {q : Phrase} {ps : List Phrase} → Member p ps → Member p (q ∷ ps)

-- Derives s r items tokens: the symbols derive the tokens, which make these items, with room for r levels
pub data Derives : List Symbol → ℕ → List Item → List Element → Type 0 where
  d_end : {r : ℕ} → Derives [] r [] []
  d_word : {c : Kind} {k : List Symbol} {r : ℕ} {ds : List Item} {t : Element} {ts : List Element} →
      among (c ∷ []) (kind_number t.kind) ≡ true → Derives k r ds ts → Derives (T c ∷ k) r ds (t ∷ ts)
  d_token : {c : Kind} {k : List Symbol} {r : ℕ} {ds : List Item} {t : Element} {ts : List Element} →
      among (c ∷ []) (kind_number t.kind) ≡ true → Derives k r ds ts → Derives (P c ∷ k) r (token t ∷ ds) (t ∷ ts)
  d_spelled : {w : Word} {k : List Symbol} {r : ℕ} {ds : List Item} {t : Element} {ts : List Element} →
      is_word w t ≡ true → Derives k r ds ts → Derives (W w ∷ k) r (token t ∷ ds) (t ∷ ts)
  d_rule : {p : Phrase} {k : List Symbol} {r : ℕ} {ds : List Item} {ts : List Element} →
      Derives (rule p ++ k) r ds ts → Derives (N p ∷ k) r (made p ds) ts
  d_level : {p : Phrase} {k : List Symbol} {r : ℕ} {ds : List Item} {ts : List Element} →
      Derives (N p ∷ k) r ds ts → Derives (L p ∷ k) (suc r) ds ts
  d_down : {k : List Symbol} {r : ℕ} {ds : List Item} {ts : List Element} →
      Derives k (suc r) ds ts → Derives (Down ∷ k) r ds ts
  d_one : {p : Phrase} {ps : List Phrase} {k : List Symbol} {r : ℕ} {ds : List Item} {ts : List Element} →
      Member p ps → Derives (N p ∷ k) r ds ts → Derives (A ps ∷ k) r ds ts
  d_yes : {p : Phrase} {k : List Symbol} {r : ℕ} {ds : List Item} {ts : List Element} →
      Derives (N p ∷ k) r ds ts → Derives (Opt p ∷ k) r ds ts
  d_no : {p : Phrase} {k : List Symbol} {r : ℕ} {ds : List Item} {ts : List Element} →
      Derives k r ds ts → Derives (Opt p ∷ k) r (none ∷ ds) ts
  d_more : {p : Phrase} {k : List Symbol} {r : ℕ} {ds : List Item} {ts : List Element} →
      Derives (N p ∷ Rep p ∷ k) r ds ts → Derives (Rep p ∷ k) r (listed ds) ts
  d_stop : {p : Phrase} {k : List Symbol} {r : ℕ} {ds : List Item} {ts : List Element} →
      Derives k r ds ts → Derives (Rep p ∷ k) r (none ∷ ds) ts

-- some tokens that the phrase derives begin with these, with room for r levels
abbrev pub Begins : Phrase → ℕ → List Element → Type 0
Begins p r front = (ds : List Item) × (rest : List Element) × Derives (N p ∷ []) r ds (front ++ rest)

-- no level counts
abbrev pub Viable : Phrase → List Element → Type 0
Viable p front = (r : ℕ) × Begins p r front
