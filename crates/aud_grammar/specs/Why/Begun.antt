-- How far tokens have come in the grammar, and how many levels are open there.
use Rattle.std.specs.Prelude.{◌≡◌, ℕ, suc, List, [], ◌∷◌, ◌++◌, true}
use Rattle.aud_lex.specs.declared.token.Kind.{Kind}
use Rattle.aud_lex.specs.Element.{Element}
use Rattle.aud_lex.specs.Kinds.{kind_number}
use Rattle.aud_grammar.specs.Grammar as g
use Rattle.aud_grammar.specs.Grammar.{Word, Phrase, Symbol, T, P, W, N, L, Down, A, Opt, Rep, rule}
use Rattle.aud_grammar.specs.First.{among, is_word}
use Rattle.aud_grammar.specs.Why.Derives.{Member}

-- Begun s r tokens: the symbols derive the tokens so far, with room for r levels. The rules are those of Derives, and one may stop anywhere
pub data Begun : List Symbol → ℕ → List Element → Type 0 where
  b_stop : {s : List Symbol} {r : ℕ} → Begun s r []
  b_word : {c : Kind} {k : List Symbol} {r : ℕ} {t : Element} {ts : List Element} →
      among (c ∷ []) (kind_number t.kind) ≡ true → Begun k r ts → Begun (T c ∷ k) r (t ∷ ts)
  b_token : {c : Kind} {k : List Symbol} {r : ℕ} {t : Element} {ts : List Element} →
      among (c ∷ []) (kind_number t.kind) ≡ true → Begun k r ts → Begun (P c ∷ k) r (t ∷ ts)
  b_spelled : {w : Word} {k : List Symbol} {r : ℕ} {t : Element} {ts : List Element} →
      is_word w t ≡ true → Begun k r ts → Begun (W w ∷ k) r (t ∷ ts)
  b_rule : {p : Phrase} {k : List Symbol} {r : ℕ} {ts : List Element} →
      Begun (rule p ++ k) r ts → Begun (N p ∷ k) r ts
  b_level : {p : Phrase} {k : List Symbol} {r : ℕ} {ts : List Element} →
      Begun (N p ∷ k) r ts → Begun (L p ∷ k) (suc r) ts
  b_down : {k : List Symbol} {r : ℕ} {ts : List Element} →
      Begun k (suc r) ts → Begun (Down ∷ k) r ts
  b_one : {p : Phrase} {ps : List Phrase} {k : List Symbol} {r : ℕ} {ts : List Element} →
      Member p ps → Begun (N p ∷ k) r ts → Begun (A ps ∷ k) r ts
  b_yes : {p : Phrase} {k : List Symbol} {r : ℕ} {ts : List Element} →
      Begun (N p ∷ k) r ts → Begun (Opt p ∷ k) r ts
  b_no : {p : Phrase} {k : List Symbol} {r : ℕ} {ts : List Element} →
      Begun k r ts → Begun (Opt p ∷ k) r ts
  b_more : {p : Phrase} {k : List Symbol} {r : ℕ} {ts : List Element} →
      Begun (N p ∷ Rep p ∷ k) r ts → Begun (Rep p ∷ k) r ts
  b_last : {p : Phrase} {k : List Symbol} {r : ℕ} {ts : List Element} →
      Begun k r ts → Begun (Rep p ∷ k) r ts

-- the tokens begin a program in which no more than n levels have been open at once
abbrev pub Within : ℕ → List Element → Type 0
Within n front = Begun (N g.Unit ∷ []) n front
