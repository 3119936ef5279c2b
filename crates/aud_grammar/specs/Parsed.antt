-- The tree of a program's tokens, as a function: reading tokens by symbols, looking one token ahead.
use Rattle.std.specs.Prelude.{ℕ, zero, suc, ◌-◌, List, [], ◌∷◌, ◌++◌, ◌==◌, length, Result, Ok, Err, if◌then◌else◌}
use Rattle.aud_text.specs.declared.limits.TheConstants.{LEVELS}
use Rattle.aud_lex.specs.Element.{Element}
use Rattle.aud_lex.specs.Kinds.{kind_number}
use Rattle.aud_grammar.specs.Grammar as g
use Rattle.aud_grammar.specs.Grammar.{Phrase, Symbol, T, P, W, N, L, Down, A, Opt, Rep, rule}
use Rattle.aud_grammar.specs.First.{next_in, is_word, firsts}
use Rattle.aud_syntax.specs.Plain as m
use Rattle.aud_grammar.specs.Actions.{Item, token, none, top, listed, made, the_unit}

-- how reading ends: all is read, or a token does not fit or opens one level too many, and the tokens from there
pub data Verdict : Type 0 where
  Good : Verdict
  Wrong : List Element → Verdict
  Deep : List Element → Verdict

-- the first phrase that the next token begins, or the last phrase
abbrev pub pick : Phrase → List Phrase → List Element → Phrase
pick p [] ts = p
pick p (q ∷ ps) ts = if next_in (firsts p) ts then p else pick q ps ts

-- the items, and how reading ends
abbrev pub Ran : Type 0
Ran = List Item × Verdict

abbrev pub onto : (List Item → List Item) → Ran → Ran
onto f x = (f x.0, x.1)

-- not reached: no phrase begins with itself
abbrev pub lost : Ran
lost = ([], Wrong [])

-- rules that may be entered before the next token is passed
abbrev pub budget : ℕ
budget = 24

-- tokens, rules that may be entered before the next token is passed, symbols, levels that may still be opened
abbrev pub read : List Element → ℕ → List Symbol → ℕ → Ran
read [] n [] r = ([], Good)
read (t ∷ ts) n [] r = ([], Wrong (t ∷ ts))
read [] n (T c ∷ k) r = ([], Wrong [])
read (t ∷ ts) n (T c ∷ k) r = if kind_number t.kind == kind_number c then read ts budget k r else ([], Wrong (t ∷ ts))
read [] n (P c ∷ k) r = ([], Wrong [])
read (t ∷ ts) n (P c ∷ k) r = if kind_number t.kind == kind_number c then onto (λ st. token t ∷ st) (read ts budget k r) else ([], Wrong (t ∷ ts))
read [] n (W w ∷ k) r = ([], Wrong [])
read (t ∷ ts) n (W w ∷ k) r = if is_word w t then onto (λ st. token t ∷ st) (read ts budget k r) else ([], Wrong (t ∷ ts))
read ts n (Down ∷ k) r = read ts n k (suc r)
read ts zero (N p ∷ k) r = lost
read ts (suc n) (N p ∷ k) r = onto (made p) (read ts n (rule p ++ k) r)
read ts zero (L p ∷ k) r = lost
read ts (suc n) (L p ∷ k) zero = if next_in (firsts p) ts then ([], Deep ts) else ([], Wrong ts)
read ts (suc n) (L p ∷ k) (suc r) = read ts n (N p ∷ k) r
read ts n (A [] ∷ k) r = lost
read ts zero (A (p ∷ ps) ∷ k) r = lost
read ts (suc n) (A (p ∷ ps) ∷ k) r = read ts n (N (pick p ps ts) ∷ k) r
read ts zero (Opt p ∷ k) r = lost
read ts (suc n) (Opt p ∷ k) r = if next_in (firsts p) ts then read ts n (N p ∷ k) r else onto (λ st. none ∷ st) (read ts (suc n) k r)
read ts zero (Rep p ∷ k) r = lost
read ts (suc n) (Rep p ∷ k) r = if next_in (firsts p) ts then onto listed (read ts n (N p ∷ Rep p ∷ k) r) else onto (λ st. none ∷ st) (read ts (suc n) k r)

-- why there is no tree, and the number of the token at fault; the number of tokens, where it is the end
pub data Fault : Type 0 where
  -- no program goes on so
  wrong_at : ℕ → Fault
  -- it opens one level too many
  deep_at : ℕ → Fault

abbrev pub judged : {X : Type 0} → (Item → X) → ℕ → List Item → Verdict → Result X Fault
judged f n st Good = Ok (f (top st))
judged f n st (Wrong rest) = Err (wrong_at (n - length rest))
judged f n st (Deep rest) = Err (deep_at (n - length rest))

-- the tokens as a phrase, in which limit levels may lie in one another
abbrev pub parsed_as : {X : Type 0} → (Item → X) → Phrase → ℕ → List Element → Result X Fault
parsed_as f p limit ts = let x : Ran = read ts budget (N p ∷ []) limit in judged f (length ts) x.0 x.1

-- the tokens as a program (RM 10.1.1), in which LEVELS levels of declarations, statements and parentheses may lie in one another (profile choice)
abbrev pub parsed : List Element → Result m.Unit Fault
parsed ts = parsed_as the_unit g.Unit LEVELS ts
