-- Phrases that are a word and another phrase, or a word alone.
use Rattle.std.specs.Prelude.{◌≡◌, List, [], ◌∷◌, Bool, true, false}
use Rattle.aud_lex.specs.declared.token.Kind.{Kind}
use Rattle.aud_grammar.specs.Grammar as g
use Rattle.aud_grammar.specs.Grammar.{Phrase, T, N, rule}
use Rattle.aud_grammar.specs.First.{firsts}
use Rattle.aud_grammar.specs.Actions.{Item, there, none, made}

-- a phrase that is this word and another phrase, whose tree it has
pub record IsBehind (c : Kind) (q p : Phrase) : Type 0 where
  pub symbols : rule p ≡ T c ∷ N q ∷ []
  pub begins : firsts p ≡ c ∷ []
  pub same : (st : List Item) → made p st ≡ st

-- the same of an expression
abbrev pub IsValue : Kind → Phrase → Type 0
IsValue c p = IsBehind c g.Expression p

-- a phrase that is this word, of which the tree keeps whether it is there
pub record IsMark (c : Kind) (p : Phrase) : Type 0 where
  pub symbols : rule p ≡ T c ∷ []
  pub begins : firsts p ≡ c ∷ []
  pub same : (st : List Item) → made p st ≡ there ∷ st

abbrev pub mark_item : Bool → Item
mark_item true = there
mark_item false = none
