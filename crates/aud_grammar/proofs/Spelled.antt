-- The tree that is read is the tree that the tokens spell.
use Rattle.std.proofs.Common.{◌≡◌, ℕ, List, length, ap, ◌∙◌, refl, true, Ok}
use Rattle.aud_text.specs.declared.limits.TheConstants.{LEVELS}
use Rattle.aud_lex.specs.Element.{Element}
use Rattle.aud_syntax.specs.Plain as m
use Rattle.aud_grammar.specs.Grammar as g
use Rattle.aud_grammar.specs.Grammar.{Phrase}
use Rattle.aud_grammar.specs.Parsed.{Ran, parsed, parsed_as, judged}
use Rattle.aud_grammar.specs.Actions.{Item, the_unit}
use Rattle.aud_grammar.specs.Why.Spells.{SpellsAs, Spells}
use Rattle.aud_grammar.proofs.Reading.{read_is}
use Rattle.aud_grammar.proofs.Ends.{may_end, whole_clean}
use Rattle.aud_grammar.proofs.Sound.{complete}

spells_tree : {X : Type 0} (f : Item → X) (p : Phrase) → may_end p ≡ true → (r : ℕ) (ts : List Element) (t : X) → SpellsAs f p r ts t → parsed_as f p r ts ≡ Ok t
spells_tree f p m r ts t s = ap (λ (x : Ran). judged f (length ts) x.0 x.1) (read_is (complete s.1 (whole_clean p m))) ∙ ap (λ z. Ok z) s.2

pub spelled_parsed : (ts : List Element) (t : m.Unit) → Spells ts t → parsed ts ≡ Ok t
spelled_parsed ts t s = spells_tree the_unit g.Unit refl LEVELS ts t s

-- a list of tokens spells one tree
pub one_tree : (ts : List Element) (t u : m.Unit) → Spells ts t → Spells ts u → t ≡ u
one_tree ts t u a b = let e : parsed ts ≡ Ok t = spelled_parsed ts t a in let h : parsed ts ≡ Ok u = spelled_parsed ts u b in cc
