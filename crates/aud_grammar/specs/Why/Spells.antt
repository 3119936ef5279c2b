-- What it says that tokens spell a program, and where tokens without a program go wrong.
use Rattle.std.specs.Prelude.{◌≡◌, ℕ, ◌+◌, ◌<◌, List, [], ◌∷◌, ◌++◌, length, take}
use Rattle.aud_text.specs.declared.limits.TheConstants.{LEVELS}
use Rattle.aud_lex.specs.Element.{Element}
use Rattle.aud_syntax.specs.Plain as m
use Rattle.aud_grammar.specs.Grammar as g
use Rattle.aud_grammar.specs.Grammar.{Phrase, N}
use Rattle.aud_grammar.specs.Actions.{Item, top, the_unit}
use Rattle.aud_grammar.specs.Why.Derives.{Derives, Viable}

-- the tokens are those of the tree, with room for r levels
abbrev pub SpellsAs : {X : Type 0} → (Item → X) → Phrase → ℕ → List Element → X → Type 0
SpellsAs f p r ts t = (ds : List Item) × Derives (N p ∷ []) r ds ts × (f (top ds) ≡ t)

abbrev pub Spells : List Element → m.Unit → Type 0
Spells ts t = SpellsAs the_unit g.Unit LEVELS ts t

-- the place where no program goes on: at a token, or at the end
abbrev pub StopsAt : Phrase → List Element → ℕ → Type 0
StopsAt p ts i = Viable p (take i ts) × (i < length ts → ¬ Viable p (take (i + 1) ts)) × (i ≡ length ts → (r : ℕ) (ds : List Item) → ¬ Derives (N p ∷ []) r ds ts)

-- the place of a token that opens one level too many
abbrev pub DeepAt : Phrase → ℕ → List Element → ℕ → Type 0
DeepAt p limit ts i = Viable p (take (i + 1) ts) × ((us : List Element) (ds : List Item) → ¬ Derives (N p ∷ []) limit ds (take (i + 1) ts ++ us))
