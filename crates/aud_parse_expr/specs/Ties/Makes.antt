-- Trees that are put together from boxes.
use Rattle.std.specs.Prelude.{◌≡◌, List, ◌∷◌, ◌++◌, [], Box, Result, Ok, Err, IfOk}
use Rattle.std.specs.Global.{Global}
use Rattle.std.specs.declared.alloc.AllocError.{AllocError}
use Rattle.aud_grammar.specs.Grammar.{Phrase}
use Rattle.aud_grammar.specs.Actions.{Item, made}
use Rattle.aud_cursor.specs.Ties.Items.{boxed_item}

-- the tree of the phrase from these items; where memory is refused, nothing is said
abbrev pub Makes : {X : Type 0} → (X → Item) → Phrase → List Item → Result (Box X Global) AllocError → Type 0
Makes f p parts (Ok tree) = (ds : List Item) → made p (parts ++ ds) ≡ boxed_item f tree ∷ ds
Makes f p parts (Err e) = Unit {0}

-- a tree that is this item is pushed
abbrev pub Pushes : {X Y : Type 0} → (X → Item) → Item → List X → List X → Result Y AllocError → Type 0
Pushes {X} f item old new result = IfOk result (λ _. (x : X) × (new ≡ old ++ x ∷ []) × (f x ≡ item))
