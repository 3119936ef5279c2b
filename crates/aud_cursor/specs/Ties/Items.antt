-- Lists, choices and boxes of trees, and the trees of what is made of tokens alone, as items of the reading.
use Rattle.std.specs.Prelude.{List, [], ◌∷◌, Option, Some, None, Box, Vec}
use Rattle.std.specs.Global.{Global}
use Rattle.aud_syntax.specs.declared.tree.Mode.{Mode}
use Rattle.aud_syntax.specs.declared.tree.Mode.TheVariants as mode
use Rattle.aud_syntax.specs.declared.tree.Choices.{Choices}
use Rattle.aud_syntax.specs.declared.tree.Context.{Context}
use Rattle.aud_syntax.specs.Ties.View.{plain_choices, plain_context}
use Rattle.aud_grammar.specs.Actions.{Item, none, cons, a_context, a_mode, some_choices}

abbrev pub list_item : {X : Type 0} → (X → Item) → List X → Item
list_item f [] = none
list_item f (x ∷ xs) = cons (f x) (list_item f xs)

abbrev pub vec_item : {X : Type 0} → (X → Item) → Vec X Global → Item
vec_item f v = list_item f v.items

abbrev pub opt_item : {X : Type 0} → (X → Item) → Option X → Item
opt_item f None = none
opt_item f (Some x) = f x

abbrev pub boxed_item : {X : Type 0} → (X → Item) → Box X Global → Item
boxed_item f x = f x.value

-- how formal parameters are passed, nothing where that is not written
abbrev pub mode_item : Mode → Item
mode_item mode.Unstated = none
mode_item (mode.In at) = a_mode (mode.In at)
mode_item (mode.Out at) = a_mode (mode.Out at)
mode_item (mode.InOut at) = a_mode (mode.InOut at)

abbrev pub choices_item : Box Choices Global → Item
choices_item b = some_choices (plain_choices b.value)

abbrev pub context_item : Context → Item
context_item x = a_context (plain_context x)
