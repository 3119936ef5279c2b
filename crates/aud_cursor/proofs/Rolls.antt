-- The items of what is made of tokens alone, which are built from their phrases.
use Rattle.std.proofs.Common.{◌≡◌, Bool, true, false, List, [], ◌∷◌, refl, sym, ap, ◌∙◌}
use Rattle.std.specs.Prelude.{Vec, Box}
use Rattle.std.specs.Global.{Global}
use Rattle.aud_syntax.specs.declared.tree.Ident.{Ident}
use Rattle.aud_syntax.specs.declared.tree.Mode.{Mode}
use Rattle.aud_syntax.specs.declared.tree.Choices.{Choices}
use Rattle.aud_syntax.specs.declared.tree.Choices.TheVariants as choices
use Rattle.aud_syntax.specs.Plain as m
use Rattle.aud_syntax.specs.Ties.View.{plain_choices}
use Rattle.aud_grammar.specs.Grammar as g
use Rattle.aud_grammar.specs.Actions.{Item, made, place, an_ident, the_idents, some_choices, in_mode}
use Rattle.aud_cursor.specs.Ties.Items.{list_item, mode_item, choices_item}
use Rattle.aud_cursor.specs.Ties.Parts.{mark_item}

pub idents_items : (xs : List Ident) → the_idents (list_item an_ident xs) ≡ xs
idents_items [] = refl
idents_items (x ∷ xs) = ap (λ z. x ∷ z) (idents_items xs)

pub others_items_of : (b : Box Choices Global) (at : Item) (ds : List Item) → b.value ≡ choices.Others (place at) → made g.Others (at ∷ ds) ≡ choices_item b ∷ ds
others_items_of b at ds h = ap (λ z. some_choices (plain_choices z) ∷ ds) (sym h)

pub choices_items : (b : Box Choices Global) (x : Ident) (v : Vec Ident Global) (ds : List Item) → b.value ≡ choices.Named (record { first = x; others = v }) → made g.NamedChoices (an_ident x ∷ list_item an_ident v.items ∷ ds) ≡ choices_item b ∷ ds
choices_items b x v ds h = ap (λ z. some_choices (m.exceptions x z) ∷ ds) (idents_items v.items) ∙ ap (λ z. some_choices (plain_choices z) ∷ ds) (sym h)

pub mode_items : (at : Item) (out : Bool) (x : Mode) (ds : List Item) → x ≡ in_mode (place at) out → made g.InMode (at ∷ mark_item out ∷ ds) ≡ mode_item x ∷ ds
mode_items at true x ds h = ap (λ z. mode_item z ∷ ds) (sym h)
mode_items at false x ds h = ap (λ z. mode_item z ∷ ds) (sym h)
