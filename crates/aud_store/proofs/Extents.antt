-- What is listed of open frames in memory, of which the innermost one is the last.
use Rattle.std.proofs.Common.{◌≡◌, List, [], ◌∷◌, ◌++◌, map, reverse, refl, ap, sym, ◌∙◌}
use Rattle.std.proofs.lemmas.List.{map-append, reverse-append, reverse-reverse}
use Rattle.aud_meaning.specs.Configuration.{Back}
use Rattle.aud_store.specs.declared.stack.Open.{Open}
use Rattle.aud_store.specs.Ties.Display.{Display, put_back}
use Rattle.aud_store.specs.Ties.Extents.{extent, extent_in}
use Rattle.aud_store.specs.Ties.Stored.{outer_backs, plain_opened}

map_reverse : {A B : Type 0} (f : A → B) (xs : List A) → map f (reverse xs) ≡ reverse (map f xs)
map_reverse f [] = refl
map_reverse f (x ∷ xs) =
    ap (map f) (reverse-append (x ∷ []) xs)
    ∙ map-append f (reverse xs) (x ∷ [])
    ∙ ap (λ l. l ++ f x ∷ []) (map_reverse f xs)
    ∙ sym (reverse-append (f x ∷ []) (map f xs))

extents_plain : (d : Display) (os : List Open) (bs : List Back) → map extent (plain_opened d os bs) ≡ map extent_in os
extents_plain d [] bs = refl
extents_plain d (o ∷ os) bs = ap (λ l. extent_in o ∷ l) (extents_plain (put_back o.replaced d) os (outer_backs o.purpose bs))

pub extents_reversed : (d : Display) (os : List Open) (bs : List Back) → map extent_in os ≡ map extent (reverse (plain_opened d (reverse os) bs))
extents_reversed d os bs = sym (
    map_reverse extent (plain_opened d (reverse os) bs)
    ∙ ap reverse (extents_plain d (reverse os) bs)
    ∙ sym (map_reverse extent_in (reverse os))
    ∙ ap (map extent_in) (reverse-reverse os))
