-- Chains in memory that begin and go on.
use Rattle.std.specs.Prelude.{Vec, Box, List, [], ◌∷◌, ◌++◌, map}
use Rattle.std.specs.Global.{Global}
use Rattle.std.proofs.Common.{◌≡◌, refl, sym, ◌∙◌, ap}
use Rattle.std.proofs.lemmas.List.{map-append}
use Rattle.aud_typed.specs.declared.program.Operation.{Operation, out-Operation}
use Rattle.aud_typed.specs.declared.program.IntegerExpression.{IntegerExpression}
use Rattle.aud_typed.specs.declared.program.IntegerExpression.TheVariants.{Chain}
use Rattle.aud_typed.specs.declared.program.TextExpression.{TextExpression}
use Rattle.aud_typed.specs.declared.program.TextExpression.TheVariants.{Join}
use Rattle.aud_typed.specs.declared.program.Connective.{Connective}
use Rattle.aud_typed.specs.declared.program.BooleanExpression.{BooleanExpression}
use Rattle.aud_typed.specs.declared.program.BooleanExpression.TheVariants as boolean
use Rattle.aud_typed.specs.Ties.View.{plain_integer, plain_boolean, plain_text, connected, all_connected}
use Rattle.aud_typed.specs.Tree.{BooleanExpression as TruthExpression, chained, joined, binary, join}
use Rattle.aud_typed.proofs.Chains.{plain_operation, chain_open, chained_more, connection_open, join_open, joined_more}

pub chain_begins : (first : Box IntegerExpression Global) (all : Vec Operation Global) (left : IntegerExpression) (next : Operation) → all.items ≡ next ∷ [] → first.value ≡ left → plain_integer (Chain first all) ≡ binary (out-Operation next).operator (plain_integer left) (plain_integer (out-Operation next).right)
chain_begins first all left next q r =
    chain_open first all ∙ ap (λ l. chained (plain_integer first.value) (map plain_operation l)) q ∙ ap (λ z. binary (out-Operation next).operator (plain_integer z) (plain_integer (out-Operation next).right)) r

pub chain_goes_on : (first : Box IntegerExpression Global) (old all : Vec Operation Global) (next : Operation) → all.items ≡ old.items ++ next ∷ [] → plain_integer (Chain first all) ≡ binary (out-Operation next).operator (plain_integer (Chain first old)) (plain_integer (out-Operation next).right)
chain_goes_on first old all next p =
    chain_open first all ∙ ap (λ l. chained (plain_integer first.value) (map plain_operation l)) p ∙ ap (chained (plain_integer first.value)) (map-append plain_operation old.items (next ∷ [])) ∙ chained_more (plain_integer first.value) (map plain_operation old.items) (plain_operation next) ∙ ap (λ z. binary (out-Operation next).operator z (plain_integer (out-Operation next).right)) (sym (chain_open first old))

-- operands of one operator
connected_more : (k : Connective) (left : TruthExpression) (xs : List TruthExpression) (x : TruthExpression) → all_connected k left (xs ++ x ∷ []) ≡ connected k (all_connected k left xs) x
connected_more k left [] x = refl
connected_more k left (y ∷ ys) x = connected_more k (connected k left y) ys x

pub connection_begins : (k : Connective) (first : Box BooleanExpression Global) (all : Vec BooleanExpression Global) (left next : BooleanExpression) → all.items ≡ next ∷ [] → first.value ≡ left → plain_boolean (boolean.Chain k first all) ≡ connected k (plain_boolean left) (plain_boolean next)
connection_begins k first all left next q r =
    connection_open k first all ∙ ap (λ l. all_connected k (plain_boolean first.value) (map plain_boolean l)) q ∙ ap (λ z. connected k (plain_boolean z) (plain_boolean next)) r

pub connection_goes_on : (own k : Connective) → own ≡ k → (first : Box BooleanExpression Global) (old all : Vec BooleanExpression Global) (next : BooleanExpression) → all.items ≡ old.items ++ next ∷ [] → plain_boolean (boolean.Chain own first all) ≡ connected k (plain_boolean (boolean.Chain own first old)) (plain_boolean next)
connection_goes_on own k e first old all next p =
    connection_open own first all ∙ ap (λ l. all_connected own (plain_boolean first.value) (map plain_boolean l)) p ∙ ap (all_connected own (plain_boolean first.value)) (map-append plain_boolean old.items (next ∷ [])) ∙ connected_more own (plain_boolean first.value) (map plain_boolean old.items) (plain_boolean next) ∙ ap (λ z. connected own z (plain_boolean next)) (sym (connection_open own first old)) ∙ ap (λ z. connected z (plain_boolean (boolean.Chain own first old)) (plain_boolean next)) e

pub join_begins : (first : Box TextExpression Global) (all : Vec TextExpression Global) (left next : TextExpression) → all.items ≡ next ∷ [] → first.value ≡ left → plain_text (Join first all) ≡ join (plain_text left) (plain_text next)
join_begins first all left next q r =
    join_open first all ∙ ap (λ l. joined (plain_text first.value) (map plain_text l)) q ∙ ap (λ z. join (plain_text z) (plain_text next)) r

pub join_goes_on : (first : Box TextExpression Global) (old all : Vec TextExpression Global) (next : TextExpression) → all.items ≡ old.items ++ next ∷ [] → plain_text (Join first all) ≡ join (plain_text (Join first old)) (plain_text next)
join_goes_on first old all next p =
    join_open first all ∙ ap (λ l. joined (plain_text first.value) (map plain_text l)) p ∙ ap (joined (plain_text first.value)) (map-append plain_text old.items (next ∷ [])) ∙ joined_more (plain_text first.value) (map plain_text old.items) (plain_text next) ∙ ap (λ z. join z (plain_text next)) (sym (join_open first old))
