-- Trees of the whole language by their parts: what a chain is that begins, and one that goes on.
use Rattle.std.proofs.Common.{◌≡◌, List, [], ◌∷◌, ◌++◌, refl, ap, ◌∙◌}
use Rattle.std.specs.Prelude.{Vec, Box, map}
use Rattle.std.specs.Global.{Global}
use Rattle.aud_typed.specs.declared.program.Operation.{Operation, out-Operation}
use Rattle.aud_typed.specs.declared.program.IntegerExpression.{IntegerExpression, Row_of-Operation, end_of-Operation, more_of-Operation, items-the_row-Operation, items_hidden-the_row-Operation-0}
use Rattle.aud_typed.specs.declared.program.IntegerExpression.TheVariants.{Chain}
use Rattle.aud_typed.specs.declared.program.IntegerExpression.TheBlock.{hidden-the_row-Operation-0}
use Rattle.aud_typed.specs.declared.program.Connective.{Connective}
use Rattle.aud_typed.specs.declared.program.BooleanExpression.{BooleanExpression, Row_of-BooleanExpression, end_of-BooleanExpression, more_of-BooleanExpression, items-the_row-BooleanExpression, items_hidden-the_row-BooleanExpression-0}
use Rattle.aud_typed.specs.declared.program.BooleanExpression.TheVariants as boolean
use Rattle.aud_typed.specs.declared.program.BooleanExpression.TheBlock.{hidden-the_row-BooleanExpression-0}
use Rattle.aud_typed.specs.declared.program.TextExpression.{TextExpression, Row_of-TextExpression, end_of-TextExpression, more_of-TextExpression, items-the_row-TextExpression, items_hidden-the_row-TextExpression-0}
use Rattle.aud_typed.specs.declared.program.TextExpression.TheVariants.{Join}
use Rattle.aud_typed.specs.declared.program.TextExpression.TheBlock.{hidden-the_row-TextExpression-0}
use Rattle.aud_typed.specs.Ties.View.{plain_integer, plain_operations, all_connected, plain_boolean, plain_booleans, plain_text, plain_texts}
use Rattle.aud_typed.specs.Tree as tree

-- an operation in memory as plain data
abbrev pub plain_operation : Operation → tree.Operation
plain_operation o = record { operator = (out-Operation o).operator; right = plain_integer (out-Operation o).right }

operation_rows : (n : _) (row : Row_of-Operation n) → plain_operations row ≡ map plain_operation (items-the_row-Operation n row)
operation_rows n end_of-Operation = refl
operation_rows n (more_of-Operation operator right row) = ap (λ z. record { operator = operator; right = plain_integer right } ∷ z) (operation_rows _ row)

pub chain_open : (x : Box IntegerExpression Global) (v : Vec Operation Global) → plain_integer (Chain x v) ≡ tree.chained (plain_integer x.value) (map plain_operation v.items)
chain_open x v = ap (tree.chained (plain_integer x.value)) (operation_rows _ (hidden-the_row-Operation-0 v) ∙ ap (map plain_operation) (items_hidden-the_row-Operation-0 v))

boolean_rows : (n : _) (row : Row_of-BooleanExpression n) → plain_booleans row ≡ map plain_boolean (items-the_row-BooleanExpression n row)
boolean_rows n end_of-BooleanExpression = refl
boolean_rows n (more_of-BooleanExpression x row) = ap (λ z. plain_boolean x ∷ z) (boolean_rows _ row)

pub connection_open : (c : Connective) (x : Box BooleanExpression Global) (v : Vec BooleanExpression Global) → plain_boolean (boolean.Chain c x v) ≡ all_connected c (plain_boolean x.value) (map plain_boolean v.items)
connection_open c x v = ap (all_connected c (plain_boolean x.value)) (boolean_rows _ (hidden-the_row-BooleanExpression-0 v) ∙ ap (map plain_boolean) (items_hidden-the_row-BooleanExpression-0 v))

text_rows : (n : _) (row : Row_of-TextExpression n) → plain_texts row ≡ map plain_text (items-the_row-TextExpression n row)
text_rows n end_of-TextExpression = refl
text_rows n (more_of-TextExpression x row) = ap (λ z. plain_text x ∷ z) (text_rows _ row)

pub join_open : (x : Box TextExpression Global) (v : Vec TextExpression Global) → plain_text (Join x v) ≡ tree.joined (plain_text x.value) (map plain_text v.items)
join_open x v = ap (tree.joined (plain_text x.value)) (text_rows _ (hidden-the_row-TextExpression-0 v) ∙ ap (map plain_text) (items_hidden-the_row-TextExpression-0 v))

-- one more behind those that are there
pub chained_more : (left : tree.IntegerExpression) (os : List tree.Operation) (o : tree.Operation) → tree.chained left (os ++ o ∷ []) ≡ tree.binary o.operator (tree.chained left os) o.right
chained_more left [] o = refl
chained_more left (p ∷ os) o = chained_more (tree.binary p.operator left p.right) os o

pub joined_more : (left : tree.TextExpression) (ts : List tree.TextExpression) (t : tree.TextExpression) → tree.joined left (ts ++ t ∷ []) ≡ tree.join (tree.joined left ts) t
joined_more left [] t = refl
joined_more left (u ∷ ts) t = joined_more (tree.join left u) ts t
