-- Trees of names and expressions, in memory, as items of the reading.
use Rattle.std.specs.Prelude.{List, [], ◌∷◌, Option, Box, Vec}
use Rattle.std.specs.Global.{Global}
use Rattle.aud_text.specs.declared.place.Pos.{Pos}
use Rattle.aud_syntax.specs.declared.tree.Ident.{Ident}
use Rattle.aud_syntax.specs.declared.tree.Primary.{Primary}
use Rattle.aud_syntax.specs.declared.tree.Factor.{Factor}
use Rattle.aud_syntax.specs.declared.tree.Multiplied.{Multiplied}
use Rattle.aud_syntax.specs.declared.tree.Term.{Term}
use Rattle.aud_syntax.specs.declared.tree.Added.{Added}
use Rattle.aud_syntax.specs.declared.tree.Simple.{Simple}
use Rattle.aud_syntax.specs.declared.tree.Relation.{Relation}
use Rattle.aud_syntax.specs.declared.tree.Expression.{Expression}
use Rattle.aud_syntax.specs.declared.tree.Name.{Name}
use Rattle.aud_syntax.specs.declared.tree.NamePart.{NamePart}
use Rattle.aud_syntax.specs.Ties.View.{plain_expression, plain_boxed, plain_expressions, plain_part, plain_name, plain_primary, plain_factor, plain_multiplied, plain_term, plain_added, plain_simple, plain_relation}
use Rattle.aud_grammar.specs.Actions.{Item, none, in_parens, an_attribute, some_args, a_part, a_name, a_primary, a_factor, a_multiplied, a_term, an_added, a_simple, a_relation, an_expression}

abbrev pub parens_item : Pos × Box Expression Global → Item
parens_item x = in_parens x.0 (plain_expression x.1.value)

abbrev pub attribute_item : Ident × Option (Box Expression Global) → Item
attribute_item x = an_attribute x.0 (plain_boxed x.1)

abbrev pub name_item : Box Name Global → Item
name_item x = a_name (plain_name x.value)

-- arguments, none where there are no parentheses
abbrev pub args_of : List Expression → Item
args_of [] = none
args_of (x ∷ xs) = some_args (plain_expressions (x ∷ xs))

abbrev pub args_item : Vec Expression Global → Item
args_item v = args_of v.items

abbrev pub part_item : NamePart → Item
part_item x = a_part (plain_part x)

abbrev pub primary_item : Primary → Item
primary_item x = a_primary (plain_primary x)

abbrev pub factor_item : Factor → Item
factor_item x = a_factor (plain_factor x)

abbrev pub multiplied_item : Multiplied → Item
multiplied_item x = a_multiplied (plain_multiplied x)

abbrev pub term_item : Term → Item
term_item x = a_term (plain_term x)

abbrev pub added_item : Added → Item
added_item x = an_added (plain_added x)

abbrev pub simple_item : Simple → Item
simple_item x = a_simple (plain_simple x)

abbrev pub relation_item : Relation → Item
relation_item x = a_relation (plain_relation x)

abbrev pub expression_item : Expression → Item
expression_item x = an_expression (plain_expression x)
