-- The words of expressions and names are those of their symbols.
use Rattle.std.proofs.Common.{List, [], ◌∷◌, ◌++◌, ap, append_assoc}
use Rattle.std.specs.Prelude.{Some, None, codes}
use Rattle.aud_lex.specs.Why.Spaced.{Word, word}
use Rattle.aud_syntax.specs.declared.tree.Sign.TheVariants as sign
use Rattle.aud_syntax.specs.declared.tree.Adding.TheVariants as adding
use Rattle.aud_syntax.specs.declared.tree.Multiplying.TheVariants as multiplying
use Rattle.aud_syntax.specs.declared.tree.Highest.TheVariants as highest
use Rattle.aud_syntax.specs.declared.tree.Relational.TheVariants as relational
use Rattle.aud_syntax.specs.declared.tree.Connective.TheVariants as connective
use Rattle.aud_syntax.specs.Plain as m
use Rattle.aud_syntax.specs.Why.Printed as w
use Rattle.aud_grammar.specs.Grammar as g
use Rattle.aud_grammar.specs.Grammar.{Symbol, N, rule}
use Rattle.aud_grammar.specs.Actions as a
use Rattle.aud_grammar.specs.Actions.{Item, token, made}
use Rattle.aud_grammar.proofs.Told.{says_selected, says_more_arg, says_expression, says_logic, says_and_then, says_and, says_or_else, says_or, says_more_relation, says_compared, says_relational, says_relation, says_simple, says_sign, says_added, says_adding, says_term, says_multiplied, says_multiplying, says_factor, says_operator, says_primary, says_attribute, says_parens, says_name, says_part, says_args, says_ident, says_number, says_literal, Told, t_word, t_token, t_part, t_level, t_down, t_some, t_none, t_row, so, addeds_row, multiplieds_row, parts_row, more_args_row, relations_row}
use Rattle.aud_grammar.proofs.SameWords.{attribute_words, expression_words, two, three, last_two, list_between}

pub expression_told : {k : List Symbol} {ds : List Item} {ws : List Word} → Told (rule g.Expression ++ k) ds ws → Told (N g.Expression ∷ k) (made g.Expression ds) ws
expression_told (t_part (says_relation x) (t_some {ws = ws} (says_logic o y ys) r)) =
    so (t_part (says_expression (m.connected o x y ys)) r) (last_two (w.relation_words x) (w.connected_words o y) (w.relations_words o ys) ws)
expression_told (t_part (says_relation x) (t_none r)) = t_part (says_expression (m.alone x)) r

pub and_logic_told : {k : List Symbol} {ds : List Item} {ws : List Word} → Told (rule g.AndLogic ++ k) ds ws → Told (N g.AndLogic ∷ k) (made g.AndLogic ds) ws
and_logic_told (t_word b (t_part (says_and_then x xs) r)) = t_part (says_logic connective.AndThen x xs) r
and_logic_told (t_word b (t_part (says_and x xs) r)) = t_part (says_logic connective.And x xs) r

pub and_then_told : {k : List Symbol} {ds : List Item} {ws : List Word} → Told (rule g.AndThen ++ k) ds ws → Told (N g.AndThen ∷ k) (made g.AndThen ds) ws
and_then_told (t_word b (t_part (says_relation y) (t_row {x = x} {us = us} {ws = ws} row r))) =
    so (t_part (says_and_then y (a.the_relations x)) r) (ap (λ z. word (codes "then") ∷ z) (two (w.relation_words y) (w.relations_words connective.AndThen (a.the_relations x)) us ws (relations_row row)))

pub and_only_told : {k : List Symbol} {ds : List Item} {ws : List Word} → Told (rule g.AndOnly ++ k) ds ws → Told (N g.AndOnly ∷ k) (made g.AndOnly ds) ws
and_only_told (t_part (says_relation y) (t_row {x = x} {us = us} {ws = ws} row r)) =
    so (t_part (says_and y (a.the_relations x)) r) (two (w.relation_words y) (w.relations_words connective.And (a.the_relations x)) us ws (relations_row row))

pub more_and_then_told : {k : List Symbol} {ds : List Item} {ws : List Word} → Told (rule g.MoreAndThen ++ k) ds ws → Told (N g.MoreAndThen ∷ k) (made g.MoreAndThen ds) ws
more_and_then_told (t_word b (t_word c (t_part (says_relation x) r))) = t_part (says_more_relation connective.AndThen x) r

pub more_and_told : {k : List Symbol} {ds : List Item} {ws : List Word} → Told (rule g.MoreAnd ++ k) ds ws → Told (N g.MoreAnd ∷ k) (made g.MoreAnd ds) ws
more_and_told (t_word b (t_part (says_relation x) r)) = t_part (says_more_relation connective.And x) r

pub or_logic_told : {k : List Symbol} {ds : List Item} {ws : List Word} → Told (rule g.OrLogic ++ k) ds ws → Told (N g.OrLogic ∷ k) (made g.OrLogic ds) ws
or_logic_told (t_word b (t_part (says_or_else x xs) r)) = t_part (says_logic connective.OrElse x xs) r
or_logic_told (t_word b (t_part (says_or x xs) r)) = t_part (says_logic connective.Or x xs) r

pub or_else_told : {k : List Symbol} {ds : List Item} {ws : List Word} → Told (rule g.OrElse ++ k) ds ws → Told (N g.OrElse ∷ k) (made g.OrElse ds) ws
or_else_told (t_word b (t_part (says_relation y) (t_row {x = x} {us = us} {ws = ws} row r))) =
    so (t_part (says_or_else y (a.the_relations x)) r) (ap (λ z. word (codes "else") ∷ z) (two (w.relation_words y) (w.relations_words connective.OrElse (a.the_relations x)) us ws (relations_row row)))

pub or_only_told : {k : List Symbol} {ds : List Item} {ws : List Word} → Told (rule g.OrOnly ++ k) ds ws → Told (N g.OrOnly ∷ k) (made g.OrOnly ds) ws
or_only_told (t_part (says_relation y) (t_row {x = x} {us = us} {ws = ws} row r)) =
    so (t_part (says_or y (a.the_relations x)) r) (two (w.relation_words y) (w.relations_words connective.Or (a.the_relations x)) us ws (relations_row row))

pub more_or_else_told : {k : List Symbol} {ds : List Item} {ws : List Word} → Told (rule g.MoreOrElse ++ k) ds ws → Told (N g.MoreOrElse ∷ k) (made g.MoreOrElse ds) ws
more_or_else_told (t_word b (t_word c (t_part (says_relation x) r))) = t_part (says_more_relation connective.OrElse x) r

pub more_or_told : {k : List Symbol} {ds : List Item} {ws : List Word} → Told (rule g.MoreOr ++ k) ds ws → Told (N g.MoreOr ∷ k) (made g.MoreOr ds) ws
more_or_told (t_word b (t_part (says_relation x) r)) = t_part (says_more_relation connective.Or x) r

pub xor_logic_told : {k : List Symbol} {ds : List Item} {ws : List Word} → Told (rule g.XorLogic ++ k) ds ws → Told (N g.XorLogic ∷ k) (made g.XorLogic ds) ws
xor_logic_told (t_part (says_more_relation o y) (t_row {x = x} {us = us} {ws = ws} row r)) =
    so (t_part (says_logic connective.Xor y (a.the_relations x)) r) (two (w.connected_words connective.Xor y) (w.relations_words connective.Xor (a.the_relations x)) us ws (relations_row row))

pub more_xor_told : {k : List Symbol} {ds : List Item} {ws : List Word} → Told (rule g.MoreXor ++ k) ds ws → Told (N g.MoreXor ∷ k) (made g.MoreXor ds) ws
more_xor_told (t_word b (t_part (says_relation x) r)) = t_part (says_more_relation connective.Xor x) r

pub relation_told : {k : List Symbol} {ds : List Item} {ws : List Word} → Told (rule g.Relation ++ k) ds ws → Told (N g.Relation ∷ k) (made g.Relation ds) ws
relation_told (t_part (says_simple x) (t_some {ws = ws} (says_compared o y) r)) =
    so (t_part (says_relation (m.related o x y)) r) (append_assoc (w.simple_words x) (word (w.relational_spelling o) ∷ w.simple_words y) ws)
relation_told (t_part (says_simple x) (t_none r)) = t_part (says_relation (m.unrelated x)) r

pub compared_told : {k : List Symbol} {ds : List Item} {ws : List Word} → Told (rule g.Compared ++ k) ds ws → Told (N g.Compared ∷ k) (made g.Compared ds) ws
compared_told (t_part (says_relational o) (t_part (says_simple x) r)) = t_part (says_compared o x) r

pub equal_told : {k : List Symbol} {ds : List Item} {ws : List Word} → Told (rule g.Equal ++ k) ds ws → Told (N g.Equal ∷ k) (made g.Equal ds) ws
equal_told (t_word x r) = t_part (says_relational relational.Equal) r

pub unequal_told : {k : List Symbol} {ds : List Item} {ws : List Word} → Told (rule g.Unequal ++ k) ds ws → Told (N g.Unequal ∷ k) (made g.Unequal ds) ws
unequal_told (t_word x r) = t_part (says_relational relational.Unequal) r

pub less_told : {k : List Symbol} {ds : List Item} {ws : List Word} → Told (rule g.Less ++ k) ds ws → Told (N g.Less ∷ k) (made g.Less ds) ws
less_told (t_word x r) = t_part (says_relational relational.Less) r

pub at_most_told : {k : List Symbol} {ds : List Item} {ws : List Word} → Told (rule g.AtMost ++ k) ds ws → Told (N g.AtMost ∷ k) (made g.AtMost ds) ws
at_most_told (t_word x r) = t_part (says_relational relational.AtMost) r

pub greater_told : {k : List Symbol} {ds : List Item} {ws : List Word} → Told (rule g.Greater ++ k) ds ws → Told (N g.Greater ∷ k) (made g.Greater ds) ws
greater_told (t_word x r) = t_part (says_relational relational.Greater) r

pub at_least_told : {k : List Symbol} {ds : List Item} {ws : List Word} → Told (rule g.AtLeast ++ k) ds ws → Told (N g.AtLeast ∷ k) (made g.AtLeast ds) ws
at_least_told (t_word x r) = t_part (says_relational relational.AtLeast) r

pub simple_told : {k : List Symbol} {ds : List Item} {ws : List Word} → Told (rule g.Simple ++ k) ds ws → Told (N g.Simple ∷ k) (made g.Simple ds) ws
simple_told (t_some (says_sign s) (t_part (says_term t) (t_row {x = x} {us = us} {ws = ws} row r))) =
    so (t_part (says_simple (m.simple (Some s) t (a.the_addeds x))) r) (three (w.sign_words (Some s)) (w.term_words t) (w.addeds_words (a.the_addeds x)) us ws (addeds_row row))
simple_told (t_none (t_part (says_term t) (t_row {x = x} {us = us} {ws = ws} row r))) =
    so (t_part (says_simple (m.simple None t (a.the_addeds x))) r) (two (w.term_words t) (w.addeds_words (a.the_addeds x)) us ws (addeds_row row))

pub positive_told : {k : List Symbol} {ds : List Item} {ws : List Word} → Told (rule g.Positive ++ k) ds ws → Told (N g.Positive ∷ k) (made g.Positive ds) ws
positive_told (t_token t r) = t_part (says_sign (record { sign = sign.Plus; at = t.at })) r

pub negative_told : {k : List Symbol} {ds : List Item} {ws : List Word} → Told (rule g.Negative ++ k) ds ws → Told (N g.Negative ∷ k) (made g.Negative ds) ws
negative_told (t_token t r) = t_part (says_sign (record { sign = sign.Minus; at = t.at })) r

pub added_told : {k : List Symbol} {ds : List Item} {ws : List Word} → Told (rule g.Added ++ k) ds ws → Told (N g.Added ∷ k) (made g.Added ds) ws
added_told (t_part (says_adding o) (t_part (says_term t) r)) = t_part (says_added (m.added o t)) r

pub plus_told : {k : List Symbol} {ds : List Item} {ws : List Word} → Told (rule g.Plus ++ k) ds ws → Told (N g.Plus ∷ k) (made g.Plus ds) ws
plus_told (t_word x r) = t_part (says_adding adding.Plus) r

pub minus_told : {k : List Symbol} {ds : List Item} {ws : List Word} → Told (rule g.Minus ++ k) ds ws → Told (N g.Minus ∷ k) (made g.Minus ds) ws
minus_told (t_word x r) = t_part (says_adding adding.Minus) r

pub join_told : {k : List Symbol} {ds : List Item} {ws : List Word} → Told (rule g.Join ++ k) ds ws → Told (N g.Join ∷ k) (made g.Join ds) ws
join_told (t_word x r) = t_part (says_adding adding.Join) r

pub term_told : {k : List Symbol} {ds : List Item} {ws : List Word} → Told (rule g.Term ++ k) ds ws → Told (N g.Term ∷ k) (made g.Term ds) ws
term_told (t_part (says_factor f) (t_row {x = x} {us = us} {ws = ws} row r)) =
    so (t_part (says_term (m.term f (a.the_multiplieds x))) r) (two (w.factor_words f) (w.multiplieds_words (a.the_multiplieds x)) us ws (multiplieds_row row))

pub multiplied_told : {k : List Symbol} {ds : List Item} {ws : List Word} → Told (rule g.Multiplied ++ k) ds ws → Told (N g.Multiplied ∷ k) (made g.Multiplied ds) ws
multiplied_told (t_part (says_multiplying o) (t_part (says_factor f) r)) = t_part (says_multiplied (m.multiplied o f)) r

pub times_told : {k : List Symbol} {ds : List Item} {ws : List Word} → Told (rule g.Times ++ k) ds ws → Told (N g.Times ∷ k) (made g.Times ds) ws
times_told (t_word x r) = t_part (says_multiplying multiplying.Times) r

pub divide_told : {k : List Symbol} {ds : List Item} {ws : List Word} → Told (rule g.Divide ++ k) ds ws → Told (N g.Divide ∷ k) (made g.Divide ds) ws
divide_told (t_word x r) = t_part (says_multiplying multiplying.Divide) r

pub modulo_told : {k : List Symbol} {ds : List Item} {ws : List Word} → Told (rule g.Modulo ++ k) ds ws → Told (N g.Modulo ∷ k) (made g.Modulo ds) ws
modulo_told (t_word x r) = t_part (says_multiplying multiplying.Modulo) r

pub remainder_told : {k : List Symbol} {ds : List Item} {ws : List Word} → Told (rule g.Remainder ++ k) ds ws → Told (N g.Remainder ∷ k) (made g.Remainder ds) ws
remainder_told (t_word x r) = t_part (says_multiplying multiplying.Remainder) r

pub factor_told : {k : List Symbol} {ds : List Item} {ws : List Word} → Told (rule g.Factor ++ k) ds ws → Told (N g.Factor ∷ k) (made g.Factor ds) ws
factor_told (t_some (says_operator o) (t_part (says_primary p) r)) = t_part (says_factor (m.factor (Some o) p)) r
factor_told (t_none (t_part (says_primary p) r)) = t_part (says_factor (m.factor None p)) r

pub magnitude_told : {k : List Symbol} {ds : List Item} {ws : List Word} → Told (rule g.Magnitude ++ k) ds ws → Told (N g.Magnitude ∷ k) (made g.Magnitude ds) ws
magnitude_told (t_token t r) = t_part (says_operator (record { highest = highest.Magnitude; at = t.at })) r

pub not_told : {k : List Symbol} {ds : List Item} {ws : List Word} → Told (rule g.Not ++ k) ds ws → Told (N g.Not ∷ k) (made g.Not ds) ws
not_told (t_token t r) = t_part (says_operator (record { highest = highest.Not; at = t.at })) r

pub integer_told : {k : List Symbol} {ds : List Item} {ws : List Word} → Told (rule g.Integer ++ k) ds ws → Told (N g.Integer ∷ k) (made g.Integer ds) ws
integer_told (t_part (says_number n) r) = t_part (says_primary (m.integer n)) r

pub string_told : {k : List Symbol} {ds : List Item} {ws : List Word} → Told (rule g.String ++ k) ds ws → Told (N g.String ∷ k) (made g.String ds) ws
string_told (t_part (says_literal l) r) = t_part (says_primary (m.text l)) r

pub named_told : {k : List Symbol} {ds : List Item} {ws : List Word} → Told (rule g.Named ++ k) ds ws → Told (N g.Named ∷ k) (made g.Named ds) ws
named_told (t_part (says_name x) (t_some {ws = ws} (says_attribute j e) r)) = so (t_part (says_primary (m.attribute x j e)) r) (append_assoc (w.name_words x) (attribute_words j e) ws)
named_told (t_part (says_name x) (t_none r)) = t_part (says_primary (m.name x)) r

pub attribute_told : {k : List Symbol} {ds : List Item} {ws : List Word} → Told (rule g.Attribute ++ k) ds ws → Told (N g.Attribute ∷ k) (made g.Attribute ds) ws
attribute_told (t_word x (t_part (says_ident i) (t_some (says_parens at e) r))) = t_part (says_attribute i (m.an_expression e)) r
attribute_told (t_word x (t_part (says_ident i) (t_none r))) = t_part (says_attribute i m.no_expression) r

pub group_told : {k : List Symbol} {ds : List Item} {ws : List Word} → Told (rule g.Group ++ k) ds ws → Told (N g.Group ∷ k) (made g.Group ds) ws
group_told (t_part (says_parens at e) r) = t_part (says_primary (m.group at e)) r

pub parens_told : {k : List Symbol} {ds : List Item} {ws : List Word} → Told (rule g.Parens ++ k) ds ws → Told (N g.Parens ∷ k) (made g.Parens ds) ws
parens_told (t_level s (t_down r)) = t_part s r

pub in_parens_told : {k : List Symbol} {ds : List Item} {ws : List Word} → Told (rule g.InParens ++ k) ds ws → Told (N g.InParens ∷ k) (made g.InParens ds) ws
in_parens_told (t_token t (t_part (says_expression e) (t_word {ws = ws} x r))) =
    so (t_part (says_parens t.at e) r) (ap (λ z. word (codes "(") ∷ z) (append_assoc (expression_words e) (word (codes ")") ∷ []) ws))

pub name_told : {k : List Symbol} {ds : List Item} {ws : List Word} → Told (rule g.Name ++ k) ds ws → Told (N g.Name ∷ k) (made g.Name ds) ws
name_told (t_part (says_part p) (t_row {x = x} {us = us} {ws = ws} row r)) =
    so (t_part (says_name (m.named p (a.the_parts x))) r) (two (w.part_words p) (w.parts_words (a.the_parts x)) us ws (parts_row row))

pub name_part_told : {k : List Symbol} {ds : List Item} {ws : List Word} → Told (rule g.NamePart ++ k) ds ws → Told (N g.NamePart ∷ k) (made g.NamePart ds) ws
name_part_told (t_part (says_ident i) (t_some (says_args xs) r)) = t_part (says_part (m.part i xs)) r
name_part_told (t_part (says_ident i) (t_none r)) = t_part (says_part (m.part i m.no_args)) r

pub selected_told : {k : List Symbol} {ds : List Item} {ws : List Word} → Told (rule g.Selected ++ k) ds ws → Told (N g.Selected ∷ k) (made g.Selected ds) ws
selected_told (t_word p (t_part (says_part x) r)) = t_part (says_selected x) r

pub args_told : {k : List Symbol} {ds : List Item} {ws : List Word} → Told (rule g.Args ++ k) ds ws → Told (N g.Args ∷ k) (made g.Args ds) ws
args_told (t_level s (t_down r)) = t_part s r

pub in_args_told : {k : List Symbol} {ds : List Item} {ws : List Word} → Told (rule g.InArgs ++ k) ds ws → Told (N g.InArgs ∷ k) (made g.InArgs ds) ws
in_args_told (t_word o (t_part (says_expression e) (t_row {x = x} {us = us} row (t_word {ws = ws} c r)))) =
    so (t_part (says_args (m.more_args e (a.expression_args x))) r)
    (ap (λ z. word (codes "(") ∷ z) (list_between (expression_words e) (w.more_args_words (a.expression_args x)) (word (codes ")") ∷ []) us ws (more_args_row row)))

pub more_args_told : {k : List Symbol} {ds : List Item} {ws : List Word} → Told (rule g.MoreArgs ++ k) ds ws → Told (N g.MoreArgs ∷ k) (made g.MoreArgs ds) ws
more_args_told (t_word c (t_part (says_expression e) r)) = t_part (says_more_arg e) r

pub identifier_told : {k : List Symbol} {ds : List Item} {ws : List Word} → Told (rule g.Identifier ++ k) ds ws → Told (N g.Identifier ∷ k) (made g.Identifier ds) ws
identifier_told (t_token t r) = t_part (says_ident (a.ident_of (token t))) r

pub number_told : {k : List Symbol} {ds : List Item} {ws : List Word} → Told (rule g.Number ++ k) ds ws → Told (N g.Number ∷ k) (made g.Number ds) ws
number_told (t_token t r) = t_part (says_number (a.number_of (token t))) r

pub literal_told : {k : List Symbol} {ds : List Item} {ws : List Word} → Told (rule g.Literal ++ k) ds ws → Told (N g.Literal ∷ k) (made g.Literal ds) ws
literal_told (t_token t r) = t_part (says_literal (a.literal_of (token t))) r
