-- The items of names, expressions and of what stands alone, which are built from their phrases.
use Rattle.std.proofs.Common.{◌≡◌, List, [], ◌∷◌, refl, sym, ap, ◌∙◌}
use Rattle.std.specs.Prelude.{Option, Some, None, Vec}
use Rattle.std.specs.Global.{Global}
use Rattle.std.specs.Prelude.{Box}
use Rattle.aud_syntax.specs.declared.tree.Ident.{Ident}
use Rattle.aud_syntax.specs.declared.tree.Signed.{Signed}
use Rattle.aud_syntax.specs.declared.tree.Adding.{Adding}
use Rattle.aud_syntax.specs.declared.tree.Operator.{Operator}
use Rattle.aud_syntax.specs.declared.tree.Simple.{Simple, roll-Simple, rolls-Simple', Row_of-Added, end_of-Added, more_of-Added, items-the_row-Added, items_hidden-the_row-Added-3}
use Rattle.aud_syntax.specs.declared.tree.Added.{Added, roll-Added, rolls-Added'}
use Rattle.aud_syntax.specs.declared.tree.Term.{Term, roll-Term, rolls-Term', Row_of-Multiplied, end_of-Multiplied, more_of-Multiplied, items-the_row-Multiplied, items_hidden-the_row-Multiplied-4}
use Rattle.aud_syntax.specs.declared.tree.Multiplied.{Multiplied}
use Rattle.aud_syntax.specs.declared.tree.Factor.{Factor}
use Rattle.aud_syntax.specs.declared.tree.Expression.{Expression}
use Rattle.aud_syntax.specs.declared.tree.Expression.TheVariants.{Connected}
use Rattle.aud_syntax.specs.declared.tree.Connective.{Connective}
use Rattle.aud_syntax.specs.declared.tree.Chain.{Chain}
use Rattle.aud_syntax.specs.declared.tree.Relation.{Relation}
use Rattle.aud_syntax.specs.declared.tree.Name.{Name, roll-Name}
use Rattle.aud_syntax.specs.declared.tree.NamePart.{NamePart}
use Rattle.aud_syntax.specs.declared.tree.Primary as primary
use Rattle.aud_syntax.specs.declared.tree.Primary.{Primary}
use Rattle.aud_syntax.proofs.Opened.{chain_open, attribute_open, name_roll}
use Rattle.aud_syntax.specs.declared.tree.Expression.TheBlock.{hidden-the_row-Multiplied-4, hidden-the_row-Added-3}
use Rattle.aud_syntax.specs.Plain as m
use Rattle.aud_syntax.specs.Ties.View.{plain_name, plain_primary, plain_factor, plain_multiplieds, plain_term, plain_added, plain_addeds, plain_simple, plain_expression, plain_relation, relation_list, plain_chain, plain_expressions, plain_part, part_list}
use Rattle.aud_grammar.specs.Grammar as g
use Rattle.aud_grammar.specs.Actions.{Item, made, an_ident, a_sign, an_operator, a_primary, a_factor, a_term, a_simple, an_expression, chained, opt_sign, opt_operator, the_multiplieds, the_addeds, the_relations, listed, top, pop, some_args, a_part, a_name, the_args, the_parts, expression_args}
use Rattle.aud_cursor.specs.Ties.Items.{list_item, opt_item, boxed_item}
use Rattle.aud_parse_expr.specs.Ties.Items.{name_item, attribute_item, factor_item, multiplied_item, primary_item, term_item, added_item, simple_item, relation_item, expression_item, args_of, args_item, part_item}

pub multiplied_rows : (n : _) (row : Row_of-Multiplied n) → plain_multiplieds row ≡ the_multiplieds (list_item multiplied_item (items-the_row-Multiplied n row))
multiplied_rows n end_of-Multiplied = refl
multiplied_rows n (more_of-Multiplied by operator primary row) = ap (λ z. m.more_multiplieds (m.multiplied by (m.factor operator (plain_primary primary))) z) (multiplied_rows _ row)

pub added_rows : (n : _) (row : Row_of-Added n) → plain_addeds row ≡ the_addeds (list_item added_item (items-the_row-Added n row))
added_rows n end_of-Added = refl
added_rows n (more_of-Added x row) = ap (λ z. m.more_addeds (plain_added x) z) (added_rows _ row)

pub added_roll : (s : Adding) (t : Term) → plain_added (roll-Added (record { operator = s; term = t })) ≡ m.added s (plain_term t)
added_roll s t = ap plain_added (rolls-Added' _)

term_roll : (f : Factor) (v : Vec Multiplied Global) → plain_term (roll-Term (record { first = f; rest = v })) ≡ m.term (plain_factor f) (the_multiplieds (list_item multiplied_item v.items))
term_roll f v = ap plain_term (rolls-Term' _) ∙ ap (λ z. m.term (plain_factor f) z) (multiplied_rows _ (hidden-the_row-Multiplied-4 v) ∙ ap (λ l. the_multiplieds (list_item multiplied_item l)) (items_hidden-the_row-Multiplied-4 v))

opt_sign_is : (s : Option Signed) → s ≡ opt_sign (opt_item a_sign s)
opt_sign_is None = refl
opt_sign_is (Some x) = refl

simple_roll : (s : Option Signed) (t : Term) (v : Vec Added Global) → plain_simple (roll-Simple (record { sign = s; first = t; rest = v })) ≡ m.simple (opt_sign (opt_item a_sign s)) (plain_term t) (the_addeds (list_item added_item v.items))
simple_roll s t v = ap plain_simple (rolls-Simple' _) ∙ ap (λ z. m.simple s (plain_term t) z) (added_rows _ (hidden-the_row-Added-3 v) ∙ ap (λ l. the_addeds (list_item added_item l)) (items_hidden-the_row-Added-3 v)) ∙ ap (λ z. m.simple z (plain_term t) (the_addeds (list_item added_item v.items))) (opt_sign_is s)

opt_operator_is : (s : Option Operator) → opt_operator (opt_item an_operator s) ≡ s
opt_operator_is None = refl
opt_operator_is (Some x) = refl

pub factor_items : (s : Option Operator) (p : Primary) (ds : List Item) → made g.Factor (opt_item an_operator s ∷ primary_item p ∷ ds) ≡ factor_item (record { operator = s; primary = p }) ∷ ds
factor_items s p ds = ap (λ z. a_factor (m.factor z (plain_primary p)) ∷ ds) (opt_operator_is s)

relations_items : (xs : List Relation) → the_relations (list_item relation_item xs) ≡ relation_list xs
relations_items [] = refl
relations_items (x ∷ xs) = ap (λ z. m.more_relations (plain_relation x) z) (relations_items xs)

pub term_items : (b : Box Term Global) (f : Box Factor Global) (x : Factor) (v : Vec Multiplied Global) (ds : List Item) → b.value ≡ roll-Term (record { first = x; rest = v }) → x ≡ f.value →
    made g.Term (boxed_item factor_item f ∷ list_item multiplied_item v.items ∷ ds) ≡ boxed_item term_item b ∷ ds
term_items b f x v ds h i =
    ap (λ z. a_term (m.term (plain_factor z) (the_multiplieds (list_item multiplied_item v.items))) ∷ ds) (sym i) ∙ ap (λ z. a_term z ∷ ds) (sym (term_roll x v)) ∙ ap (λ z. a_term (plain_term z) ∷ ds) (sym h)

pub sum_items : (b : Box Simple Global) (s : Option Signed) (f : Box Term Global) (x : Term) (v : Vec Added Global) (ds : List Item) → b.value ≡ roll-Simple (record { sign = s; first = x; rest = v }) → x ≡ f.value →
    made g.Simple (opt_item a_sign s ∷ boxed_item term_item f ∷ list_item added_item v.items ∷ ds) ≡ boxed_item simple_item b ∷ ds
sum_items b s f x v ds h i =
    ap (λ z. a_simple (m.simple (opt_sign (opt_item a_sign s)) (plain_term z) (the_addeds (list_item added_item v.items))) ∷ ds) (sym i)
    ∙ ap (λ z. a_simple z ∷ ds) (sym (simple_roll s x v))
    ∙ ap (λ z. a_simple (plain_simple z) ∷ ds) (sym h)

pub chain_items : (b : Box Expression Global) (x : Box Chain Global) (operator : Connective) (f s : Box Relation Global) (first second : Relation) (v : Vec Relation Global) (ds : List Item) → b.value ≡ Connected x →
    x.value ≡ record { connective = operator; first = first; second = second; others = v } → first ≡ f.value → second ≡ s.value →
    made g.Expression (boxed_item relation_item f ∷ chained operator (boxed_item relation_item s ∷ list_item relation_item v.items ∷ ds)) ≡ boxed_item expression_item b ∷ ds
chain_items b x operator f s first second v ds h i j k =
    ap (λ z. an_expression (m.connected operator (plain_relation z) (plain_relation s.value) (the_relations (list_item relation_item v.items))) ∷ ds) (sym j)
    ∙ ap (λ z. an_expression (m.connected operator (plain_relation first) (plain_relation z) (the_relations (list_item relation_item v.items))) ∷ ds) (sym k)
    ∙ ap (λ z. an_expression (m.connected operator (plain_relation first) (plain_relation second) z) ∷ ds) (relations_items v.items)
    ∙ ap (λ (z : Chain). an_expression (plain_chain z) ∷ ds) (sym i)
    ∙ ap (λ z. an_expression z ∷ ds) (sym (chain_open x))
    ∙ ap (λ z. an_expression (plain_expression z) ∷ ds) (sym h)

args_are : (xs : List Expression) → expression_args (list_item expression_item xs) ≡ plain_expressions xs
args_are [] = refl
args_are (x ∷ xs) = ap (λ z. m.more_args (plain_expression x) z) (args_are xs)

pub the_args_are : (xs : List Expression) → the_args (args_of xs) ≡ plain_expressions xs
the_args_are [] = refl
the_args_are (x ∷ xs) = refl

pub parts_are : (xs : List NamePart) → the_parts (list_item part_item xs) ≡ part_list xs
parts_are [] = refl
parts_are (x ∷ xs) = ap (λ z. m.more_parts (plain_part x) z) (parts_are xs)

pub args_items : (es ds : List Item) (xs : List Expression) → listed es ≡ list_item expression_item xs ∷ ds → made g.InArgs es ≡ args_of xs ∷ ds
args_items es ds [] e = cc
args_items es ds (x ∷ xs) e = ap (λ z. some_args (expression_args (top z)) ∷ pop z) e ∙ ap (λ z. some_args (m.more_args (plain_expression x) z) ∷ ds) (args_are xs)

pub part_items : (i : Ident) (v : Vec Expression Global) (ds : List Item) → made g.NamePart (an_ident i ∷ args_item v ∷ ds) ≡ part_item (record { ident = i; args = v }) ∷ ds
part_items i v ds = ap (λ z. a_part (m.part i z) ∷ ds) (the_args_are v.items)

-- a name is made of its parts
pub parts_items : (b : Box Name Global) (first : NamePart) (v : Vec NamePart Global) (ds : List Item) → b.value ≡ roll-Name (record { first = first; others = v }) → made g.Name (part_item first ∷ list_item part_item v.items ∷ ds) ≡ name_item b ∷ ds
parts_items b first v ds h = ap (λ z. a_name (m.named (plain_part first) z) ∷ ds) (parts_are v.items) ∙ ap (λ z. a_name z ∷ ds) (sym (name_roll first v)) ∙ ap (λ z. a_name (plain_name z) ∷ ds) (sym h)

pub named_items : (b : Box Name Global) (j : Ident) (e : Option (Box Expression Global)) (ds : List Item) → made g.Named (name_item b ∷ attribute_item (j, e) ∷ ds) ≡ primary_item (primary.Attribute b j e) ∷ ds
named_items b j e ds = ap (λ z. a_primary z ∷ ds) (sym (attribute_open b j e))
