-- Trees by their parts.
use Rattle.std.proofs.Common.{◌≡◌, List, ◌∷◌, refl, ap, ◌∙◌}
use Rattle.std.specs.Prelude.{Option, Box}
use Rattle.std.specs.Global.{Global}
use Rattle.aud_syntax.specs.declared.tree.Ident.{Ident}
use Rattle.aud_syntax.specs.declared.tree.Primary.{Attribute}
use Rattle.aud_names.specs.Resolution.{name_ident}
use Rattle.aud_text.specs.declared.place.Pos.{Pos}
use Rattle.aud_syntax.specs.declared.tree.Multiplied.{Multiplied}
use Rattle.aud_syntax.specs.declared.tree.Simple.{Simple, out-Simple}
use Rattle.aud_syntax.specs.declared.tree.Added.{Added}
use Rattle.aud_syntax.specs.declared.tree.Term.{Term, out-Term}
use Rattle.aud_syntax.specs.declared.tree.Connective.{Connective}
use Rattle.aud_syntax.specs.declared.tree.Chain.{Chain}
use Rattle.aud_syntax.specs.declared.tree.Relation.{Relation}
use Rattle.aud_syntax.specs.declared.tree.Expression.{Expression}
use Rattle.aud_syntax.specs.declared.tree.NamePart.{NamePart}
use Rattle.aud_syntax.specs.declared.tree.Name.{Name, out-Name}
use Rattle.aud_syntax.specs.Ties.View.{plain_expression, plain_expressions, plain_name, plain_part, part_list, plain_chain, plain_relation, relation_list, plain_simple, plain_added, plain_term, plain_multiplied, plain_factor, plain_primary}
use Rattle.aud_syntax.proofs.Opened.{multiplied_list, added_list, term_open, simple_open, name_open, attribute_open}
use Rattle.aud_syntax.specs.Plain as m
use Rattle.std.specs.Prelude.{Ok}
use Rattle.aud_fault.specs.declared.fault.Fault.{Fault}
use Rattle.aud_typing.specs.declared.typed.Typed as memory
use Rattle.aud_fault.specs.Least.{noted}
use Rattle.aud_names.specs.Names.{Place}
use Rattle.aud_typing.specs.Expressions.{primary_at, Typed, unknown, Checked, after, with, prefix_faults, checked_arguments, checked_prefix, checked_parts, checked_part, checked_args, simple_at, term_at, signed_at, factor_at, relation_at, signed, further, checked_expression, checked_relations, checked_relation, checked_simple, checked_addeds, checked_added, checked_term, checked_multiplieds, checked_multiplied, checked_factor}
use Rattle.aud_typing.specs.Ties.Typing.{plain_typed, Shows}
use Rattle.aud_typing.proofs.Notes.{shows_with, Ahead, ahead_all, ahead_after, ahead_with}

-- where they begin
pub name_begins : (n : Name) → (name_ident (plain_name n)).at ≡ (out-Name n).first.ident.at
name_begins n = ap (λ z. (name_ident z).at) (name_open n)

pub attribute_begins : (x : Box Name Global) (i : Ident) (e : Option (Box Expression Global)) → primary_at (plain_primary (Attribute x i e)) ≡ (out-Name x.value).first.ident.at
attribute_begins x i e = ap primary_at (attribute_open x i e) ∙ name_begins x.value

pub term_begins : (t : Term) → term_at (plain_term t) ≡ factor_at (plain_factor (out-Term t).first)
term_begins t = ap term_at (term_open t)

pub simple_begins : (e : Simple) → simple_at (plain_simple e) ≡ signed_at (out-Simple e).sign (term_at (plain_term (out-Simple e).first))
simple_begins e = ap simple_at (simple_open e)

-- the loops over terms and factors
pub term_ahead : (t : Term) (place : Place) (old mid : Option Fault) (x : Box memory.Typed Global) (at : Pos) (items : List Multiplied) → at ≡ term_at (plain_term t) → items ≡ (out-Term t).rest.items → Shows (Ok x) old mid (checked_factor (plain_factor (out-Term t).first) place) → Ahead mid (checked_multiplieds (multiplied_list items) place at (plain_typed x.value)) old (checked_term (plain_term t) place)
term_ahead t place old mid x at items p q h =
    rw (p, q, term_open t) (ahead_with old old mid (checked_term (m.term (plain_factor (out-Term t).first) (multiplied_list (out-Term t).rest.items)) place) (checked_factor (plain_factor (out-Term t).first) place) (λ left. checked_multiplieds (multiplied_list (out-Term t).rest.items) place (factor_at (plain_factor (out-Term t).first)) left) x (ahead_all old _) h)

pub multiplied_ahead : (place : Place) (old mid new : Option Fault) (all : Checked) (x : Multiplied) (xs ys : List Multiplied) (at : Pos) (left : Typed) (t : Box memory.Typed Global) → xs ≡ x ∷ ys → Ahead mid (checked_multiplieds (multiplied_list xs) place at left) old all → Shows (Ok t) mid new (checked_multiplied (plain_multiplied x) place at left) → Ahead new (checked_multiplieds (multiplied_list ys) place at (plain_typed t.value)) old all
multiplied_ahead place old mid new all x xs ys at left t p a h =
    ahead_with old mid new all (checked_multiplied (plain_multiplied x) place at left) (λ z. checked_multiplieds (multiplied_list ys) place at z) t (rw p at a) h

pub simple_ahead : (e : Simple) (place : Place) (old mid new : Option Fault) (x y : Box memory.Typed Global) (at : Pos) (items : List Added) → at ≡ simple_at (plain_simple e) → items ≡ (out-Simple e).rest.items → Shows (Ok x) old mid (checked_term (plain_term (out-Simple e).first) place) → Shows (Ok y) mid new (signed (out-Simple e).sign (term_at (plain_term (out-Simple e).first)) (plain_typed x.value)) → Ahead new (checked_addeds (added_list items) place at (plain_typed y.value)) old (checked_simple (plain_simple e) place)
simple_ahead e place old mid new x y at items p q h k =
    rw (p, q, simple_open e) (ahead_with old mid new (checked_simple (m.simple (out-Simple e).sign (plain_term (out-Simple e).first) (added_list (out-Simple e).rest.items)) place) (signed (out-Simple e).sign (term_at (plain_term (out-Simple e).first)) (plain_typed x.value)) (λ left. checked_addeds (added_list (out-Simple e).rest.items) place (signed_at (out-Simple e).sign (term_at (plain_term (out-Simple e).first))) left) y (ahead_with old old mid _ (checked_term (plain_term (out-Simple e).first) place) (λ z. with (signed (out-Simple e).sign (term_at (plain_term (out-Simple e).first)) z) (λ left. checked_addeds (added_list (out-Simple e).rest.items) place (signed_at (out-Simple e).sign (term_at (plain_term (out-Simple e).first))) left)) x (ahead_all old _) h) k)

pub added_ahead : (place : Place) (old mid new : Option Fault) (all : Checked) (x : Added) (xs ys : List Added) (at : Pos) (left : Typed) (t : Box memory.Typed Global) → xs ≡ x ∷ ys → Ahead mid (checked_addeds (added_list xs) place at left) old all → Shows (Ok t) mid new (checked_added (plain_added x) place at left) → Ahead new (checked_addeds (added_list ys) place at (plain_typed t.value)) old all
added_ahead place old mid new all x xs ys at left t p a h =
    ahead_with old mid new all (checked_added (plain_added x) place at left) (λ z. checked_addeds (added_list ys) place at z) t (rw p at a) h

-- the loop over relations
pub chain_ahead : (e : Chain) (place : Place) (old mid new : Option Fault) (x y : Box memory.Typed Global) (at : Pos) (items : List Relation) → at ≡ relation_at (plain_relation e.first) → items ≡ e.others.items → Shows (Ok x) old mid (checked_relation (plain_relation e.first) place) → Shows (Ok y) mid new (further e.connective at (plain_typed x.value) (relation_at (plain_relation e.second)) (checked_relation (plain_relation e.second) place)) → Ahead new (checked_relations (relation_list items) place e.connective at (plain_typed y.value)) old (checked_expression (plain_chain e) place)
chain_ahead e place old mid new x y at items p q h k =
    let begins : Pos = relation_at (plain_relation e.first) in
    let second : Typed → Checked = λ left. further e.connective begins left (relation_at (plain_relation e.second)) (checked_relation (plain_relation e.second) place) in
    let rest : Typed → Checked = λ left. checked_relations (relation_list e.others.items) place e.connective begins left in
    rw (p, q) (ahead_with old mid new (checked_expression (plain_chain e) place) (second (plain_typed x.value)) rest y (ahead_with old old mid (checked_expression (plain_chain e) place) (checked_relation (plain_relation e.first) place) (λ left. with (second left) rest) x (ahead_all old _) h) (rw p at k))

pub further_ahead : (place : Place) (old mid new : Option Fault) (all : Checked) (c : Connective) (x : Relation) (xs ys : List Relation) (at : Pos) (left : Typed) (t : Box memory.Typed Global) → xs ≡ x ∷ ys → Ahead mid (checked_relations (relation_list xs) place c at left) old all → Shows (Ok t) mid new (further c at left (relation_at (plain_relation x)) (checked_relation (plain_relation x) place)) → Ahead new (checked_relations (relation_list ys) place c at (plain_typed t.value)) old all
further_ahead place old mid new all c x xs ys at left t p a h =
    ahead_with old mid new all (further c at left (relation_at (plain_relation x)) (checked_relation (plain_relation x) place)) (λ z. checked_relations (relation_list ys) place c at z) t (rw p at a) h

-- the loops over the arguments of a part, and over the parts of a name
pub args_ahead : (xs items : List Expression) (place : Place) (old : Option Fault) (before : Typed) → items ≡ xs → Ahead old (checked_args (plain_expressions items) place before) old (checked_args (plain_expressions xs) place before)
args_ahead xs items place old before p = rw p (ahead_all old (checked_args (plain_expressions xs) place before))

pub argument_ahead : (place : Place) (old mid new : Option Fault) (all : Checked) (x : Expression) (xs ys : List Expression) (last : Typed) (t : Box memory.Typed Global) → xs ≡ x ∷ ys → Ahead mid (checked_args (plain_expressions xs) place last) old all → Shows (Ok t) mid new (checked_expression (plain_expression x) place) → Ahead new (checked_args (plain_expressions ys) place (plain_typed t.value)) old all
argument_ahead place old mid new all x xs ys last t p a h =
    ahead_with old mid new all (checked_expression (plain_expression x) place) (λ z. checked_args (plain_expressions ys) place z) t (rw p at a) h

pub arguments_ahead : (n : Name) (place : Place) (old mid new : Option Fault) (x : Box memory.Typed Global) (items : List NamePart) → items ≡ (out-Name n).others.items → Shows (Ok x) old mid (checked_part (plain_part (out-Name n).first) place unknown) → new ≡ noted mid (prefix_faults (plain_part (out-Name n).first) (part_list (out-Name n).others.items) (plain_typed x.value) place) → Ahead new (checked_parts (part_list items) place (plain_typed x.value)) old (checked_arguments (plain_name n) place)
arguments_ahead n place old mid new x items p h k =
    let first : m.NamePart = plain_part (out-Name n).first in
    let rest : m.Parts = part_list (out-Name n).others.items in
    let all : Checked = checked_arguments (m.named first rest) place in
    let a = ahead_with old old mid all (checked_part first place unknown) (λ last. after (prefix_faults first rest last place) (checked_parts rest place last)) x (ahead_all old _) h in
    rw (p, name_open n) (ahead_after old mid new all (checked_parts rest place (plain_typed x.value)) (prefix_faults first rest (plain_typed x.value) place) a k)

pub part_ahead : (place : Place) (old mid new : Option Fault) (all : Checked) (x : NamePart) (xs ys : List NamePart) (last : Typed) (t : Box memory.Typed Global) → xs ≡ x ∷ ys → Ahead mid (checked_parts (part_list xs) place last) old all → Shows (Ok t) mid new (checked_part (plain_part x) place last) → Ahead new (checked_parts (part_list ys) place (plain_typed t.value)) old all
part_ahead place old mid new all x xs ys last t p a h =
    ahead_with old mid new all (checked_part (plain_part x) place last) (λ z. checked_parts (part_list ys) place z) t (rw p at a) h

-- the arguments before a point
pub prefix_shows : (n : Name) (place : Place) (old mid new : Option Fault) (x : Box memory.Typed Global) → Shows (Ok x) old mid (checked_part (plain_part (out-Name n).first) place unknown) → new ≡ noted mid (prefix_faults (plain_part (out-Name n).first) (part_list (out-Name n).others.items) (plain_typed x.value) place) → Shows (Ok x) old new (checked_prefix (plain_name n) place)
prefix_shows n place old mid new x h k =
    let first : m.NamePart = plain_part (out-Name n).first in
    let rest : m.Parts = part_list (out-Name n).others.items in
    rw (name_open n) (shows_with old mid new (checked_part first place unknown) (λ last. record { faults = prefix_faults first rest last place; typed = last }) x (Ok x) h (k, refl))
