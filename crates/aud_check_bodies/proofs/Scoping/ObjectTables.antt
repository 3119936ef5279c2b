-- What the operations and components of a protected object enter into the tables.
use Rattle.std.proofs.Common.{◌<◌, ◌≤◌, ℕ, Bool, true, false, Option, List, [], ◌∷◌, ◌++◌, length, arith}
use Rattle.std.specs.List.{AllByRecursion}
use Rattle.std.proofs.lemmas.Bool.{ne_eqb}
use Rattle.std.proofs.lemmas.List.{length_push}
use Rattle.aud_syntax.specs.Plain as plain
use Rattle.aud_typed.specs.Tree as tree
use Rattle.aud_typed.specs.Why.Scoped.{IsNot, AreDistinct}
use Rattle.aud_names.specs.Names.{Region, Place}
use Rattle.aud_check_bodies.specs.Tables.{Tables, protected_entry}
use Rattle.aud_check_bodies.specs.Objects as objects
use Rattle.aud_check_bodies.proofs.Scoping.Tables.{Grows, same, further, unit_grows, protected_entry_grows}

pub operation_grows : (object : ℕ) (is_private : Bool) (x : plain.Operation) (outer : List Region) (o : objects.ObjectDeclared) → Grows o.tables (objects.one_operation object is_private x outer o).tables
operation_grows object is_private (plain.entry_operation e) outer o = protected_entry_grows e.name.name (objects.operation_formals e.formals o.own (objects.further_out o outer)).profile o.tables
operation_grows object is_private (plain.procedure_operation i fs) outer o = unit_grows (objects.operation_formals fs o.own (objects.further_out o outer)).profile o.tables
operation_grows object is_private (plain.function_operation i fs mark) outer o = unit_grows (objects.function_signature fs mark o.own (objects.further_out o outer)).0 o.tables

pub item_grows : (object : ℕ) (x : plain.PrivateItem) (outer : List Region) (o : objects.ObjectDeclared) → Grows o.tables (objects.one_item object x outer o).tables
item_grows object (plain.private_operation x) outer o = operation_grows object true x outer o
item_grows object (plain.components first others mark initial) outer o = same o.tables

pub operations_grow : (object : ℕ) (xs : List plain.Operation) (outer : List Region) (o : objects.ObjectDeclared) → Grows o.tables (objects.declared_operations object xs outer o).tables
operations_grow object [] outer o = same o.tables
operations_grow object (x ∷ xs) outer o = let one = objects.one_operation object false x outer o in further {u = one.tables} (operation_grows object false x outer o) (operations_grow object xs outer one)

pub items_grow : (object : ℕ) (xs : List plain.PrivateItem) (outer : List Region) (o : objects.ObjectDeclared) → Grows o.tables (objects.declared_items object xs outer o).tables
items_grow object [] outer o = same o.tables
items_grow object (x ∷ xs) outer o = let one = objects.one_item object x outer o in further {u = one.tables} (item_grows object x outer o) (items_grow object xs outer one)

-- all that an object declares
pub parts_grow : (name : List ℕ) (operations : List plain.Operation) (hidden : Option (List plain.PrivateItem)) (n : Place) (t : Tables) → Grows t (objects.parts_declared name operations hidden n t).tables
parts_grow name operations hidden n t =
    let first = objects.declared_operations (length t.objects) operations n.regions (objects.no_parts name n t) in
    further {u = first.tables} (operations_grow (length t.objects) operations n.regions (objects.no_parts name n t)) (items_grow (length t.objects) (objects.hidden_items hidden) n.regions first)

-- Each entry of an object has the next number, so none stands twice in it.

abbrev pub Below : ℕ → List ℕ → Type 0
Below k ns = AllByRecursion (λ n. n < k) ns

below_more : (ns : List ℕ) (j k : ℕ) → j ≤ k → Below j ns → Below k ns
below_more [] j k e h = tt
below_more (n ∷ ns) j k e h = (omega (arith, e, h.0), below_more ns j k e h.1)

below_last : (ns : List ℕ) (n k : ℕ) → n < k → Below k ns → Below k (ns ++ n ∷ [])
below_last [] n k lt h = (lt, tt)
below_last (m ∷ ns) n k lt h = (h.0, below_last ns n k lt h.1)

is_not_last : (n : ℕ) (ms : List ℕ) (k : ℕ) → n < k → IsNot n ms → IsNot n (ms ++ k ∷ [])
is_not_last n [] k lt h = (ne_eqb n k (λ e. omega (arith, e, lt)), tt)
is_not_last n (m ∷ ms) k lt h = (h.0, is_not_last n ms k lt h.1)

pub distinct_last : (ns : List ℕ) (k : ℕ) → Below k ns → AreDistinct ns → AreDistinct (ns ++ k ∷ [])
distinct_last [] k h once = (tt, tt)
distinct_last (n ∷ ns) k h once = (is_not_last n ns k h.0 once.0, distinct_last ns k h.1 once.1)

record EntriesOnce (x : objects.ObjectDeclared) : Type 0 where
  pub below : Below (length x.tables.entries) x.entries
  pub distinct : AreDistinct x.entries

operation_once : (object : ℕ) (is_private : Bool) (x : plain.Operation) (outer : List Region) (o : objects.ObjectDeclared) → EntriesOnce o → EntriesOnce (objects.one_operation object is_private x outer o)
operation_once object is_private (plain.entry_operation e) outer o h =
    let number = length o.tables.entries in
    let profile = (objects.operation_formals e.formals o.own (objects.further_out o outer)).profile in
    let more : tree.EntryBody = protected_entry e.name.name (length profile) (length o.tables.units) in
    let longer = length_push o.tables.entries more in
    record {
      below = below_last o.entries number (length (o.tables.entries ++ more ∷ [])) (omega (arith, longer)) (below_more o.entries number (length (o.tables.entries ++ more ∷ [])) (omega (arith, longer)) h.below);
      distinct = distinct_last o.entries number h.below h.distinct;
    }
operation_once object is_private (plain.procedure_operation i fs) outer o h = record { below = h.below; distinct = h.distinct }
operation_once object is_private (plain.function_operation i fs mark) outer o h = record { below = h.below; distinct = h.distinct }

operations_once : (object : ℕ) (xs : List plain.Operation) (outer : List Region) (o : objects.ObjectDeclared) → EntriesOnce o → EntriesOnce (objects.declared_operations object xs outer o)
operations_once object [] outer o h = h
operations_once object (x ∷ xs) outer o h = operations_once object xs outer (objects.one_operation object false x outer o) (operation_once object false x outer o h)

item_once : (object : ℕ) (x : plain.PrivateItem) (outer : List Region) (o : objects.ObjectDeclared) → EntriesOnce o → EntriesOnce (objects.one_item object x outer o)
item_once object (plain.private_operation x) outer o h = operation_once object true x outer o h
item_once object (plain.components first others mark initial) outer o h = record { below = h.below; distinct = h.distinct }

items_once : (object : ℕ) (xs : List plain.PrivateItem) (outer : List Region) (o : objects.ObjectDeclared) → EntriesOnce o → EntriesOnce (objects.declared_items object xs outer o)
items_once object [] outer o h = h
items_once object (x ∷ xs) outer o h = items_once object xs outer (objects.one_item object x outer o) (item_once object x outer o h)

pub parts_distinct : (name : List ℕ) (operations : List plain.Operation) (hidden : Option (List plain.PrivateItem)) (n : Place) (t : Tables) → AreDistinct (objects.parts_declared name operations hidden n t).entries
parts_distinct name operations hidden n t =
    let none = objects.no_parts name n t in
    let first = objects.declared_operations (length t.objects) operations n.regions none in
    (items_once (length t.objects) (objects.hidden_items hidden) n.regions first (operations_once (length t.objects) operations n.regions none (record { below = tt; distinct = tt }))).distinct
