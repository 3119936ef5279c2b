-- Places of regions and units that were kept in the tables, as they are filled.
use Rattle.std.specs.Prelude.{ℕ, zero, suc, List, [], ◌∷◌, length, map, slice_index_or, slice_set, Option, Some, None, Vec}
use Rattle.std.specs.Global.{Global}
use Rattle.std.proofs.Common.{◌≡◌, ◌<◌, ◌≤◌, arith, refl, sym, ◌∙◌, ap}
use Rattle.std.proofs.lemmas.List.{length-map, map-set, set_past}
use Rattle.aud_typed.specs.declared.program.Named as named
use Rattle.aud_typed.specs.declared.program.Unit as unit
use Rattle.aud_typed.specs.Tree as tree
use Rattle.aud_typed.specs.declared.program.Entry as entry
use Rattle.aud_typed.specs.declared.program.EntryBody as entry_body
use Rattle.aud_typed.specs.declared.program.BooleanExpression as typed
use Rattle.aud_typed.specs.Ties.View.{plain_boolean, plain_region, plain_unit, entry_with, plain_entry}

pub region_set : (xs : List (Vec named.Named Global)) (k : ℕ) (v : Vec named.Named Global) → map plain_region (slice_set xs k v) ≡ slice_set (map plain_region xs) k (plain_region v)
region_set xs k v = map-set plain_region xs k v

pub region_past : (xs : List (Vec named.Named Global)) (k : ℕ) (ys : List tree.Named) → length xs ≤ k → slice_set (map plain_region xs) k ys ≡ map plain_region xs
region_past xs k ys h = set_past (map plain_region xs) k ys (omega (arith, h, length-map xs plain_region))

pub unit_set : (xs : List unit.Unit) (k : ℕ) (u : unit.Unit) → map plain_unit (slice_set xs k u) ≡ slice_set (map plain_unit xs) k (plain_unit u)
unit_set xs k u = map-set plain_unit xs k u

pub unit_past : (xs : List unit.Unit) (k : ℕ) (u : tree.UnitBody) → length xs ≤ k → slice_set (map plain_unit xs) k u ≡ map plain_unit xs
unit_past xs k u h = set_past (map plain_unit xs) k u (omega (arith, h, length-map xs plain_unit))

-- An entry whose barrier is put in its place.

entry_barred : (x : entry.Entry) (b : typed.BooleanExpression) → plain_entry (record x { body = Some (record { unit = (entry_with [] 0 x.body).unit; barrier = b }) }) ≡ record (plain_entry x) { barrier = plain_boolean b }
entry_barred x b = by x.body
  where
    by : (body : Option entry_body.EntryBody) → entry_with x.name x.formals (Some (record { unit = (entry_with [] 0 body).unit; barrier = b })) ≡ record (entry_with x.name x.formals body) { barrier = plain_boolean b }
    by None = refl
    by (Some y) = refl

entry_at_number : (xs : List entry.Entry) (k : ℕ) (x : entry.Entry) (d : tree.EntryBody) → k < length xs → x ≡ slice_index_or xs k x → slice_index_or (map plain_entry xs) k d ≡ plain_entry x
entry_at_number [] k x d lt h = absurd (omega (arith, lt))
entry_at_number (y ∷ ys) zero x d lt h = ap plain_entry (sym h)
entry_at_number (y ∷ ys) (suc k) x d lt h = entry_at_number ys k x d (omega (arith, lt)) h

entry_set : (xs : List entry.Entry) (k : ℕ) (x : entry.Entry) → map plain_entry (slice_set xs k x) ≡ slice_set (map plain_entry xs) k (plain_entry x)
entry_set xs k x = map-set plain_entry xs k x

pub entry_put : (xs : List entry.Entry) (k : ℕ) (x : entry.Entry) (b : typed.BooleanExpression) → k < length xs → x ≡ slice_index_or xs k x
    → map plain_entry (slice_set xs k (record x { body = Some (record { unit = (entry_with [] 0 x.body).unit; barrier = b }) })) ≡ slice_set (map plain_entry xs) k (record (slice_index_or (map plain_entry xs) k (tree.task_entry [] 0)) { barrier = plain_boolean b })
entry_put xs k x b lt h =
    entry_set xs k (record x { body = Some (record { unit = (entry_with [] 0 x.body).unit; barrier = b }) })
    ∙ ap (slice_set (map plain_entry xs) k) (entry_barred x b ∙ ap (λ (e : tree.EntryBody). record e { barrier = plain_boolean b }) (sym (entry_at_number xs k x (tree.task_entry [] 0) lt h)))

pub entry_past : (xs : List entry.Entry) (k : ℕ) (y : tree.EntryBody) → length xs ≤ k → slice_set (map plain_entry xs) k y ≡ map plain_entry xs
entry_past xs k y h = set_past (map plain_entry xs) k y (omega (arith, h, length-map xs plain_entry))
