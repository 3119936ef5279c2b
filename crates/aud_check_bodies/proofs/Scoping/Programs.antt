-- The typed program of a unit without faults uses what is elaborated, or there.
use Rattle.std.proofs.Common.{◌≡◌, ◌+◌, ◌<◌, ◌≤◌, ℕ, zero, suc, Bool, false, List, [], ◌∷◌, ◌++◌, length, slice_index_or, map, arith, refl, sym, ap, subst}
use Rattle.std.specs.List.{AllByRecursion}
use Rattle.std.proofs.lemmas.List.{length-map, length-set, get_or-set_same, get_or-set_other}
use Rattle.aud_syntax.specs.Plain as plain
use Rattle.aud_typed.specs.Tree as tree
use Rattle.aud_typed.specs.Tree.{Plan}
use Rattle.aud_typed.specs.Why.Scoped.{Elaborated, Entry, no_entry, no_entry_plan, entry_of, BooleanScoped, BarriersScoped, HasFormals, UnitScoped, UnitsScoped, IsScoped}
use Rattle.aud_names.specs.Names.{Place, main_place}
use Rattle.aud_names.specs.Rules.{program_named, right_name_at_end}
use Rattle.aud_check_bodies.specs.Tables.{Tables, no_body, with_unit}
use Rattle.aud_check_bodies.specs.Statements as s
use Rattle.aud_check_bodies.specs.Statements.{nothing_around, end_name}
use Rattle.aud_check_bodies.specs.Programs as c
use Rattle.aud_check_bodies.specs.Programs.{main_tables}
use Rattle.aud_check_bodies.proofs.Scoping.Names.{IsCallable, when}
use Rattle.aud_check_bodies.proofs.Scoping.Declarations.{InBody, both_none, in_main}
use Rattle.aud_check_bodies.proofs.Scoping.ConstructTables.{entered_grows}
use Rattle.aud_check_bodies.proofs.Scoping.Plans.{InPlan, seen}
use Rattle.aud_check_bodies.proofs.Scoping.Entries.{Ready, in_entered, entered_counted}
use Rattle.aud_check_bodies.proofs.Scoping.Units.{unit_at, IsUnit}
use Rattle.aud_check_bodies.proofs.Scoping.Owning.{typed_owned}
use Rattle.aud_check_bodies.proofs.Scoping.Leaving.{typed_numbers}
use Rattle.aud_check_bodies.proofs.Scoping.AllConstructs.{entered_scoped}

-- each of a list, by its number
units_from : (plan : Plan) (entries : List Entry) (us : List tree.UnitBody) (es : List Entry) → length us ≡ length es
    → ((n : ℕ) → n < length us → UnitScoped plan entries (tree.unit_plan (slice_index_or us n no_body)) (slice_index_or us n no_body).body (slice_index_or es n no_entry))
    → UnitsScoped plan entries (map tree.unit_plan us) (map (λ u. u.body) us) es
units_from plan entries [] [] long h = tt
units_from plan entries [] (e ∷ es) long h = absurd (omega (arith, long))
units_from plan entries (u ∷ us) [] long h = absurd (omega (arith, long))
units_from plan entries (u ∷ us) (e ∷ es) long h = (h 0 (omega arith), units_from plan entries us es (omega (arith, long)) (λ n lt. h (suc n) (omega (arith, lt))))

-- each barrier, by its entry's number
barriers_from : (plan : Plan) (entries : List Entry) (es : List tree.EntryBody)
    → ((n : ℕ) → n < length es → BooleanScoped plan (slice_index_or es n (tree.task_entry [] 0)).barrier (entry_of entries (slice_index_or es n (tree.task_entry [] 0)).unit).outer)
    → BarriersScoped plan entries (map tree.plan_of_entry es) (map (λ e. e.barrier) es)
barriers_from plan entries [] h = tt
barriers_from plan entries (e ∷ es) h = (h 0 (omega arith), barriers_from plan entries es (λ n lt. h (suc n) (omega (arith, lt))))

-- and the formals of its body
formals_from : (entries : List Entry) (es : List tree.EntryBody) → ((n : ℕ) → n < length es → HasFormals entries (tree.plan_of_entry (slice_index_or es n (tree.task_entry [] 0)))) → AllByRecursion (HasFormals entries) (map tree.plan_of_entry es)
formals_from entries [] h = tt
formals_from entries (e ∷ es) h = (h 0 (omega arith), formals_from entries es (λ n lt. h (suc n) (omega (arith, lt))))

-- by their numbers
planned_from : (es : List tree.EntryBody) (n : ℕ) → n < length es → slice_index_or (map tree.plan_of_entry es) n no_entry_plan ≡ tree.plan_of_entry (slice_index_or es n (tree.task_entry [] 0))
planned_from [] n lt = absurd (omega (arith, lt))
planned_from (e ∷ es) zero lt = refl
planned_from (e ∷ es) (suc n) lt = planned_from es n (omega (arith, lt))

pub typed_scoped : (u : plain.Unit) → c.faults u ≡ [] → IsScoped (c.typed u)
typed_scoped (plain.unit context at name declarations b) q =
    let place : Place = main_place name.name in
    let o = s.entered_body false declarations b nothing_around place main_tables in
    let unit = s.checked_unit false at name.name declarations b place main_tables in
    let last : Tables = with_unit 0 unit.made unit.tables in
    let plan = (c.program_with name.name last).plan in
    let rest = in_entered declarations b nothing_around place main_tables [] in
    let entries : List Entry = no_entry ∷ rest in
    let stated = both_none o.faults (right_name_at_end name.name (end_name b) ++ []) (both_none (program_named name.name name.at) unit.faults q).1 in
    let count = entered_counted false declarations b nothing_around place main_tables [] in
    let long = length-set o.tables.units 0 unit.made in
    let in_plan : InPlan plan main_tables o.tables = record { regions = λ n after before. refl; exceptions = omega arith; objects = λ n lt. (lt, refl); entries = λ n lt. (omega (arith, lt, length-map o.tables.entries tree.plan_of_entry), planned_from o.tables.entries n lt); tasks = λ n lt. (lt, refl) } in
    let ready : Ready entries main_tables rest = record { even = refl; even_entries = refl; long = omega arith; each = λ k lt. let next : length main_tables.units + k ≡ suc k = omega arith in ap (entry_of entries) next } in
    let main : (c : Bool) (e : Elaborated) → IsCallable (when c (seen plan entries main_tables)) (e ∷ []) 0 = λ c e. record { declared = omega arith; entered = omega arith; formals = refl; outer = λ _. tt } in
    let inside : (full : Elaborated) → InBody (seen plan entries main_tables) [] full place = λ full. in_main (seen plan entries main_tables) full name.name main in
    let body = entered_scoped plan entries false declarations b nothing_around place main_tables [] inside refl in_plan ready stated.0 in
    let own : IsUnit plan entries unit.made 0 = (refl, body.0) in
    let each : (n : ℕ) → n < length last.units → UnitScoped plan entries (tree.unit_plan (unit_at n last)) (unit_at n last).body (entry_of entries n) = λ n lt. by plan entries o.tables unit.made n (omega (arith, lt, long)) own body.1.1 in
    let barred = body.1.3 (λ n lt. absurd (omega (arith, lt))) in
    record {
      entries = entries;
      main = refl;
      units = units_from plan entries last.units entries (omega (arith, long, count)) each;
      barriers = barriers_from plan entries last.entries (λ n lt. (barred n lt).0);
      formals = formals_from entries last.entries (λ n lt. (barred n lt).1);
      objects = (entered_grows false declarations b nothing_around place main_tables).distinct tt;
      owned = typed_owned (plain.unit context at name declarations b);
      numbers = typed_numbers (plain.unit context at name declarations b) q;
    }
  where
    by : (plan : Plan) (entries : List Entry) (t : Tables) (x : tree.UnitBody) (n : ℕ) → n < length t.units → IsUnit plan entries x 0 → ((k : ℕ) → 1 ≤ k → k < length t.units → IsUnit plan entries (unit_at k t) k) → IsUnit plan entries (unit_at n (with_unit 0 x t)) n
    by plan entries t x zero lt own others = subst (λ z. IsUnit plan entries z 0) (sym (get_or-set_same t.units 0 x no_body lt)) own
    by plan entries t x (suc n) lt own others = subst (λ z. IsUnit plan entries z (suc n)) (sym (get_or-set_other t.units 0 (suc n) x no_body (λ e. omega (arith, e)))) (others (suc n) (omega arith) lt)
