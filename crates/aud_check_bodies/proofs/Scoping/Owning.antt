-- Each entry stands once in the tables, with one type of tasks or one object, behind each construct.
use Rattle.std.specs.List.{AllByRecursion}
use Rattle.std.specs.Prelude.{nat_eq, ◌||◌, if◌then◌else◌}
use Rattle.std.proofs.Common.{◌≡◌, inl, inr, ◌+◌, ◌<◌, ◌≤◌, ℕ, zero, suc, Bool, true, false, Option, Some, None, List, [], ◌∷◌, ◌++◌, length, slice_index_or, map, append_assoc, append-nil, arith, refl, sym, ◌∙◌, ap, subst}
use Rattle.std.proofs.lemmas.List.{length_push, length-map, length-set, get_or_append_left, get_or_push}
use Rattle.aud_text.specs.declared.place.Pos.{Pos}
use Rattle.aud_syntax.specs.declared.tree.Ident.{Ident}
use Rattle.aud_syntax.specs.Plain as plain
use Rattle.aud_typed.specs.Tree as tree
use Rattle.aud_typed.specs.Why.Scoped.{AreDistinct, stands, no_entry_plan, IsTaskEntry, IsObjectEntry, entries_of_tasks, entries_of_objects, EntriesOwned}
use Rattle.aud_names.specs.declared.awaited.Awaited.{Awaited}
use Rattle.aud_names.specs.declared.awaited.AwaitedObject.{AwaitedObject}
use Rattle.aud_names.specs.declared.awaited.AwaitedPart.{AwaitedPart}
use Rattle.aud_names.specs.declared.entries.EntryName.{EntryName}
use Rattle.aud_names.specs.declared.names.NamedParameter.{NamedParameter}
use Rattle.aud_names.specs.declared.parts.PartKind.{PartKind}
use Rattle.aud_names.specs.declared.parts.PartKind.TheVariants as part
use Rattle.aud_names.specs.Objects.{awaited_parts}
use Rattle.aud_names.specs.Names as names
use Rattle.aud_names.specs.Names.{Region, Place, main_place}
use Rattle.aud_check_bodies.specs.Regions.{shown_names}
use Rattle.aud_check_bodies.specs.Tables.{Tables, Outcome, no_body, region_kept, region_named, with_region, unit_kept, with_unit, task_kept, protected_entry, with_barrier, object_kept}
use Rattle.aud_check_bodies.specs.Accepts as accepts
use Rattle.aud_check_bodies.specs.Declarations as d
use Rattle.aud_check_bodies.specs.Entries as e
use Rattle.aud_check_bodies.specs.Formals.{body_formals}
use Rattle.aud_check_bodies.specs.Objects as objects
use Rattle.aud_check_bodies.specs.Operations as operations
use Rattle.aud_check_bodies.specs.Operations.{Head, of_entry, of_procedure, of_function, BodyPlaces}
use Rattle.aud_check_bodies.specs.Tasks as tasks
use Rattle.aud_check_bodies.specs.Regions as regions
use Rattle.aud_check_bodies.specs.Programs as c
use Rattle.aud_check_bodies.specs.Programs.{main_tables}
use Rattle.aud_check_bodies.specs.Statements as s
use Rattle.aud_check_bodies.specs.Statements.{Around, nothing_around, task_around}
use Rattle.aud_check_bodies.proofs.Scoping.Tables.{barrier_grows}
use Rattle.aud_check_bodies.proofs.Scoping.ObjectTables.{Below, distinct_last}
use Rattle.aud_check_bodies.proofs.Scoping.Alike.{nat_eq_self}
use Rattle.aud_check_bodies.proofs.Scoping.Units.{is_before}

all_mapped : (P Q : ℕ → Type 0) (xs : List ℕ) → ((n : ℕ) → P n → Q n) → AllByRecursion P xs → AllByRecursion Q xs
all_mapped P Q [] f h = tt
all_mapped P Q (x ∷ xs) f h = (f x h.0, all_mapped P Q xs f h.1)

all_last : (P : ℕ → Type 0) (xs : List ℕ) (x : ℕ) → AllByRecursion P xs → P x → AllByRecursion P (xs ++ x ∷ [])
all_last P [] x h i = (i, tt)
all_last P (y ∷ ys) x h i = (h.0, all_last P ys x h.1 i)

stands_more : (n : ℕ) (xs ys : List ℕ) → stands n xs ≡ true → stands n (xs ++ ys) ≡ true
stands_more n [] ys h = cc
stands_more n (x ∷ xs) ys h = by (nat_eq n x) h (λ q. stands_more n xs ys q)
  where
    by : (b : Bool) → (b || stands n xs) ≡ true → (stands n xs ≡ true → stands n (xs ++ ys) ≡ true) → (b || stands n (xs ++ ys)) ≡ true
    by true q f = refl
    by false q f = f q

stands_last : (n : ℕ) (xs : List ℕ) → stands n (xs ++ n ∷ []) ≡ true
stands_last n [] = ap (λ b. b || false) (nat_eq_self n)
stands_last n (x ∷ xs) = by (nat_eq n x) (stands_last n xs)
  where
    by : (b : Bool) → stands n (xs ++ n ∷ []) ≡ true → (b || stands n (xs ++ n ∷ [])) ≡ true
    by true h = refl
    by false h = h

or_left : (a b c : Bool) → (a ≡ true → b ≡ true) → (a || c) ≡ true → (b || c) ≡ true
or_left true b c f h = ap (λ z. z || c) (f refl)
or_left false true c f h = refl
or_left false false c f h = h

or_right : (a b c : Bool) → (b ≡ true → c ≡ true) → (a || b) ≡ true → (a || c) ≡ true
or_right true b c f h = refl
or_right false b c f h = f h

or_true : (a : Bool) → (a || true) ≡ true
or_true true = refl
or_true false = refl

-- Entries in the tables: those of tasks have no body, and those of objects one of so many units.

abbrev body_of : List tree.EntryBody → ℕ → ℕ
body_of es n = (slice_index_or es n (tree.task_entry [] 0)).unit

abbrev OfTask : List tree.EntryBody → ℕ → Type 0
OfTask es n = (n < length es) × (body_of es n ≡ 0)

abbrev OfObject : List tree.EntryBody → ℕ → ℕ → Type 0
OfObject es units n = (n < length es) × (1 ≤ body_of es n) × (body_of es n < units)

record OwnedIn (ts os : List ℕ) (es : List tree.EntryBody) (units : ℕ) : Type 0 where
  pub tasks : AllByRecursion (OfTask es) ts
  pub objects : AllByRecursion (OfObject es units) os
  pub tasks_once : AreDistinct ts
  pub objects_once : AreDistinct os
  pub each : (n : ℕ) → n < length es → (stands n ts || stands n os) ≡ true
  pub all : length ts + length os ≡ length es
  pub main : 1 ≤ units

-- more units
more_units : (ts os : List ℕ) (es : List tree.EntryBody) (units more : ℕ) → units ≤ more → OwnedIn ts os es units → OwnedIn ts os es more
more_units ts os es units more le h = record {
  tasks = h.tasks;
  objects = all_mapped (OfObject es units) (OfObject es more) os (λ n i. (i.0, i.1, omega (arith, i.2, le))) h.objects;
  tasks_once = h.tasks_once;
  objects_once = h.objects_once;
  each = h.each;
  all = h.all;
  main = omega (arith, le, h.main);
}

-- with other barriers
barred_alike : (ts os : List ℕ) (es fs : List tree.EntryBody) (units : ℕ) → length fs ≡ length es → ((n : ℕ) → n < length es → body_of fs n ≡ body_of es n) → OwnedIn ts os es units → OwnedIn ts os fs units
barred_alike ts os es fs units long same h = record {
  tasks = all_mapped (OfTask es) (OfTask fs) ts (λ n i. (omega (arith, long, i.0), same n i.0 ∙ i.1)) h.tasks;
  objects = all_mapped (OfObject es units) (OfObject fs units) os (λ n i. (omega (arith, long, i.0), omega (arith, same n i.0, i.1), omega (arith, same n i.0, i.2))) h.objects;
  tasks_once = h.tasks_once;
  objects_once = h.objects_once;
  each = λ n lt. h.each n (omega (arith, lt, long));
  all = h.all ∙ sym long;
  main = h.main;
}

module _ (es : List tree.EntryBody) (one : tree.EntryBody) where
  abbrev longer : List tree.EntryBody
  longer = es ++ one ∷ []

  same_body : (n : ℕ) → n < length es → body_of longer n ≡ body_of es n
  same_body n lt = ap (λ (x : tree.EntryBody). x.unit) (get_or_append_left es (one ∷ []) (tree.task_entry [] 0) n lt)

  new_body : body_of longer (length es) ≡ one.unit
  new_body = ap (λ (x : tree.EntryBody). x.unit) (get_or_push es one (tree.task_entry [] 0) (length es) refl)

  tasks_stay : (n : ℕ) → OfTask es n → OfTask longer n
  tasks_stay n i = (omega (arith, i.0, length_push es one), same_body n i.0 ∙ i.1)

  objects_stay : (units : ℕ) (n : ℕ) → OfObject es units n → OfObject longer units n
  objects_stay units n i = (omega (arith, i.0, length_push es one), omega (arith, same_body n i.0, i.1), omega (arith, same_body n i.0, i.2))

below_tasks : (es : List tree.EntryBody) (ns : List ℕ) → AllByRecursion (OfTask es) ns → Below (length es) ns
below_tasks es ns h = all_mapped (OfTask es) (λ n. n < length es) ns (λ n i. i.0) h

below_objects : (es : List tree.EntryBody) (units : ℕ) (ns : List ℕ) → AllByRecursion (OfObject es units) ns → Below (length es) ns
below_objects es units ns h = all_mapped (OfObject es units) (λ n. n < length es) ns (λ n i. i.0) h

-- one entry more, of a task
task_entry_owned : (ts os : List ℕ) (es : List tree.EntryBody) (units : ℕ) (name : List ℕ) (formals : ℕ) → OwnedIn ts os es units → OwnedIn (ts ++ length es ∷ []) os (es ++ tree.task_entry name formals ∷ []) units
task_entry_owned ts os es units name formals h =
    let one : tree.EntryBody = tree.task_entry name formals in
    let next : List tree.EntryBody = es ++ one ∷ [] in
    let long : length next ≡ length es + 1 = length_push es one in
    let new : OfTask next (length es) = (omega (arith, long), new_body es one) in
    record {
      tasks = all_last (OfTask next) ts (length es) (all_mapped (OfTask es) (OfTask next) ts (tasks_stay es one) h.tasks) new;
      objects = all_mapped (OfObject es units) (OfObject next units) os (objects_stay es one units) h.objects;
      tasks_once = distinct_last ts (length es) (below_tasks es ts h.tasks) h.tasks_once;
      objects_once = h.objects_once;
      each = λ n lt. elim (is_before n (length es)) [
        | inl within ↦ or_left (stands n ts) (stands n (ts ++ length es ∷ [])) (stands n os) (stands_more n ts (length es ∷ [])) (h.each n within)
        | inr past ↦
            let same : length es ≡ n = omega (arith, lt, past, long) in
            subst (λ k. (stands k (ts ++ length es ∷ []) || stands k os) ≡ true) same (ap (λ z. z || stands (length es) os) (stands_last (length es) ts))
      ];
      all = omega (arith, h.all, long, length_push ts (length es));
      main = h.main;
    }

-- of an object, with the next unit
object_entry_owned : (ts os : List ℕ) (es : List tree.EntryBody) (units more : ℕ) (name : List ℕ) (formals : ℕ) → more ≡ units + 1 → OwnedIn ts os es units → OwnedIn ts (os ++ length es ∷ []) (es ++ protected_entry name formals units ∷ []) more
object_entry_owned ts os es units more name formals p h =
    let one : tree.EntryBody = protected_entry name formals units in
    let next : List tree.EntryBody = es ++ one ∷ [] in
    let long : length next ≡ length es + 1 = length_push es one in
    let is : body_of next (length es) ≡ units = new_body es one in
    let new : OfObject next more (length es) = (omega (arith, long), omega (arith, is, h.main), omega (arith, is, p)) in
    record {
      tasks = all_mapped (OfTask es) (OfTask next) ts (tasks_stay es one) h.tasks;
      objects = all_last (OfObject next more) os (length es) (all_mapped (OfObject es units) (OfObject next more) os (λ n i. let j = objects_stay es one units n i in (j.0, j.1, omega (arith, j.2, p))) h.objects) new;
      tasks_once = h.tasks_once;
      objects_once = distinct_last os (length es) (below_objects es units os h.objects) h.objects_once;
      each = λ n lt. elim (is_before n (length es)) [
        | inl within ↦ or_right (stands n ts) (stands n os) (stands n (os ++ length es ∷ [])) (stands_more n os (length es ∷ [])) (h.each n within)
        | inr past ↦
            let same : length es ≡ n = omega (arith, lt, past, long) in
            subst (λ k. (stands k ts || stands k (os ++ length es ∷ [])) ≡ true) same (ap (λ z. stands (length es) ts || z) (stands_last (length es) os) ∙ or_true (stands (length es) ts))
      ];
      all = omega (arith, h.all, long, length_push os (length es));
      main = omega (arith, p);
    }

-- Of tables: besides those that stand there, these entries of a task or object whose declaration lasts.

abbrev OwnedWith : List ℕ → List ℕ → Tables → Type 0
OwnedWith ts os t = OwnedIn (entries_of_tasks t.tasks ++ ts) (entries_of_objects t.objects ++ os) t.entries (length t.units)

abbrev Owned : Tables → Type 0
Owned t = OwnedWith [] [] t

tasks_with : (ts : List tree.TaskPlan) (x : tree.TaskPlan) → entries_of_tasks (ts ++ x ∷ []) ≡ entries_of_tasks ts ++ x.entries
tasks_with [] x = append-nil x.entries
tasks_with (t ∷ ts) x = ap (λ l. t.entries ++ l) (tasks_with ts x) ∙ sym (append_assoc t.entries (entries_of_tasks ts) x.entries)

objects_with : (os : List tree.ObjectPlan) (x : tree.ObjectPlan) → entries_of_objects (os ++ x ∷ []) ≡ entries_of_objects os ++ x.entries
objects_with [] x = append-nil x.entries
objects_with (o ∷ os) x = ap (λ l. o.entries ++ l) (objects_with os x) ∙ sym (append_assoc o.entries (entries_of_objects os) x.entries)

-- one more at the end of what is added
added_last : (xs ys : List ℕ) (n : ℕ) → (xs ++ ys) ++ n ∷ [] ≡ xs ++ (ys ++ n ∷ [])
added_last xs ys n = append_assoc xs ys (n ∷ [])

unit_more : (ts os : List ℕ) (profile : List NamedParameter) (t : Tables) → OwnedWith ts os t → OwnedWith ts os (unit_kept profile t)
unit_more ts os profile t h = more_units (entries_of_tasks t.tasks ++ ts) (entries_of_objects t.objects ++ os) t.entries (length t.units) (length (t.units ++ no_body ∷ [])) (omega (arith, length_push t.units no_body)) h

unit_put : (number : ℕ) (unit : tree.UnitBody) (t : Tables) → Owned t → Owned (with_unit number unit t)
unit_put number unit t h = more_units (entries_of_tasks t.tasks ++ []) (entries_of_objects t.objects ++ []) t.entries (length t.units) (length (with_unit number unit t).units) (omega (arith, length-set t.units number unit)) h

task_more : (numbers : List ℕ) (t : Tables) → OwnedWith numbers [] t → Owned (task_kept numbers t)
task_more numbers t h =
    let task : tree.TaskPlan = record { unit = length t.units; entries = numbers } in
    let same : entries_of_tasks (t.tasks ++ task ∷ []) ++ [] ≡ entries_of_tasks t.tasks ++ numbers = append-nil (entries_of_tasks (t.tasks ++ task ∷ [])) ∙ tasks_with t.tasks task in
    let more = more_units (entries_of_tasks t.tasks ++ numbers) (entries_of_objects t.objects ++ []) t.entries (length t.units) (length (t.units ++ no_body ∷ [])) (omega (arith, length_push t.units no_body)) h in
    subst (λ l. OwnedIn l (entries_of_objects t.objects ++ []) t.entries (length (t.units ++ no_body ∷ []))) (sym same) more

object_more : (name : List ℕ) (level : ℕ) (components : List tree.Named) (numbers : List ℕ) (t : Tables) → OwnedWith [] numbers t → Owned (object_kept name level components numbers t)
object_more name level components numbers t h =
    let object : tree.ObjectPlan = record { name = name; level = level; components = components; entries = numbers } in
    let same : entries_of_objects (t.objects ++ object ∷ []) ++ [] ≡ entries_of_objects t.objects ++ numbers = append-nil (entries_of_objects (t.objects ++ object ∷ [])) ∙ objects_with t.objects object in
    subst (λ l. OwnedIn (entries_of_tasks t.tasks ++ []) l t.entries (length t.units)) (sym same) h

barrier_put : (number : ℕ) (b : tree.BooleanExpression) (t : Tables) → Owned t → Owned (with_barrier number b t)
barrier_put number b t h =
    let u : Tables = with_barrier number b t in
    let grown = barrier_grows number b t in
    barred_alike (entries_of_tasks t.tasks ++ []) (entries_of_objects t.objects ++ []) t.entries u.entries (length t.units) (length-set t.entries number (record (slice_index_or t.entries number (tree.task_entry [] 0)) { barrier = b })) (λ n lt. ap (λ (x : tree.EntryPlan). x.unit) (grown.planned n lt)) h

-- Entries of a task.

numbers_last : (xs : List EntryName) (x : EntryName) → e.entry_numbers (xs ++ x ∷ []) ≡ e.entry_numbers xs ++ x.number ∷ []
numbers_last [] x = refl
numbers_last (y ∷ ys) x = ap (λ l. y.number ∷ l) (numbers_last ys x)

abbrev EntriesAre : e.Entries → Type 0
EntriesAre x = OwnedWith (e.entry_numbers x.names) [] x.tables

entry_added : (number : ℕ) (name : List ℕ) (profile : List NamedParameter) (x : e.Entries) → EntriesAre x → EntriesAre (e.entry_added number name profile x)
entry_added number name profile x h =
    let t : Tables = x.tables in
    let next : EntryName = record { task_type = number; name = name; number = length t.entries } in
    let new = task_entry_owned (entries_of_tasks t.tasks ++ e.entry_numbers x.names) (entries_of_objects t.objects ++ []) t.entries (length t.units) name (length profile) h in
    let same : (entries_of_tasks t.tasks ++ e.entry_numbers x.names) ++ length t.entries ∷ [] ≡ entries_of_tasks t.tasks ++ e.entry_numbers (x.names ++ next ∷ []) =
    added_last (entries_of_tasks t.tasks) (e.entry_numbers x.names) (length t.entries) ∙ ap (λ l. entries_of_tasks t.tasks ++ l) (sym (numbers_last x.names next)) in
    subst (λ l. OwnedIn l (entries_of_objects t.objects ++ []) (t.entries ++ tree.task_entry name (length profile) ∷ []) (length t.units)) same new

one_entry : (number : ℕ) (y : plain.EntryDeclaration) (outer : List Region) (x : e.Entries) → EntriesAre x → EntriesAre (e.one_entry number y outer x)
one_entry number y outer x h = by (names.is_declared y.name.name x.own.symbols)
  where
    by : (twice : Bool) → EntriesAre (if twice then x else e.entry_added number y.name.name (e.entry_formals y x.own outer).profile x)
    by true = h
    by false = entry_added number y.name.name (e.entry_formals y x.own outer).profile x h

entries_added : (number : ℕ) (ys : List plain.EntryDeclaration) (outer : List Region) (x : e.Entries) → EntriesAre x → EntriesAre (e.declared_entries number ys outer x)
entries_added number [] outer x h = h
entries_added number (y ∷ ys) outer x h = entries_added number ys outer (e.one_entry number y outer x) (one_entry number y outer x h)

-- Entries of an object.

abbrev PartsAre : objects.ObjectDeclared → Type 0
PartsAre o = OwnedWith [] o.entries o.tables

operation_added : (number : ℕ) (is_private : Bool) (x : plain.Operation) (outer : List Region) (o : objects.ObjectDeclared) → PartsAre o → PartsAre (objects.one_operation number is_private x outer o)
operation_added number is_private (plain.entry_operation y) outer o h =
    let t : Tables = o.tables in
    let formals = length (objects.operation_formals y.formals o.own (objects.further_out o outer)).profile in
    let new = object_entry_owned (entries_of_tasks t.tasks ++ []) (entries_of_objects t.objects ++ o.entries) t.entries (length t.units) (length (t.units ++ no_body ∷ [])) y.name.name formals (length_push t.units no_body) h in
    subst (λ l. OwnedIn (entries_of_tasks t.tasks ++ []) l (t.entries ++ protected_entry y.name.name formals (length t.units) ∷ []) (length (t.units ++ no_body ∷ []))) (added_last (entries_of_objects t.objects) o.entries (length t.entries)) new
operation_added number is_private (plain.procedure_operation i fs) outer o h = unit_more [] o.entries (objects.operation_formals fs o.own (objects.further_out o outer)).profile o.tables h
operation_added number is_private (plain.function_operation i fs mark) outer o h = unit_more [] o.entries (objects.function_signature fs mark o.own (objects.further_out o outer)).0 o.tables h

operations_added : (number : ℕ) (xs : List plain.Operation) (outer : List Region) (o : objects.ObjectDeclared) → PartsAre o → PartsAre (objects.declared_operations number xs outer o)
operations_added number [] outer o h = h
operations_added number (x ∷ xs) outer o h = operations_added number xs outer (objects.one_operation number false x outer o) (operation_added number false x outer o h)

items_added : (number : ℕ) (xs : List plain.PrivateItem) (outer : List Region) (o : objects.ObjectDeclared) → PartsAre o → PartsAre (objects.declared_items number xs outer o)
items_added number [] outer o h = h
items_added number (plain.private_operation x ∷ xs) outer o h = items_added number xs outer (objects.one_operation number true x outer o) (operation_added number true x outer o h)
items_added number (plain.components first others mark initial ∷ xs) outer o h = items_added number xs outer (objects.declared_components number (first ∷ others) mark initial outer o) h

-- What else changes the tables.

loop_owned : (i : plain.Iteration) (n : Place) (t : Tables) → Owned t → Owned (s.loop_tables i n t)
loop_owned plain.forever n t h = h
loop_owned (plain.while c) n t h = h
loop_owned (plain.for i backward low high) n t h = h

none_awaited : (found : Option Awaited) (t : Tables) → Owned t → Owned (tasks.body_tables found t)
none_awaited None t h = task_more [] t h
none_awaited (Some a) t h = h

object_owned : (found : Option AwaitedObject) (i : Ident) (t : Tables) → Owned t → Owned (objects.object_tables found i t)
object_owned None i t h = object_more i.name 0 [] [] t h
object_owned (Some o) i t h = h

kept_owned : (found : Option PartKind) (t : Tables) → Owned t → Owned (operations.operation_kept found t)
kept_owned None t h = unit_more [] [] [] t h
kept_owned (Some k) t h = h

barred_owned : (found : Option PartKind) (b : Option tree.BooleanExpression) (t : Tables) → Owned t → Owned (operations.barrier_kept found b t)
barred_owned (Some (part.Entry number unit)) (Some b) t h = barrier_put number b t h
barred_owned (Some (part.Entry number unit)) None t h = h
barred_owned (Some (part.Operation unit subprogram)) b t h = h
barred_owned (Some (part.Component x)) b t h = h
barred_owned None b t h = h

entered_owned : (of_task : Bool) (ds : plain.Declarations) (b : plain.Body) (around : Around) (n : Place) (t : Tables) → ((m : Place) (u : Tables) → Owned u → Owned (s.checked_declarations ds m u).tables) → ((m : Place) (u : Tables) → Owned u → Owned (s.checked_body b around m u).tables) → Owned t
    → Owned (s.entered_body of_task ds b around n t).tables
entered_owned of_task ds b around n t f g h =
    let o : Outcome d.Declared = s.checked_declarations ds n (region_kept t) in
    g o.made.place (region_named (length t.regions) (regions.shown_names (names.innermost o.made.place).symbols) o.tables) (f n (region_kept t) h)

operation_of_owned : (head : Head) (at : Pos) (i : Ident) (fs : List plain.Formal) (ds : plain.Declarations) (b : plain.Body) (o : BodyPlaces) (awaited : List AwaitedPart) (t : Tables)
    → ((m : Place) (u : Tables) → Owned u → Owned (s.checked_declarations ds m u).tables) → ((within : Around) (m : Place) (u : Tables) → Owned u → Owned (s.checked_body b within m u).tables) → Owned t → Owned (s.checked_operation_of head at i fs ds b o awaited t).tables
operation_of_owned head at i fs ds b o awaited t f g h =
    let here : Place = operations.operation_place head o in
    let region = (operations.shape_of head fs here).region in
    let found = operations.part_awaited head i o awaited in
    let inner : Place = names.place_in region here.regions in
    let entry : Tables = operations.operation_tables head found region here t in
    let around : Around = s.operation_around head fs o.object here in
    let unit = s.checked_operation_unit head at i fs ds b o.object here inner entry in
    unit_put (operations.operation_unit found t) unit.made unit.tables (entered_owned false ds b around inner entry f (g around) (barred_owned found (operations.barrier_of head region here) (operations.operation_kept found t) (kept_owned found t h)))

mutual
  statement_owned : (x : plain.Statement) (around : Around) (n : Place) (t : Tables) → Owned t → Owned (s.checked_statement x around n t).tables
  statement_owned (plain.null at) around n t h = h
  statement_owned (plain.assign x value) around n t h = h
  statement_owned (plain.call x) around n t h = h
  statement_owned (plain.if_then at c ss arms otherwise) around n t h = others_owned otherwise around n _ (arms_owned arms around n _ (statements_owned ss around n t h))
  statement_owned (plain.loop label at i ss last semicolon) around n t h = statements_owned ss (s.labelled true label around) (s.loop_place i n) (s.loop_tables i n t) (loop_owned i n t h)
  statement_owned (plain.exit at name c) around n t h = h
  statement_owned (plain.block label at declare ds b) around n t h = entered_owned false ds b (s.labelled false label around) (names.in_frame n) t (λ m u k. declarations_owned ds m u k) (λ m u k. body_owned b (s.labelled false label around) m u k) h
  statement_owned (plain.return at x) around n t h = h
  statement_owned (plain.raise at name) around n t h = h
  statement_owned (plain.accepting x) around n t h = accept_owned x around n t h
  statement_owned (plain.delaying x) around n t h = h
  statement_owned (plain.select_accept at guard x xs otherwise) around n t h = others_owned otherwise around n _ (alternatives_owned xs around n _ (alternative_owned x guard around n t h))
  statement_owned (plain.select_call at x behind otherwise) around n t h = otherwise_owned otherwise around n _ (others_owned behind around n t h)
  statement_owned (plain.abort at x xs) around n t h = h
  statement_owned (plain.requeue at x with_abort) around n t h = h

  accept_owned : (x : plain.Accept) (around : Around) (n : Place) (t : Tables) → Owned t → Owned (s.checked_accept x around n t).tables
  accept_owned (plain.accept at i fs x) around n t h = doing_owned x i (accepts.accept_formals fs n).region (s.in_accept (accepts.accepted i n) (accepts.accept_formals fs n).profile around) n t h

  doing_owned : (x : plain.Doing) (i : Ident) (r : Region) (around : Around) (n : Place) (t : Tables) → Owned t → Owned (s.checked_doing x i r around n t).tables
  doing_owned plain.without_do i r around n t h = h
  doing_owned (plain.with_do b) i r around n t h = body_owned b around (names.place_in r n.regions) (with_region (regions.shown_names r.symbols) t) h

  alternative_owned : (x : plain.Alternative) (guard : plain.MaybeExpression) (around : Around) (n : Place) (t : Tables) → Owned t → Owned (s.checked_alternative x guard around n t).tables
  alternative_owned (plain.accept_alternative x ss) guard around n t h = others_owned ss around n _ (accept_owned x around n t h)
  alternative_owned (plain.delay_alternative x ss) guard around n t h = others_owned ss around n t h
  alternative_owned plain.terminate_alternative guard around n t h = h

  alternatives_owned : (x : plain.Alternatives) (around : Around) (n : Place) (t : Tables) → Owned t → Owned (s.checked_alternatives x around n t).tables
  alternatives_owned plain.no_alternatives around n t h = h
  alternatives_owned (plain.more_alternatives guard x xs) around n t h = alternatives_owned xs around n _ (alternative_owned x guard around n t h)

  otherwise_owned : (x : plain.Otherwise) (around : Around) (n : Place) (t : Tables) → Owned t → Owned (s.checked_otherwise x around n t).tables
  otherwise_owned (plain.or_delay x ss) around n t h = others_owned ss around n t h
  otherwise_owned (plain.or_else ss) around n t h = statements_owned ss around n t h

  arms_owned : (x : plain.Arms) (around : Around) (n : Place) (t : Tables) → Owned t → Owned (s.checked_arms x around n t).tables
  arms_owned plain.no_arms around n t h = h
  arms_owned (plain.more_arms at c ss arms) around n t h = arms_owned arms around n _ (statements_owned ss around n t h)

  statements_owned : (x : plain.Statements) (around : Around) (n : Place) (t : Tables) → Owned t → Owned (s.checked_statements x around n t).tables
  statements_owned (plain.in_order x xs) around n t h = others_owned xs around n _ (statement_owned x around n t h)

  others_owned : (x : plain.MoreStatements) (around : Around) (n : Place) (t : Tables) → Owned t → Owned (s.checked_others x around n t).tables
  others_owned plain.no_statements around n t h = h
  others_owned (plain.more_statements x xs) around n t h = others_owned xs around n _ (statement_owned x around n t h)

  body_owned : (x : plain.Body) (around : Around) (n : Place) (t : Tables) → Owned t → Owned (s.checked_body x around n t).tables
  body_owned (plain.body begin ss hs end name semicolon) around n t h = handlers_owned hs (s.handling around) n _ (statements_owned ss around n t h)

  handlers_owned : (x : plain.Handlers) (around : Around) (n : Place) (t : Tables) → Owned t → Owned (s.checked_handlers x around n t).tables
  handlers_owned plain.no_handlers around n t h = h
  handlers_owned (plain.more_handlers choices ss hs) around n t h = handlers_owned hs around n _ (statements_owned ss around n t h)

  declarations_owned : (x : plain.Declarations) (n : Place) (t : Tables) → Owned t → Owned (s.checked_declarations x n t).tables
  declarations_owned plain.no_declarations n t h = h
  declarations_owned (plain.more_declarations x xs) n t h = let o = s.checked_declaration x n t in declarations_owned xs o.made.place o.tables (declaration_owned x n t h)

  declaration_owned : (x : plain.Declaration) (n : Place) (t : Tables) → Owned t → Owned (s.checked_declaration x n t).tables
  declaration_owned (plain.object first others mark initial) n t h = h
  declaration_owned (plain.constant first others mark value) n t h = h
  declaration_owned (plain.array first others low high mark) n t h = h
  declaration_owned (plain.exception first others) n t h = h
  declaration_owned (plain.procedure at i fs ds b) n t h =
      let here : Place = s.procedure_place i n t in
      let formals = body_formals fs n in
      let inner : Place = names.place_in formals.region here.regions in
      let kept : Tables = unit_kept formals.profile t in
      let unit = s.checked_unit false at i.name ds b inner kept in
      unit_put (length t.units) unit.made unit.tables (entered_owned false ds b nothing_around inner kept (λ m u k. declarations_owned ds m u k) (λ m u k. body_owned b nothing_around m u k) (unit_more [] [] formals.profile t h))
  declaration_owned (plain.task at is_type i x) n t h =
      let here : Place = tasks.place_named is_type i n t in
      let es = tasks.task_entries x here t in
      task_more (e.entry_numbers es.names) es.tables (entries_added (length t.tasks) (e.entries_of x) here.regions (e.no_entries (names.body_frame here) t) h)
  declaration_owned (plain.task_body at i ds b) n t h =
      let found = tasks.task_awaited i n in
      let inner : Place = names.task_place i.name (tasks.body_task found t) (tasks.place_behind i n) in
      let own : Tables = tasks.body_tables found t in
      let unit = s.checked_unit true at i.name ds b inner own in
      unit_put (tasks.body_unit found t) unit.made unit.tables (entered_owned true ds b task_around inner own (λ m u k. declarations_owned ds m u k) (λ m u k. body_owned b task_around m u k) (none_awaited found t h))
  declaration_owned (plain.protected at i operations hidden last) n t h =
      let number = length t.objects in
      let first = objects.declared_operations number operations n.regions (objects.no_parts i.name n t) in
      let x = objects.parts_declared i.name operations hidden n t in
      object_more i.name x.own.level (shown_names x.own.symbols) x.entries x.tables (items_added number (objects.hidden_items hidden) n.regions first (operations_added number operations n.regions (objects.no_parts i.name n t) h))
  declaration_owned (plain.protected_body at i inner last) n t h =
      let found = objects.object_awaited i n in
      let here : Place = objects.object_behind i n in
      let object = objects.body_object found t in
      bodies_owned inner (operations.body_places i.name object here) (awaited_parts object (names.innermost here).parts) (objects.object_tables found i t) (object_owned found i t h)

  bodies_owned : (x : plain.OperationBodies) (o : BodyPlaces) (awaited : List AwaitedPart) (t : Tables) → Owned t → Owned (s.checked_bodies x o awaited t).tables
  bodies_owned plain.no_bodies o awaited t h = h
  bodies_owned (plain.more_bodies x xs) o awaited t h = let first = s.checked_operation x o awaited t in bodies_owned xs o first.made first.tables (operation_owned x o awaited t h)

  operation_owned : (x : plain.OperationBody) (o : BodyPlaces) (awaited : List AwaitedPart) (t : Tables) → Owned t → Owned (s.checked_operation x o awaited t).tables
  operation_owned (plain.entry_body at i fs barrier ds b) o awaited t h = operation_of_owned (of_entry barrier) at i fs ds b o awaited t (λ m u k. declarations_owned ds m u k) (λ within m u k. body_owned b within m u k) h
  operation_owned (plain.procedure_body at i fs ds b) o awaited t h = operation_of_owned of_procedure at i fs ds b o awaited t (λ m u k. declarations_owned ds m u k) (λ within m u k. body_owned b within m u k) h
  operation_owned (plain.function_body at i fs mark ds b) o awaited t h = operation_of_owned (of_function mark) at i fs ds b o awaited t (λ m u k. declarations_owned ds m u k) (λ within m u k. body_owned b within m u k) h

-- Of programs.

planned : (es : List tree.EntryBody) (n : ℕ) → (slice_index_or (map tree.plan_of_entry es) n no_entry_plan).unit ≡ body_of es n
planned [] n = refl
planned (x ∷ es) zero = refl
planned (x ∷ es) (suc n) = planned es n

program_owned : (name : List ℕ) (t : Tables) → Owned t → EntriesOwned (c.program_with name t).plan
program_owned name t h =
    let plan = (c.program_with name t).plan in
    let ts = entries_of_tasks t.tasks in
    let os = entries_of_objects t.objects in
    let long = length-map t.entries tree.plan_of_entry in
    let bodies = length-map t.units tree.unit_plan in
    let own : OwnedIn ts os t.entries (length t.units) = subst (λ l. OwnedIn l os t.entries (length t.units)) (append-nil ts) (subst (λ l. OwnedIn (ts ++ []) l t.entries (length t.units)) (append-nil os) h) in
    record {
      tasks = all_mapped (OfTask t.entries) (IsTaskEntry plan) ts (λ n i. (omega (arith, i.0, long), planned t.entries n ∙ i.1)) own.tasks;
      objects = all_mapped (OfObject t.entries (length t.units)) (IsObjectEntry plan) os (λ n i. (omega (arith, i.0, long), omega (arith, planned t.entries n, i.1), omega (arith, planned t.entries n, i.2, bodies))) own.objects;
      tasks_once = own.tasks_once;
      objects_once = own.objects_once;
      each = λ n lt. own.each n (omega (arith, lt, long));
      all = own.all ∙ sym long;
    }

main_owned : Owned main_tables
main_owned = record { tasks = tt; objects = tt; tasks_once = tt; objects_once = tt; each = λ n lt. absurd (omega (arith, lt)); all = refl; main = omega arith }

pub typed_owned : (u : plain.Unit) → EntriesOwned (c.typed u).plan
typed_owned (plain.unit context at name declarations b) =
    let place : Place = main_place name.name in
    let unit = s.checked_unit false at name.name declarations b place main_tables in
    program_owned name.name (with_unit 0 unit.made unit.tables) (unit_put 0 unit.made unit.tables (entered_owned false declarations b nothing_around place main_tables (λ m u k. declarations_owned declarations m u k) (λ m u k. body_owned b nothing_around m u k) main_owned))
