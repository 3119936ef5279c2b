-- Tables only grow: what stands there before a construct stays where it is, whatever that enters.
use Rattle.std.proofs.Common.{◌≡◌, ◌⊎◌, inl, inr, ◌+◌, ◌-◌, ◌<◌, ◌≤◌, ℕ, zero, suc, Option, Some, None, List, [], ◌∷◌, ◌++◌, length, slice_index_or, append_assoc, append-nil, arith, refl, sym, ◌∙◌, ap, subst}
use Rattle.std.specs.Prelude.{slice_set}
use Rattle.std.proofs.lemmas.List.{length_push, length-append, length-set, get_or-set_same, get_or-set_other, get_or_append_left, set-append_right}
use Rattle.aud_typed.specs.Tree as tree
use Rattle.aud_typed.specs.Why.Scoped.{AreDistinct, HaveDistinctEntries, no_object}
use Rattle.aud_names.specs.declared.names.NamedParameter.{NamedParameter}
use Rattle.aud_names.specs.declared.awaited.Awaited.{Awaited}
use Rattle.aud_names.specs.Names as names
use Rattle.aud_check_bodies.specs.Tables.{Tables, Outcome, no_body, with_region, region_kept, region_named, unit_kept, with_unit, task_kept, entry_kept, protected_entry, protected_entry_kept, entry_at, with_barrier, object_kept}
use Rattle.aud_check_bodies.specs.Tasks as tasks
use Rattle.aud_check_bodies.specs.Declarations as d
use Rattle.aud_check_bodies.specs.Regions as regions

pub is_equal : (n m : ℕ) → (n ≡ m) ⊎ (n ≡ m → ⊥)
is_equal zero zero = inl refl
is_equal zero (suc m) = inr (λ e. omega (arith, e))
is_equal (suc n) zero = inr (λ e. omega (arith, e))
is_equal (suc n) (suc m) = elim (is_equal n m) [ inl e ↦ inl (ap suc e) | inr f ↦ inr (λ e. f (omega (arith, e))) ]

pub record Grows (t u : Tables) : Type 0 where
  pub more_regions : List (List tree.Named)
  pub more_profiles : List (List NamedParameter)
  pub more_tasks : List tree.TaskPlan
  pub more_entry_profiles : List (List NamedParameter)
  pub regions : u.regions ≡ t.regions ++ more_regions
  pub profiles : u.profiles ≡ t.profiles ++ more_profiles
  pub tasks : u.tasks ≡ t.tasks ++ more_tasks
  -- each unit has a profile
  pub even : length u.units ≡ length t.units + length more_profiles
  pub exceptions : length t.exceptions ≤ length u.exceptions
  pub objects : length t.objects ≤ length u.objects
  pub distinct : HaveDistinctEntries t.objects → HaveDistinctEntries u.objects
  pub stay : (n : ℕ) → n < length t.objects → slice_index_or u.objects n no_object ≡ slice_index_or t.objects n no_object
  -- each entry too; a barrier is put where its place was kept
  pub entry_profiles : u.entry_profiles ≡ t.entry_profiles ++ more_entry_profiles
  pub entries : length u.entries ≡ length t.entries + length more_entry_profiles
  pub planned : (n : ℕ) → n < length t.entries → tree.plan_of_entry (entry_at n u) ≡ tree.plan_of_entry (entry_at n t)

pub same : (t : Tables) → Grows t t
same t = record { more_regions = []; more_profiles = []; more_tasks = []; more_entry_profiles = []; regions = sym (append-nil t.regions); profiles = sym (append-nil t.profiles); tasks = sym (append-nil t.tasks); even = omega arith; exceptions = omega arith; objects = omega arith; distinct = λ z. z; stay = λ n lt. refl; entry_profiles = sym (append-nil t.entry_profiles); entries = omega arith; planned = λ n lt. refl }

pub further : {t u v : Tables} → Grows t u → Grows u v → Grows t v
further {t} {u} {v} g h = record {
  more_regions = g.more_regions ++ h.more_regions;
  more_profiles = g.more_profiles ++ h.more_profiles;
  more_tasks = g.more_tasks ++ h.more_tasks;
  more_entry_profiles = g.more_entry_profiles ++ h.more_entry_profiles;
  regions = h.regions ∙ ap (λ z. z ++ h.more_regions) g.regions ∙ append_assoc t.regions g.more_regions h.more_regions;
  profiles = h.profiles ∙ ap (λ z. z ++ h.more_profiles) g.profiles ∙ append_assoc t.profiles g.more_profiles h.more_profiles;
  tasks = h.tasks ∙ ap (λ z. z ++ h.more_tasks) g.tasks ∙ append_assoc t.tasks g.more_tasks h.more_tasks;
  even = omega (arith, g.even, h.even, length-append g.more_profiles h.more_profiles);
  exceptions = omega (arith, g.exceptions, h.exceptions);
  objects = omega (arith, g.objects, h.objects);
  distinct = λ z. h.distinct (g.distinct z);
  stay = λ n lt. h.stay n (omega (arith, lt, g.objects)) ∙ g.stay n lt;
  entry_profiles = h.entry_profiles ∙ ap (λ z. z ++ h.more_entry_profiles) g.entry_profiles ∙ append_assoc t.entry_profiles g.more_entry_profiles h.more_entry_profiles;
  entries = omega (arith, g.entries, h.entries, length-append g.more_entry_profiles h.more_entry_profiles);
  planned = λ n lt. h.planned n (omega (arith, lt, g.entries)) ∙ g.planned n lt;
}

pub region_grows : (shown : List tree.Named) (t : Tables) → Grows t (with_region shown t)
region_grows shown t = record { more_regions = shown ∷ []; more_profiles = []; more_tasks = []; more_entry_profiles = []; regions = refl; profiles = sym (append-nil t.profiles); tasks = sym (append-nil t.tasks); even = omega arith; exceptions = omega arith; objects = omega arith; distinct = λ z. z; stay = λ n lt. refl; entry_profiles = sym (append-nil t.entry_profiles); entries = omega arith; planned = λ n lt. refl }

-- a place that was kept is behind what stood there
set_behind : {X : Type 0} (xs : List X) (y : X) (ys zs : List X) (z : X) → zs ≡ (xs ++ y ∷ []) ++ ys → slice_set zs (length xs) z ≡ xs ++ slice_set (y ∷ ys) (length xs - length xs) z
set_behind xs y ys zs z e = ap (λ l. slice_set l (length xs) z) (e ∙ append_assoc xs (y ∷ []) ys) ∙ set-append_right xs (y ∷ ys) (length xs) (length xs) z refl (omega arith)

pub named_grows : (shown : List tree.Named) (t u : Tables) → Grows (region_kept t) u → Grows t (region_named (length t.regions) shown u)
named_grows shown t u g = record {
  more_regions = slice_set ([] ∷ g.more_regions) (length t.regions - length t.regions) shown;
  more_profiles = g.more_profiles;
  more_tasks = g.more_tasks;
  more_entry_profiles = g.more_entry_profiles;
  regions = set_behind t.regions [] g.more_regions u.regions shown g.regions;
  profiles = g.profiles;
  tasks = g.tasks;
  even = g.even;
  exceptions = g.exceptions;
  objects = g.objects;
  distinct = g.distinct;
  stay = g.stay;
  entry_profiles = g.entry_profiles;
  entries = g.entries;
  planned = g.planned;
}

-- wherever a unit is put
pub put_grows : (number : ℕ) (unit : tree.UnitBody) (t u : Tables) → Grows t u → Grows t (with_unit number unit u)
put_grows number unit t u g = record {
  more_regions = g.more_regions;
  more_profiles = g.more_profiles;
  more_tasks = g.more_tasks;
  more_entry_profiles = g.more_entry_profiles;
  regions = g.regions;
  profiles = g.profiles;
  tasks = g.tasks;
  even = omega (arith, g.even, length-set u.units number unit);
  exceptions = g.exceptions;
  objects = g.objects;
  distinct = g.distinct;
  stay = g.stay;
  entry_profiles = g.entry_profiles;
  entries = g.entries;
  planned = g.planned;
}

pub unit_grows : (profile : List NamedParameter) (t : Tables) → Grows t (unit_kept profile t)
unit_grows profile t = record { more_regions = []; more_profiles = profile ∷ []; more_tasks = []; more_entry_profiles = []; regions = sym (append-nil t.regions); profiles = refl; tasks = sym (append-nil t.tasks); even = omega (arith, length_push t.units no_body); exceptions = omega arith; objects = omega arith; distinct = λ z. z; stay = λ n lt. refl; entry_profiles = sym (append-nil t.entry_profiles); entries = omega arith; planned = λ n lt. refl }

pub task_grows : (numbers : List ℕ) (t : Tables) → Grows t (task_kept numbers t)
task_grows numbers t = record { more_regions = []; more_profiles = [] ∷ []; more_tasks = (record { unit = length t.units; entries = numbers }) ∷ []; more_entry_profiles = []; regions = sym (append-nil t.regions); profiles = refl; tasks = refl; even = omega (arith, length_push t.units no_body); exceptions = omega arith; objects = omega arith; distinct = λ z. z; stay = λ n lt. refl; entry_profiles = sym (append-nil t.entry_profiles); entries = omega arith; planned = λ n lt. refl }

pub own_grows : (found : Option Awaited) (t : Tables) → Grows t (tasks.body_tables found t)
own_grows None t = task_grows [] t
own_grows (Some a) t = same t

-- one entry more

entry_added_grows : (e : tree.EntryBody) (profile : List NamedParameter) (t : Tables) → Grows t (record t { entries = t.entries ++ e ∷ []; entry_profiles = t.entry_profiles ++ profile ∷ [] })
entry_added_grows e profile t = record {
  more_regions = [];
  more_profiles = [];
  more_tasks = [];
  more_entry_profiles = profile ∷ [];
  regions = sym (append-nil t.regions);
  profiles = sym (append-nil t.profiles);
  tasks = sym (append-nil t.tasks);
  even = omega arith;
  exceptions = omega arith;
  objects = omega arith;
  distinct = λ z. z;
  stay = λ n lt. refl;
  entry_profiles = refl;
  entries = length_push t.entries e;
  planned = λ n lt. ap tree.plan_of_entry (get_or_append_left t.entries (e ∷ []) (tree.task_entry [] 0) n lt);
}

pub entry_grows : (name : List ℕ) (profile : List NamedParameter) (t : Tables) → Grows t (entry_kept name profile t)
entry_grows name profile t = entry_added_grows (tree.task_entry name (length profile)) profile t

-- a protected one has a unit besides
pub protected_entry_grows : (name : List ℕ) (profile : List NamedParameter) (t : Tables) → Grows t (protected_entry_kept name profile t)
protected_entry_grows name profile t = further {u = unit_kept [] t} (unit_grows [] t) (entry_added_grows (protected_entry name (length profile) (length t.units)) profile (unit_kept [] t))

object_distinct : (os : List tree.ObjectPlan) (o : tree.ObjectPlan) → HaveDistinctEntries os → AreDistinct o.entries → HaveDistinctEntries (os ++ o ∷ [])
object_distinct [] o h once = (once, tt)
object_distinct (x ∷ os) o h once = (h.0, object_distinct os o h.1 once)

-- none of its entries stands twice in the table
pub object_kept_grows : (name : List ℕ) (level : ℕ) (components : List tree.Named) (numbers : List ℕ) (t : Tables) → AreDistinct numbers → Grows t (object_kept name level components numbers t)
object_kept_grows name level components numbers t once = record {
  more_regions = [];
  more_profiles = [];
  more_tasks = [];
  more_entry_profiles = [];
  regions = sym (append-nil t.regions);
  profiles = sym (append-nil t.profiles);
  tasks = sym (append-nil t.tasks);
  even = omega arith;
  exceptions = omega arith;
  objects = omega (arith, length_push t.objects (record { name = name; level = level; components = components; entries = numbers }));
  distinct = λ z. object_distinct t.objects (record { name = name; level = level; components = components; entries = numbers }) z once;
  stay = λ n lt. get_or_append_left t.objects ((record { name = name; level = level; components = components; entries = numbers }) ∷ []) no_object n lt;
  entry_profiles = sym (append-nil t.entry_profiles);
  entries = omega arith;
  planned = λ n lt. refl;
}

-- a barrier is put in its place
barred_plan : (number : ℕ) (b : tree.BooleanExpression) (t : Tables) (n : ℕ) → n < length t.entries → tree.plan_of_entry (entry_at n (with_barrier number b t)) ≡ tree.plan_of_entry (entry_at n t)
barred_plan number b t n lt = elim (is_equal n number) [
  | inl e ↦
      let there : number < length t.entries = omega (arith, e, lt) in
      subst (λ k. tree.plan_of_entry (entry_at k (with_barrier number b t)) ≡ tree.plan_of_entry (entry_at k t)) (sym e)
      (ap tree.plan_of_entry (get_or-set_same t.entries number (record (entry_at number t) { barrier = b }) (tree.task_entry [] 0) there))
  | inr ne ↦ ap tree.plan_of_entry (get_or-set_other t.entries number n (record (entry_at number t) { barrier = b }) (tree.task_entry [] 0) ne)
]

pub barrier_grows : (number : ℕ) (b : tree.BooleanExpression) (t : Tables) → Grows t (with_barrier number b t)
barrier_grows number b t = record {
  more_regions = [];
  more_profiles = [];
  more_tasks = [];
  more_entry_profiles = [];
  regions = sym (append-nil t.regions);
  profiles = sym (append-nil t.profiles);
  tasks = sym (append-nil t.tasks);
  even = omega arith;
  exceptions = omega arith;
  objects = omega arith;
  distinct = λ z. z;
  stay = λ n lt. refl;
  entry_profiles = sym (append-nil t.entry_profiles);
  entries = omega (arith, length-set t.entries number (record (entry_at number t) { barrier = b }));
  planned = barred_plan number b t;
}

pub kept_grows : (t : Tables) → Grows t (region_kept t)
kept_grows t = region_grows [] t

-- the tables behind the declarations of a body that is entered
abbrev pub declared_tables : Outcome d.Declared → Tables → Tables
declared_tables o t = region_named (length t.regions) (regions.shown_names (names.innermost o.made.place).symbols) o.tables
