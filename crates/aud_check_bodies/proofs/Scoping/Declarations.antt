-- Declarations without faults elaborate the frame of their region.
use Rattle.std.specs.Prelude.{map, nat_eq, pos, if◌then◌else◌}
use Rattle.std.proofs.Common.{◌≡◌, ℕ, ℤ, suc, max, ◌+◌, ◌-◌, ◌<◌, ◌≤◌, Bool, true, false, List, [], ◌∷◌, ◌++◌, length, Option, Some, None, arith, not, refl, sym, ◌∙◌, ap, subst}
use Rattle.std.proofs.lemmas.List.{length-map, length-append, length_push, get_or_push}
use Rattle.std.proofs.lemmas.List.Elements.{All-from_recursion, All-nil, All-push}
use Rattle.aud_text.specs.declared.place.Pos.{Pos}
use Rattle.aud_syntax.specs.declared.tree.Ident.{Ident}
use Rattle.aud_syntax.specs.declared.tree.Bound.{Bound}
use Rattle.aud_syntax.specs.Plain as plain
use Rattle.aud_typed.specs.declared.program.Variable.{Variable}
use Rattle.aud_typed.specs.declared.program.Subtype.{Subtype}
use Rattle.aud_typed.specs.declared.program.Subtype.TheVariants.{Integer, Natural, Positive, Boolean}
use Rattle.aud_typed.specs.declared.program.Exception.TheVariants as exception_of
use Rattle.aud_typed.specs.Tree as tree
use Rattle.aud_typed.specs.Why.Scoped.{Elaborated, Scope, none_yet, cells_at, in_innermost, declared_up_to, declared_with, scope_after, shown_cells, cells_of, all_of_table, all_formals, object_level, StatementScoped}
use Rattle.aud_fault.specs.declared.fault.Fault.{Fault}
use Rattle.aud_names.specs.declared.names.NamedParameter.{NamedParameter}
use Rattle.aud_names.specs.declared.names.Parameter.{Parameter}
use Rattle.aud_names.specs.declared.awaited.Awaited.{Awaited}
use Rattle.aud_names.specs.declared.awaited.AwaitedObject.{AwaitedObject}
use Rattle.aud_names.specs.declared.parts.ObjectPart.{ObjectPart}
use Rattle.aud_names.specs.declared.entries.EntryName.{EntryName}
use Rattle.aud_names.specs.declared.names.Owner.TheVariants.{Single}
use Rattle.aud_names.specs.declared.names.Meaning.{Meaning}
use Rattle.aud_names.specs.declared.names.Meaning.TheVariants.{Procedure, Exception, TaskType, Entry}
use Rattle.aud_names.specs.declared.array.Kind.{Kind}
use Rattle.aud_names.specs.declared.array.Kind.TheVariants.{Scalar, Row, Task, TaskRow, Protected}
use Rattle.aud_names.specs.Arrays as arrays
use Rattle.aud_names.specs.Names as names
use Rattle.aud_names.specs.Names.{Symbol, Region, Place}
use Rattle.aud_names.specs.Rules as rules
use Rattle.aud_check_bodies.specs.Tables.{Tables}
use Rattle.aud_check_bodies.specs.Declarations as d
use Rattle.aud_check_bodies.specs.Entries as entries
use Rattle.aud_check_bodies.specs.Formals as f
use Rattle.aud_check_bodies.specs.Regions as regions
use Rattle.aud_check_bodies.specs.Tasks as tasks
use Rattle.aud_check_bodies.proofs.Scoping.Names.{Known, when, IsCallable, IsTaskType, IsOfTask, EntriesThere, PartsThere, MeaningScoped, VisibleScoped, SymbolsScoped, RegionsScoped, Fits, either, regions_more, regions_when, regions_scoped, regions_see, later, symbols_later, entries_later, parts_later, regions_later}
use Rattle.aud_check_bodies.proofs.Scoping.Elaborations.{Elaborates, AllCreated, none_created, one_created}
use Rattle.aud_check_bodies.proofs.Scoping.Expressions.{initial_scoped}

-- only the last frame changes
in_last : (f : Elaborated → Elaborated) (outer : Scope) (e : Elaborated) → in_innermost f (outer ++ e ∷ []) ≡ outer ++ f e ∷ []
in_last f [] e = refl
in_last f (x ∷ []) e = refl
in_last f (x ∷ y ∷ ys) e = ap (λ z. x ∷ z) (in_last f (y ∷ ys) e)

-- What a region's table has.

named_before : (name : List ℕ) (s : Option tree.Shown) (xs ys : List tree.Named) (k : ℕ) → length ys ≡ length xs + k → length (regions.shown_before name s ys) ≡ length (regions.shown_before name s xs) + k
named_before name None xs ys k h = h
named_before name (Some s) xs ys k h = omega (arith, h)

names_shown : (xs ys : List Symbol) → length (regions.shown_names (xs ++ ys)) ≡ length (regions.shown_names xs) + length (regions.shown_names ys)
names_shown [] ys = omega arith
names_shown (x ∷ xs) ys = named_before x.0 (regions.shown x.1) _ _ _ (names_shown xs ys)

cells_before : (name : List ℕ) (s : Option tree.Shown) (xs ys : List tree.Named) (k : ℕ) → cells_of ys ≡ cells_of xs + k → cells_of (regions.shown_before name s ys) ≡ cells_of (regions.shown_before name s xs) + k
cells_before name None xs ys k h = h
cells_before name (Some s) xs ys k h = omega (arith, h)

cells_shown : (xs ys : List Symbol) → cells_of (regions.shown_names (xs ++ ys)) ≡ cells_of (regions.shown_names xs) + cells_of (regions.shown_names ys)
cells_shown [] ys = omega arith
cells_shown (x ∷ xs) ys = cells_before x.0 (regions.shown x.1) _ _ _ (cells_shown xs ys)

-- of one symbol more
one_name : (name : List ℕ) (kind : Kind) (level index : ℕ) → length (regions.shown_names ((name, arrays.new_meaning kind level index) ∷ [])) ≡ 1
one_name name (Scalar o) level index = refl
one_name name (Row a) level index = refl
one_name name (Task number) level index = refl
one_name name (TaskRow a) level index = refl
one_name name (Protected number) level index = refl

scalar_cell : (t : Option Subtype) → shown_cells (regions.shown_of t) ≡ 1
scalar_cell None = refl
scalar_cell (Some Integer) = refl
scalar_cell (Some Natural) = refl
scalar_cell (Some Positive) = refl
scalar_cell (Some Boolean) = refl

row_cells : (t : Option Subtype) (n : ℕ) → shown_cells (regions.shown_row t n) ≡ n
row_cells None n = refl
row_cells (Some Integer) n = refl
row_cells (Some Natural) n = refl
row_cells (Some Positive) n = refl
row_cells (Some Boolean) n = refl

its_cells : (name : List ℕ) (kind : Kind) (level index : ℕ) → cells_of (regions.shown_names ((name, arrays.new_meaning kind level index) ∷ [])) ≡ arrays.cells_of kind
its_cells name (Scalar o) level index = omega (arith, scalar_cell o.subtype)
its_cells name (Row a) level index = omega (arith, row_cells a.subtype (arrays.length_between a.low a.high))
its_cells name (Task number) level index = omega arith
its_cells name (TaskRow a) level index = omega arith
its_cells name (Protected number) level index = omega arith

-- of a region's frame
abbrev pub elaborated : Region → Elaborated
elaborated r = record { names = r.names; cells = r.cells }

-- the region's frame is next within these, its table has all that the region declares, and where all its cells are elaborated each symbol
-- may be used; units are entered where all is elaborated that its declarative part declares
pub record RegionScoped (known : Known) (outer : Scope) (full : Elaborated) (r : Region) : Type 0 where
  pub level : r.level ≡ length outer
  pub symbols : (c : Bool) (e : Elaborated) → r.cells ≤ e.cells → (c ≡ true → full.cells ≤ e.cells) → SymbolsScoped (when c known) (outer ++ e ∷ []) r.symbols
  pub named : length (regions.shown_names r.symbols) ≡ r.names
  pub celled : cells_of (regions.shown_names r.symbols) ≡ r.cells
  -- the entries of the tasks that it declares are there
  pub entries : EntriesThere known r.entries
  -- and what its objects declare may be used
  pub parts : (c : Bool) (e : Elaborated) → r.cells ≤ e.cells → (c ≡ true → full.cells ≤ e.cells) → PartsThere (when c known) (outer ++ e ∷ []) r.parts

pub empty_scoped : (known : Known) (outer : Scope) (full : Elaborated) (level : ℕ) → level ≡ length outer → RegionScoped known outer full (names.empty_region level)
empty_scoped known outer full level h = record {
  level = h;
  symbols = λ c e _ _. All-nil (λ x. MeaningScoped (when c known) (outer ++ e ∷ []) x.1);
  named = refl;
  celled = refl;
  entries = tt;
  parts = λ c e _ _. tt;
}

-- whatever task's body it is directly in
pub owned_scoped : (known : Known) (outer : Scope) (full : Elaborated) (own : Option Variable) (r : Region) → RegionScoped known outer full r → RegionScoped known outer full (record r { own = own })
owned_scoped known outer full own r h = record { level = h.level; symbols = h.symbols; named = h.named; celled = h.celled; entries = h.entries; parts = h.parts }

-- whether it is that of an accept's formals or not
pub accept_scoped : (known : Known) (outer : Scope) (full : Elaborated) (r : Region) → RegionScoped known outer full r → RegionScoped known outer full (record r { accept = true })
accept_scoped known outer full r h = record { level = h.level; symbols = h.symbols; named = h.named; celled = h.celled; entries = h.entries; parts = h.parts }

-- all of it is elaborated
pub all_elaborated : (known : Known) (outer : Scope) (full : Elaborated) (r : Region) → RegionScoped known outer full r → all_of_table (regions.shown_names r.symbols) ≡ elaborated r
all_elaborated known outer full r h =
    ap (λ n. record { names = n; cells = cells_of (regions.shown_names r.symbols) }) h.named ∙ ap (λ n. record { names = r.names; cells = n }) h.celled

-- One name more.

pub both_none : {A : Type 0} (xs ys : List A) → xs ++ ys ≡ [] → (xs ≡ []) × (ys ≡ [])
both_none [] ys h = (refl, h)
both_none (x ∷ xs) ys h = cc

pub not_declared : (b : Bool) (f : Fault) → rules.unless (not b) f ≡ [] → b ≡ false
not_declared true f h = cc
not_declared false f h = refl

-- the plan tells of an object at which level it is declared
abbrev pub IsPlannedAt : Known → (level : ℕ) → Kind → Type 0
IsPlannedAt known level (Protected number) = known.complete ≡ true → suc level ≡ object_level known.plan number
IsPlannedAt known level _ = Unit {0}

module _ (known : Known) (outer : Scope) where
  new_scoped : (kind : Kind) (level index : ℕ) (e : Elaborated) → level ≡ length outer → index + arrays.cells_of kind ≤ e.cells → IsPlannedAt known level kind → MeaningScoped known (outer ++ e ∷ []) (arrays.new_meaning kind level index)
  new_scoped (Scalar o) level index e h more planned =
      let here : cells_at level (outer ++ e ∷ []) ≡ e.cells = ap (λ x. x.cells) (get_or_push outer e none_yet level (sym h)) in
      omega (arith, here, more)
  new_scoped (Row a) level index e h more planned =
      let here : cells_at level (outer ++ e ∷ []) ≡ e.cells = ap (λ x. x.cells) (get_or_push outer e none_yet level (sym h)) in
      omega (arith, here, more)
  new_scoped (Task number) level index e h more planned =
      let here : cells_at level (outer ++ e ∷ []) ≡ e.cells = ap (λ x. x.cells) (get_or_push outer e none_yet level (sym h)) in
      omega (arith, here, more)
  new_scoped (TaskRow a) level index e h more planned =
      let here : cells_at level (outer ++ e ∷ []) ≡ e.cells = ap (λ x. x.cells) (get_or_push outer e none_yet level (sym h)) in
      omega (arith, here, more)
  new_scoped (Protected number) level index e h more planned =
      let here : cells_at level (outer ++ e ∷ []) ≡ e.cells = ap (λ x. x.cells) (get_or_push outer e none_yet level (sym h)) in
      (omega (arith, here, more), λ f. planned)

module _ (known : Known) (outer : Scope) (full : Elaborated) where
  pub symbol_scoped : (name : List ℕ) (kind : Kind) (r : Region) → ((c : Bool) → IsPlannedAt (when c known) r.level kind) → RegionScoped known outer full r → RegionScoped known outer full (d.with_symbol name kind r)
  symbol_scoped name kind r planned h =
      let s : Symbol = (name, arrays.new_meaning kind r.level r.cells) in
      record {
        level = h.level;
        symbols = λ c e more enough. All-push (λ x. MeaningScoped (when c known) (outer ++ e ∷ []) x.1) r.symbols s (h.symbols c e (omega (arith, more)) enough) (new_scoped (when c known) outer kind r.level r.cells e h.level more (planned c));
        named = omega (arith, names_shown r.symbols (s ∷ []), one_name name kind r.level r.cells, h.named);
        celled = omega (arith, cells_shown r.symbols (s ∷ []), its_cells name kind r.level r.cells, h.celled);
        entries = h.entries;
        parts = λ c e more enough. h.parts c e (omega (arith, more)) enough;
      }

  -- a name that is not declared yet
  fresh : (i : Ident) (kind : Kind) (r : Region) → rules.declared_once i.name i.at r.symbols ≡ [] → d.with_name i kind r ≡ d.with_symbol i.name kind r
  fresh i kind r q =
      let new : names.is_declared i.name r.symbols ≡ false = not_declared _ _ q in
      rw new

  -- each of them is one name more with one cell
  objects_declared : (is : List Ident) (t : Option Subtype) (is_constant : Bool) (r : Region) → d.twice_faults is (d.scalar t is_constant) r ≡ [] → RegionScoped known outer full r
      → RegionScoped known outer full (d.declared_names is (d.scalar t is_constant) r) × ((d.declared_names is (d.scalar t is_constant) r).names ≡ r.names + length is) × ((d.declared_names is (d.scalar t is_constant) r).cells ≡ r.cells + length is)
  objects_declared [] t is_constant r q h = (h, omega arith, omega arith)
  objects_declared (i ∷ is) t is_constant r q h =
      let kind : Kind = d.scalar t is_constant in
      let faults = both_none _ _ q in
      let grown = fresh i kind r faults.0 in
      let rest = objects_declared is t is_constant (d.with_symbol i.name kind r) (subst (λ z. d.twice_faults is kind z ≡ []) grown faults.1) (symbol_scoped i.name kind r (λ c. tt) h) in
      subst (λ z. RegionScoped known outer full (d.declared_names is kind z) × ((d.declared_names is kind z).names ≡ r.names + length (i ∷ is)) × ((d.declared_names is kind z).cells ≡ r.cells + length (i ∷ is))) (sym grown)
      (rest.0, omega (arith, rest.1), omega (arith, rest.2))

  -- an array or task is one name more with its cells
  pub one_elaborated : (name : List ℕ) (kind : Kind) (r : Region) → in_innermost (declared_with (arrays.cells_of kind)) (outer ++ elaborated r ∷ []) ≡ outer ++ elaborated (d.with_symbol name kind r) ∷ []
  one_elaborated name kind r =
      let one_more : suc r.names ≡ r.names + 1 = omega arith in
      in_last (declared_with (arrays.cells_of kind)) outer (elaborated r) ∙ ap (λ n. outer ++ record { names = n; cells = r.cells + arrays.cells_of kind } ∷ []) one_more

  -- what each name of a declaration is elaborated by is scoped anywhere, and adds these cells
  abbrev AddsCells : (Ident → tree.Statement) → Kind → Type 0
  AddsCells elaborate kind = (i : Ident) (scope : Scope) → StatementScoped known.plan known.entries (elaborate i) scope × (scope_after (elaborate i) scope ≡ in_innermost (declared_with (arrays.cells_of kind)) scope)

  each_declared : (elaborate : Ident → tree.Statement) (kind : Kind) → AddsCells elaborate kind → ((c : Bool) (level : ℕ) → IsPlannedAt (when c known) level kind) → (is : List Ident) (r : Region) → d.twice_faults is kind r ≡ [] → RegionScoped known outer full r
      → RegionScoped known outer full (d.declared_names is kind r) × Elaborates known (outer ++ elaborated r ∷ []) (map elaborate is) (outer ++ elaborated (d.declared_names is kind r) ∷ [])
  each_declared elaborate kind each planned [] r q h = (h, refl)
  each_declared elaborate kind each planned (i ∷ is) r q h =
      let faults = both_none _ _ q in
      let grown = fresh i kind r faults.0 in
      let new : Region = d.with_symbol i.name kind r in
      let rest = each_declared elaborate kind each planned is new (subst (λ z. d.twice_faults is kind z ≡ []) grown faults.1) (symbol_scoped i.name kind r (λ c. planned c r.level) h) in
      let one = each i (outer ++ elaborated r ∷ []) in
      let adds : scope_after (elaborate i) (outer ++ elaborated r ∷ []) ≡ outer ++ elaborated new ∷ [] = one.1 ∙ one_elaborated i.name kind r in
      let others : Elaborates known (scope_after (elaborate i) (outer ++ elaborated r ∷ [])) (map elaborate is) (outer ++ elaborated (d.declared_names is kind new) ∷ []) =
      subst (λ z. Elaborates known z (map elaborate is) (outer ++ elaborated (d.declared_names is kind new) ∷ [])) (sym adds) rest.1 in
      subst (λ z. RegionScoped known outer full (d.declared_names is kind z) × Elaborates known (outer ++ elaborated r ∷ []) (map elaborate (i ∷ is)) (outer ++ elaborated (d.declared_names is kind z) ∷ [])) (sym grown)
      (rest.0, (one.0, others))

  -- an exception has no cells
  exception_scoped : (name : List ℕ) (x : d.Exceptions) → length (x.names ++ name ∷ []) ≤ length known.plan.exceptions → RegionScoped known outer full x.region → RegionScoped known outer full (d.exception_symbol name x).region
  exception_scoped name x enough h =
      let s : Symbol = (name, Exception (exception_of.Declared (length x.names))) in
      record {
        level = h.level;
        symbols = λ c e more all. All-push (λ x. MeaningScoped (when c known) (outer ++ e ∷ []) x.1) x.region.symbols s (h.symbols c e more all) (omega (arith, enough, length_push x.names name));
        named = omega (arith, names_shown x.region.symbols (s ∷ []), h.named);
        celled = omega (arith, cells_shown x.region.symbols (s ∷ []), h.celled);
        entries = h.entries;
        parts = h.parts;
      }

-- cells are only added

name_more : (i : Ident) (kind : Kind) (r : Region) → r.cells ≤ (d.with_name i kind r).cells
name_more i kind r = either (λ (z : Region). r.cells ≤ z.cells) (names.is_declared i.name r.symbols) r (d.with_symbol i.name kind r) (omega arith) (omega arith)

cells_more : (is : List Ident) (kind : Kind) (r : Region) → r.cells ≤ (d.declared_names is kind r).cells
cells_more [] kind r = omega arith
cells_more (i ∷ is) kind r = omega (arith, name_more i kind r, cells_more is kind (d.with_name i kind r))

-- exceptions are only added

exception_more : (i : Ident) (x : d.Exceptions) → length x.names ≤ length (d.with_exception i x).names
exception_more i x = either (λ (z : d.Exceptions). length x.names ≤ length z.names) (names.is_declared i.name x.region.symbols) x (d.exception_symbol i.name x) (omega arith) (omega (arith, length_push x.names i.name))

pub exceptions_more : (is : List Ident) (x : d.Exceptions) → length x.names ≤ length (d.declared_exceptions is x).names
exceptions_more [] x = omega arith
exceptions_more (i ∷ is) x = omega (arith, exception_more i x, exceptions_more is (d.with_exception i x))

-- Regions keep what waits for its body, but for tasks and objects.

pub record Waiting : Type 0 where
  pub tasks : List Awaited
  pub objects : List AwaitedObject
  -- what the objects declare
  pub parts : List ObjectPart

abbrev pub no_waiting : Waiting
no_waiting = record { tasks = []; objects = []; parts = [] }

abbrev pub waits_in : Region → Waiting
waits_in r = record { tasks = r.awaited; objects = r.objects; parts = r.parts }

name_awaited : (i : Ident) (kind : Kind) (r : Region) → waits_in (d.with_name i kind r) ≡ waits_in r
name_awaited i kind r = either (λ (z : Region). waits_in z ≡ waits_in r) (names.is_declared i.name r.symbols) r (d.with_symbol i.name kind r) refl refl

pub names_awaited : (is : List Ident) (kind : Kind) (r : Region) → waits_in (d.declared_names is kind r) ≡ waits_in r
names_awaited [] kind r = refl
names_awaited (i ∷ is) kind r = names_awaited is kind (d.with_name i kind r) ∙ name_awaited i kind r

exception_awaited : (i : Ident) (x : d.Exceptions) → waits_in (d.with_exception i x).region ≡ waits_in x.region
exception_awaited i x = either (λ (z : d.Exceptions). waits_in z.region ≡ waits_in x.region) (names.is_declared i.name x.region.symbols) x (d.exception_symbol i.name x) refl refl

pub exceptions_awaited : (is : List Ident) (x : d.Exceptions) → waits_in (d.declared_exceptions is x).region ≡ waits_in x.region
exceptions_awaited [] x = refl
exceptions_awaited (i ∷ is) x = exceptions_awaited is (d.with_exception i x) ∙ exception_awaited i x

pub procedure_awaited : (i : Ident) (unit : ℕ) (r : Region) → waits_in (d.with_procedure i unit r) ≡ waits_in r
procedure_awaited i unit r = either (λ (z : Region). waits_in z ≡ waits_in r) (names.is_declared i.name r.symbols) r (record r { symbols = r.symbols ++ (i.name, Procedure unit) ∷ [] }) refl refl

pub formals_awaited : (fs : List plain.Formal) (r : Region) (around : List Region) → waits_in (f.checked_formals fs r around).region ≡ waits_in r
formals_awaited [] r around = refl
formals_awaited (plain.formal first others mode mark ∷ fs) r around =
    let is : List Ident = first ∷ others in
    let kind : Kind = f.formal_kind mode (d.subtype_meant (d.marked mark is (names.place_in r around))) in
    formals_awaited fs (d.declared_names is kind r) around ∙ names_awaited is kind r

objects_as_awaited : (m : Option ℕ) (is : List Ident) (at : Pos) (mark : Ident) (initial : plain.MaybeExpression) (is_constant : Bool) (n : Place) → waits_in (names.innermost (d.objects_as m is at mark initial is_constant n).made.place) ≡ waits_in (names.innermost n)
objects_as_awaited None is at mark initial is_constant n = names_awaited is (d.scalar (d.subtype_meant (d.marked mark is n)) is_constant) (names.innermost n)
objects_as_awaited (Some number) is at mark initial is_constant n = names_awaited is (Task number) (names.innermost n)

pub objects_awaited : (is : List Ident) (at : Pos) (mark : Ident) (initial : plain.MaybeExpression) (is_constant : Bool) (n : Place) → waits_in (names.innermost (d.checked_objects is at mark initial is_constant n).made.place) ≡ waits_in (names.innermost n)
objects_awaited is at mark initial is_constant n = objects_as_awaited (d.tasks_meant (d.marked mark is n) initial is_constant) is at mark initial is_constant n

arrays_as_awaited : (m : Option ℕ) (is : List Ident) (at : Pos) (low high : Bound) (mark : Ident) (n : Place) → waits_in (names.innermost (d.arrays_as m is at low high mark n).made.place) ≡ waits_in (names.innermost n)
arrays_as_awaited None is at low high mark n = names_awaited is (d.arrays_kind low high (d.subtype_meant (d.marked mark is n))) (names.innermost n)
arrays_as_awaited (Some number) is at low high mark n = names_awaited is (d.tasks_kind low high number) (names.innermost n)

pub arrays_awaited : (is : List Ident) (at : Pos) (low high : Bound) (mark : Ident) (n : Place) → waits_in (names.innermost (d.checked_arrays is at low high mark n).made.place) ≡ waits_in (names.innermost n)
arrays_awaited is at low high mark n = arrays_as_awaited (d.task_type_meant (d.marked mark is n)) is at low high mark n

-- Declarations only add cells.

objects_as_more : (m : Option ℕ) (is : List Ident) (at : Pos) (mark : Ident) (initial : plain.MaybeExpression) (is_constant : Bool) (n : Place) → (names.innermost n).cells ≤ (names.innermost (d.objects_as m is at mark initial is_constant n).made.place).cells
objects_as_more None is at mark initial is_constant n = cells_more is (d.scalar (d.subtype_meant (d.marked mark is n)) is_constant) (names.innermost n)
objects_as_more (Some number) is at mark initial is_constant n = cells_more is (Task number) (names.innermost n)

pub objects_more : (is : List Ident) (at : Pos) (mark : Ident) (initial : plain.MaybeExpression) (is_constant : Bool) (n : Place) → (names.innermost n).cells ≤ (names.innermost (d.checked_objects is at mark initial is_constant n).made.place).cells
objects_more is at mark initial is_constant n = objects_as_more (d.tasks_meant (d.marked mark is n) initial is_constant) is at mark initial is_constant n

arrays_as_more : (m : Option ℕ) (is : List Ident) (at : Pos) (low high : Bound) (mark : Ident) (n : Place) → (names.innermost n).cells ≤ (names.innermost (d.arrays_as m is at low high mark n).made.place).cells
arrays_as_more None is at low high mark n = cells_more is (d.arrays_kind low high (d.subtype_meant (d.marked mark is n))) (names.innermost n)
arrays_as_more (Some number) is at low high mark n = cells_more is (d.tasks_kind low high number) (names.innermost n)

pub arrays_more : (is : List Ident) (at : Pos) (low high : Bound) (mark : Ident) (n : Place) → (names.innermost n).cells ≤ (names.innermost (d.checked_arrays is at low high mark n).made.place).cells
arrays_more is at low high mark n = arrays_as_more (d.task_type_meant (d.marked mark is n)) is at low high mark n

exception_cells : (i : Ident) (x : d.Exceptions) → (d.with_exception i x).region.cells ≡ x.region.cells
exception_cells i x = either (λ (z : d.Exceptions). z.region.cells ≡ x.region.cells) (names.is_declared i.name x.region.symbols) x (d.exception_symbol i.name x) refl refl

pub exceptions_cells : (is : List Ident) (x : d.Exceptions) → (d.declared_exceptions is x).region.cells ≡ x.region.cells
exceptions_cells [] x = refl
exceptions_cells (i ∷ is) x = exceptions_cells is (d.with_exception i x) ∙ exception_cells i x

pub procedure_cells : (i : Ident) (unit : ℕ) (r : Region) → (d.with_procedure i unit r).cells ≡ r.cells
procedure_cells i unit r = either (λ (z : Region). z.cells ≡ r.cells) (names.is_declared i.name r.symbols) r (record r { symbols = r.symbols ++ (i.name, Procedure unit) ∷ [] }) refl refl

task_symbol_more : (is_type : Bool) (name : List ℕ) (number : ℕ) (r : Region) → r.cells ≤ (tasks.with_task_symbol is_type name number r).cells
task_symbol_more true name number r = omega arith
task_symbol_more false name number r = omega arith

pub task_more : (is_type : Bool) (i : Ident) (number unit : ℕ) (r : Region) → r.cells ≤ (tasks.with_task is_type i number unit r).cells
task_more is_type i number unit r = either (λ (z : Region). r.cells ≤ z.cells) (names.is_declared i.name r.symbols) r (tasks.awaiting i number unit (tasks.with_task_symbol is_type i.name number r)) (omega arith) (task_symbol_more is_type i.name number r)

-- a task or a task type that is declared once
new_task : (is_type : Bool) (i : Ident) (number unit : ℕ) (r : Region) → rules.declared_once i.name i.at r.symbols ≡ [] → tasks.with_task is_type i number unit r ≡ tasks.awaiting i number unit (tasks.with_task_symbol is_type i.name number r)
new_task is_type i number unit r q =
    let new : names.is_declared i.name r.symbols ≡ false = not_declared _ _ q in
    rw new

-- a place whose innermost region has the next frame within these, and sees what they have
pub record InBody (known : Known) (outer : Scope) (full : Elaborated) (n : Place) : Type 0 where
  pub innermost : RegionScoped known outer full (names.innermost n)
  pub others : (c : Bool) (e : Elaborated) → (names.innermost n).cells ≤ e.cells → RegionsScoped (when c known) (outer ++ e ∷ []) (names.others_of n.regions)

-- the type that a mark of tasks names
marked_type : (known : Known) (scope : Scope) (m : Option Meaning) (number : ℕ) → d.task_type_meant m ≡ Some number → VisibleScoped known scope m → IsTaskType known scope number
marked_type known scope None number p h = cc
marked_type known scope (Some (TaskType k)) number p h =
    let same : k ≡ number = cc in
    subst (IsTaskType known scope) same h
marked_type known scope (Some _) number p h = cc

marked_tasks : (known : Known) (scope : Scope) (m : Option Meaning) (initial : plain.MaybeExpression) (is_constant : Bool) (number : ℕ) → d.tasks_meant m initial is_constant ≡ Some number → VisibleScoped known scope m → IsTaskType known scope number
marked_tasks known scope m plain.no_expression false number p h = marked_type known scope m number p h
marked_tasks known scope m plain.no_expression true number p h = cc
marked_tasks known scope m (plain.an_expression x) is_constant number p h = cc

module _ (known : Known) (outer : Scope) (full : Elaborated) where
  pub body_regions : (c : Bool) (n : Place) (e : Elaborated) → InBody known outer full n → (names.innermost n).cells ≤ e.cells → (c ≡ true → full.cells ≤ e.cells) → RegionsScoped (when c known) (outer ++ e ∷ []) n.regions
  body_regions c n e h more enough = regions_scoped (when c known) (outer ++ e ∷ []) n.regions (h.innermost.symbols c e more enough) h.innermost.entries (h.innermost.parts c e more enough) (h.others c e more)

  -- within its declarations no unit is entered
  partly : (n : Place) → InBody known outer full n → RegionsScoped (when false known) (outer ++ elaborated (names.innermost n) ∷ []) n.regions
  partly n h = body_regions false n (elaborated (names.innermost n)) h (omega arith) (λ z. cc)

  -- behind its declarations
  pub body_fits : (n : Place) → InBody known outer full n → full.cells ≤ (names.innermost n).cells → Fits (when true known) (outer ++ elaborated (names.innermost n) ∷ []) n
  body_fits n h all = record {
    regions = body_regions true n (elaborated (names.innermost n)) h (omega arith) (λ z. all);
    level = omega (arith, h.innermost.level, length_push outer (elaborated (names.innermost n)));
  }

  -- declarations without faults, at a place in a body; what has been elaborated stays
  abbrev pub DeclaredScoped : Place → d.Declared → Type 0
  DeclaredScoped n x =
      InBody known outer full x.place
      × ((names.innermost n).cells ≤ (names.innermost x.place).cells)
      × Elaborates known (outer ++ elaborated (names.innermost n) ∷ []) x.elaborations (outer ++ elaborated (names.innermost x.place) ∷ [])
      × AllCreated known (outer ++ full ∷ []) x.elaborations

  -- the regions around stay what they were
  pub others_stay : (n : Place) (r : Region) → (names.innermost n).cells ≤ r.cells → InBody known outer full n → RegionScoped known outer full r → InBody known outer full (names.in_region r n)
  others_stay n r more h i = record { innermost = i; others = λ c e enough. h.others c e (omega (arith, more, enough)) }

  exceptions_declared : (is : List Ident) (x : d.Exceptions) → d.exceptions_twice is x ≡ [] → length (d.declared_exceptions is x).names ≤ length known.plan.exceptions → RegionScoped known outer full x.region
      → RegionScoped known outer full (d.declared_exceptions is x).region × (elaborated x.region ≡ elaborated (d.declared_exceptions is x).region)
  exceptions_declared [] x q enough h = (h, refl)
  exceptions_declared (i ∷ is) x q enough h =
      let faults = both_none _ _ q in
      let new : names.is_declared i.name x.region.symbols ≡ false = not_declared _ _ faults.0 in
      let grown : d.with_exception i x ≡ d.exception_symbol i.name x = rw new in
      let y : d.Exceptions = d.exception_symbol i.name x in
      let still : length (d.declared_exceptions is y).names ≤ length known.plan.exceptions = subst (λ z. length (d.declared_exceptions is z).names ≤ length known.plan.exceptions) grown enough in
      let rest = exceptions_declared is y (subst (λ z. d.exceptions_twice is z ≡ []) grown faults.1) still (exception_scoped known outer full i.name x (omega (arith, still, exceptions_more is y)) h) in
      subst (λ z. RegionScoped known outer full (d.declared_exceptions is z).region × (elaborated x.region ≡ elaborated (d.declared_exceptions is z).region)) (sym grown) (rest.0, rest.1)

  -- up to the last name of the region behind them
  objects_elaborated : (r after : Region) → max (suc r.names) after.names ≡ after.names → r.cells + (after.names - r.names) ≡ after.cells → in_innermost (declared_up_to after.names) (outer ++ elaborated r ∷ []) ≡ outer ++ elaborated after ∷ []
  objects_elaborated r after named celled =
      let last : declared_up_to after.names (elaborated r) ≡ elaborated after =
      ap (λ m. record { names = m; cells = r.cells + (m - r.names) }) named ∙ ap (λ m. record { names = after.names; cells = m }) celled in
      in_last (declared_up_to after.names) outer (elaborated r) ∙ ap (λ e. outer ++ e ∷ []) last

  scalars_scoped : (first : Ident) (others : List Ident) (at : Pos) (mark : Ident) (initial : plain.MaybeExpression) (is_constant : Bool) (n : Place) → (d.checked_object (first ∷ others) at mark initial is_constant n).faults ≡ [] → InBody known outer full n → DeclaredScoped n (d.checked_object (first ∷ others) at mark initial is_constant n).made
  scalars_scoped first others at mark initial is_constant n q h =
      let is : List Ident = first ∷ others in
      let r : Region = names.innermost n in
      let inner : Place = names.hiding is n in
      let t : Option Subtype = d.subtype_meant (d.marked mark is n) in
      let scope : Scope = outer ++ elaborated r ∷ [] in
      let value = initial_scoped (when false known) scope inner (regions_see (when false known) scope inner (partly n h)) initial t in
      let after : Region = d.declared_names is (d.scalar t is_constant) r in
      let once : d.twice_faults is (d.scalar t is_constant) r ≡ [] = (both_none (d.initial_faults initial t inner) _ (both_none (d.subtype_faults (d.marked mark is n) mark.at) _ q).1).1 in
      let all : RegionScoped known outer full after × (after.names ≡ r.names + length is) × (after.cells ≡ r.cells + length is) =
      objects_declared known outer full is t is_constant r once h.innermost in
      let named : max (suc r.names) after.names ≡ after.names = omega (arith, all.1) in
      let celled : r.cells + (after.names - r.names) ≡ after.cells = omega (arith, all.1, all.2) in
      let more : r.cells ≤ after.cells = omega (arith, all.2) in
      let x : tree.Statement = d.elaboration at after (d.initial_value initial t inner) in
      (others_stay n after more h all.0, more, (value, objects_elaborated r after named celled), one_created known (outer ++ full ∷ []) x [] tt (none_created known (outer ++ full ∷ [])))

  -- tasks of a type that may begin behind the declarations

  all_begin : (is : List Ident) (at : Pos) (number : ℕ) (low : ℤ) (is_array : Bool) (count : ℕ) → IsTaskType (when true known) (outer ++ full ∷ []) number → AllCreated known (outer ++ full ∷ []) (d.task_elaborations is at number low is_array count)
  all_begin [] at number low is_array count h = none_created known (outer ++ full ∷ [])
  all_begin (i ∷ is) at number low is_array count h =
      one_created known (outer ++ full ∷ []) (tree.declare_tasks at (record { task_type = number; name = i.name; low = low; is_array = is_array; length = count })) (d.task_elaborations is at number low is_array count) (h.declared, h.entered, h.alone, h.outer refl) (all_begin is at number low is_array count h)

  begun_scoped : (is : List Ident) (at : Pos) (number : ℕ) (low : ℤ) (is_array : Bool) (kind : Kind) (n : Place) → ((c : Bool) (level : ℕ) → IsPlannedAt (when c known) level kind) → d.twice_faults is kind (names.innermost n) ≡ [] → InBody known outer full n → IsTaskType (when true known) (outer ++ full ∷ []) number
      → DeclaredScoped n (record { place = names.in_region (d.declared_names is kind (names.innermost n)) n; elaborations = d.task_elaborations is at number low is_array (arrays.cells_of kind) })
  begun_scoped is at number low is_array kind n planned q h i =
      let elaborate : Ident → tree.Statement = λ j. tree.declare_tasks at (record { task_type = number; name = j.name; low = low; is_array = is_array; length = arrays.cells_of kind }) in
      let all = each_declared known outer full elaborate kind (λ j scope. (tt, refl)) planned is (names.innermost n) q h.innermost in
      let more = cells_more is kind (names.innermost n) in
      (others_stay n (d.declared_names is kind (names.innermost n)) more h all.0, more, all.1, all_begin is at number low is_array (arrays.cells_of kind) i)

  -- what is visible behind all declarations
  seen_behind : (n : Place) (is : List Ident) (name : List ℕ) → InBody known outer full n → (names.innermost n).cells ≤ full.cells → VisibleScoped (when true known) (outer ++ full ∷ []) (names.visible name (names.hiding is n))
  seen_behind n is name h more = (regions_see (when true known) (outer ++ full ∷ []) (names.hiding is n) (body_regions true n full h more (λ z. omega arith))).visible name

  pub objects_scoped : (first : Ident) (others : List Ident) (at : Pos) (mark : Ident) (initial : plain.MaybeExpression) (is_constant : Bool) (n : Place) → (d.checked_objects (first ∷ others) at mark initial is_constant n).faults ≡ [] → (names.innermost n).cells ≤ full.cells → InBody known outer full n → DeclaredScoped n (d.checked_objects (first ∷ others) at mark initial is_constant n).made
  objects_scoped first others at mark initial is_constant n q more h = by (d.tasks_meant (d.marked mark is n) initial is_constant) refl q
    where
      is : List Ident
      is = first ∷ others

      by : (m : Option ℕ) → d.tasks_meant (d.marked mark is n) initial is_constant ≡ m → (d.objects_as m is at mark initial is_constant n).faults ≡ [] → DeclaredScoped n (d.objects_as m is at mark initial is_constant n).made
      by None p q = scalars_scoped first others at mark initial is_constant n q h
      by (Some number) p q = begun_scoped is at number (pos 0) false (Task number) n (λ c l. tt) q h (marked_tasks (when true known) (outer ++ full ∷ []) (d.marked mark is n) initial is_constant number p (seen_behind n is mark.name h more))

  no_tasks : (is : List Ident) (at : Pos) (t : Option Subtype) (kind : Kind) → AllCreated known (outer ++ full ∷ []) (d.array_elaborations is at t kind)
  no_tasks [] at t kind = none_created known (outer ++ full ∷ [])
  no_tasks (i ∷ is) at t kind = one_created known (outer ++ full ∷ []) (tree.declare_array at (d.known t) (arrays.cells_of kind)) (d.array_elaborations is at t kind) tt (no_tasks is at t kind)

  rows_scoped : (is : List Ident) (at : Pos) (low high : Bound) (mark : Ident) (n : Place) → (d.checked_array is at low high mark n).faults ≡ [] → InBody known outer full n → DeclaredScoped n (d.checked_array is at low high mark n).made
  rows_scoped is at low high mark n q h =
      let t : Option Subtype = d.subtype_meant (d.marked mark is n) in
      let kind : Kind = d.arrays_kind low high t in
      let elaborate : Ident → tree.Statement = λ i. tree.declare_array at (d.known t) (arrays.cells_of kind) in
      let all = each_declared known outer full elaborate kind (λ j scope. (tt, refl)) (λ c l. tt) is (names.innermost n) (both_none _ _ (both_none _ _ (both_none (arrays.bound_faults low) _ q).1).1).1 h.innermost in
      let more = cells_more is kind (names.innermost n) in
      (others_stay n (d.declared_names is kind (names.innermost n)) more h all.0, more, all.1, no_tasks is at t kind)

  pub arrays_scoped : (is : List Ident) (at : Pos) (low high : Bound) (mark : Ident) (n : Place) → (d.checked_arrays is at low high mark n).faults ≡ [] → (names.innermost n).cells ≤ full.cells → InBody known outer full n → DeclaredScoped n (d.checked_arrays is at low high mark n).made
  arrays_scoped is at low high mark n q more h = by (d.task_type_meant (d.marked mark is n)) refl q
    where
      by : (m : Option ℕ) → d.task_type_meant (d.marked mark is n) ≡ m → (d.arrays_as m is at low high mark n).faults ≡ [] → DeclaredScoped n (d.arrays_as m is at low high mark n).made
      by None p q = rows_scoped is at low high mark n q h
      by (Some number) p q =
          begun_scoped is at number (arrays.or_zero (arrays.bound_value low)) true (d.tasks_kind low high number) n (λ c l. tt) (both_none _ _ (both_none (arrays.bound_faults low) _ q).1).1 h (marked_type (when true known) (outer ++ full ∷ []) (d.marked mark is n) number p (seen_behind n is mark.name h more))

  pub exceptions_scoped : (is : List Ident) (n : Place) (t : Tables) → (d.checked_exceptions is n t).faults ≡ [] → length (d.checked_exceptions is n t).tables.exceptions ≤ length known.plan.exceptions → InBody known outer full n → DeclaredScoped n (d.checked_exceptions is n t).made
  exceptions_scoped is n t q enough h =
      let x = d.exceptions_in n t.exceptions in
      let all = exceptions_declared is x q enough h.innermost in
      let more : (names.innermost n).cells ≤ (d.declared_exceptions is x).region.cells = omega (arith, ap (λ e. e.cells) all.1) in
      (others_stay n (d.declared_exceptions is x).region more h all.0, more, ap (λ e. outer ++ e ∷ []) all.1, none_created known (outer ++ full ∷ []))

  -- a procedure has no cells

  pub procedure_scoped : (i : Ident) (unit : ℕ) (r : Region) → ((c : Bool) (e : Elaborated) → (c ≡ true → full.cells ≤ e.cells) → IsCallable (when c known) (outer ++ e ∷ []) unit) → rules.declared_once i.name i.at r.symbols ≡ [] → RegionScoped known outer full r → RegionScoped known outer full (d.with_procedure i unit r)
  procedure_scoped i unit r callable q h =
      let s : Symbol = (i.name, Procedure unit) in
      let new : names.is_declared i.name r.symbols ≡ false = not_declared _ _ q in
      let grown : d.with_procedure i unit r ≡ record r { symbols = r.symbols ++ s ∷ [] } = rw new in
      subst (RegionScoped known outer full) (sym grown) (record {
        level = h.level;
        symbols = λ c e more enough. All-push (λ x. MeaningScoped (when c known) (outer ++ e ∷ []) x.1) r.symbols s (h.symbols c e more enough) (callable c e enough);
        named = omega (arith, names_shown r.symbols (s ∷ []), h.named);
        celled = omega (arith, cells_shown r.symbols (s ∷ []), h.celled);
        entries = h.entries;
        parts = h.parts;
      })

  -- a task type has none either, and a single task has one

  type_scoped : (name : List ℕ) (number : ℕ) (r : Region) → ((c : Bool) (e : Elaborated) → (c ≡ true → full.cells ≤ e.cells) → IsTaskType (when c known) (outer ++ e ∷ []) number) → RegionScoped known outer full r → RegionScoped known outer full (tasks.with_task_symbol true name number r)
  type_scoped name number r begins h =
      let s : Symbol = (name, TaskType number) in
      record {
        level = h.level;
        symbols = λ c e more enough. All-push (λ x. MeaningScoped (when c known) (outer ++ e ∷ []) x.1) r.symbols s (h.symbols c e more enough) (begins c e enough);
        named = omega (arith, names_shown r.symbols (s ∷ []), h.named);
        celled = omega (arith, cells_shown r.symbols (s ∷ []), h.celled);
        entries = h.entries;
        parts = h.parts;
      }

  task_symbol_scoped : (is_type : Bool) (name : List ℕ) (number : ℕ) (r : Region) → ((c : Bool) (e : Elaborated) → (c ≡ true → full.cells ≤ e.cells) → IsTaskType (when c known) (outer ++ e ∷ []) number) → RegionScoped known outer full r → RegionScoped known outer full (tasks.with_task_symbol is_type name number r)
  task_symbol_scoped true name number r begins h = type_scoped name number r begins h
  task_symbol_scoped false name number r begins h = symbol_scoped known outer full name (Task number) r (λ c. tt) h

  awaiting_scoped : (i : Ident) (number unit : ℕ) (r : Region) → RegionScoped known outer full r → RegionScoped known outer full (tasks.awaiting i number unit r)
  awaiting_scoped i number unit r h = record { level = h.level; symbols = h.symbols; named = h.named; celled = h.celled; entries = h.entries; parts = h.parts }

  both_there : (xs ys : List EntryName) → EntriesThere known xs → EntriesThere known ys → EntriesThere known (xs ++ ys)
  both_there [] ys h i = i
  both_there (x ∷ xs) ys h i = (h.0, both_there xs ys h.1 i)

  naming_scoped : (xs : List EntryName) (r : Region) → EntriesThere known xs → RegionScoped known outer full r → RegionScoped known outer full (entries.naming xs r)
  naming_scoped xs r i h = record { level = h.level; symbols = h.symbols; named = h.named; celled = h.celled; entries = both_there r.entries xs h.entries i; parts = h.parts }

  created_elaborates : (is_type : Bool) (i : Ident) (at : Pos) (number unit : ℕ) (r : Region) → Elaborates known (outer ++ elaborated r ∷ []) (tasks.created_by is_type i at number) (outer ++ elaborated (tasks.awaiting i number unit (tasks.with_task_symbol is_type i.name number r)) ∷ [])
  created_elaborates true i at number unit r = refl
  created_elaborates false i at number unit r = (tt, one_elaborated known outer full i.name (Task number) r)

  created_begin : (is_type : Bool) (i : Ident) (at : Pos) (number : ℕ) → IsTaskType (when true known) (outer ++ full ∷ []) number → AllCreated known (outer ++ full ∷ []) (tasks.created_by is_type i at number)
  created_begin true i at number h = none_created known (outer ++ full ∷ [])
  created_begin false i at number h = all_begin (i ∷ []) at number (pos 0) false 1 h

  -- and its entries
  pub task_scoped : (at : Pos) (is_type : Bool) (i : Ident) (number unit : ℕ) (xs : List EntryName) (n : Place) → ((c : Bool) (e : Elaborated) → (c ≡ true → full.cells ≤ e.cells) → IsTaskType (when c known) (outer ++ e ∷ []) number) → EntriesThere known xs → rules.declared_once i.name i.at (names.innermost n).symbols ≡ [] → InBody known outer full n
      → DeclaredScoped n (record { place = names.in_region (entries.naming xs (tasks.with_task is_type i number unit (names.innermost n))) n; elaborations = tasks.created_by is_type i at number })
  task_scoped at is_type i number unit xs n begins there q h =
      let r : Region = names.innermost n in
      let new : Region = tasks.awaiting i number unit (tasks.with_task_symbol is_type i.name number r) in
      let grown = new_task is_type i number unit r q in
      let more = task_more is_type i number unit r in
      let all : RegionScoped known outer full new = awaiting_scoped i number unit _ (task_symbol_scoped is_type i.name number r begins h.innermost) in (
        others_stay n _ more h (naming_scoped xs _ there (subst (RegionScoped known outer full) (sym grown) all)),
        more,
        subst (λ z. Elaborates known (outer ++ elaborated r ∷ []) (tasks.created_by is_type i at number) (outer ++ elaborated z ∷ [])) (sym grown) (created_elaborates is_type i at number unit r),
        created_begin is_type i at number (begins true full (λ z. omega arith)),
      )

  -- formals are the first names of their region, each with one cell

  pub formals_scoped : (fs : List plain.Formal) (r : Region) (around : List Region) → (f.checked_formals fs r around).faults ≡ [] → RegionScoped known outer full r
      → RegionScoped known outer full (f.checked_formals fs r around).region
      × ((f.checked_formals fs r around).region.names ≡ r.names + length (f.checked_formals fs r around).profile)
      × ((f.checked_formals fs r around).region.cells ≡ r.cells + length (f.checked_formals fs r around).profile)
  formals_scoped [] r around q h = (h, omega arith, omega arith)
  formals_scoped (plain.formal first others mode mark ∷ fs) r around q h =
      let is : List Ident = first ∷ others in
      let m = d.marked mark is (names.place_in r around) in
      let t : Option Subtype = d.subtype_meant m in
      let one = f.checked_formal (plain.formal first others mode mark) r around in
      let parts = both_none one.faults (f.checked_formals fs one.region around).faults q in
      let all = objects_declared known outer full is t (f.is_in mode) r (both_none (d.subtype_faults m mark.at) _ parts.0).1 h in
      let rest = formals_scoped fs one.region around parts.1 all.0 in
      let parameter : Parameter = record { mode = mode; subtype = t } in
      let own_count : length one.profile ≡ length is = length-map is (λ (i : Ident). record { name = i.name; parameter = parameter }) in
      let count = length-append one.profile (f.checked_formals fs one.region around).profile in
      (rest.0, omega (arith, rest.1, all.1, own_count, count), omega (arith, rest.2, all.2, own_count, count))

  -- the place of a block's declarations, that of a loop's statements, and that of a task's declarations

  next_scoped : (n : Place) → Fits known outer n → RegionScoped known outer full (names.next_frame n)
  next_scoped n h = owned_scoped known outer full (names.innermost n).own (names.body_frame n) (empty_scoped known outer full ((names.innermost n).level + 1) h.level)

  pub in_frame : (n : Place) → known.complete ≡ true → Fits known outer n → InBody known outer full (names.in_frame n)
  in_frame n whole h = record {
    innermost = next_scoped n h;
    others = λ c e more. regions_more (when c known) outer e n.regions (regions_when known outer whole c n.regions h.regions);
  }

  pub in_loop : (i : Ident) (n : Place) → known.complete ≡ true → Fits known outer n → InBody known outer full (regions.in_loop i n)
  in_loop i n whole h = record {
    innermost = symbol_scoped known outer full i.name (d.scalar (Some Integer) true) (names.next_frame n) (λ c. tt) (next_scoped n h);
    others = λ c e more. regions_more (when c known) outer e n.regions (regions_when known outer whole c n.regions h.regions);
  }

  own_cell : (level : ℕ) (e : Elaborated) → level ≡ length outer → 1 ≤ e.cells → 0 < cells_at level (outer ++ e ∷ [])
  own_cell level e h more =
      let here : cells_at level (outer ++ e ∷ []) ≡ e.cells = ap (λ x. x.cells) (get_or_push outer e none_yet level (sym h)) in
      omega (arith, here, more)

  -- a task's entries are declared with its body's declarations

  entry_added : (name : List ℕ) (number : ℕ) (r : Region) → IsOfTask known number → RegionScoped known outer full r → 1 ≤ r.cells → RegionScoped known outer full (record r { symbols = r.symbols ++ (name, Entry (record { number = number; owner = Single (names.own_cell r.level) })) ∷ [] })
  entry_added name number r there h own =
      let s : Symbol = (name, Entry (record { number = number; owner = Single (names.own_cell r.level) })) in
      record {
        level = h.level;
        symbols = λ c e more enough. All-push (λ x. MeaningScoped (when c known) (outer ++ e ∷ []) x.1) r.symbols s (h.symbols c e more enough) (there.0, (own_cell r.level e h.level (omega (arith, own, more)), there.1));
        named = omega (arith, names_shown r.symbols (s ∷ []), h.named);
        celled = omega (arith, cells_shown r.symbols (s ∷ []), h.celled);
        entries = h.entries;
        parts = h.parts;
      }

  entry_scoped : (name : List ℕ) (number : ℕ) (r : Region) → IsOfTask known number → RegionScoped known outer full r × (r.cells ≡ 1) × (r.names ≡ 1) → RegionScoped known outer full (names.with_entry name number r) × ((names.with_entry name number r).cells ≡ 1) × ((names.with_entry name number r).names ≡ 1)
  entry_scoped name number r there h =
      either (λ (z : Region). RegionScoped known outer full z × (z.cells ≡ 1) × (z.names ≡ 1)) (names.is_declared name r.symbols) r _ h (entry_added name number r there h.0 (omega (arith, h.1)), h.1, h.2)

  entries_scoped : (number : ℕ) (xs : List EntryName) (r : Region) → EntriesThere known xs → RegionScoped known outer full r × (r.cells ≡ 1) × (r.names ≡ 1) → RegionScoped known outer full (names.with_entries number xs r) × ((names.with_entries number xs r).cells ≡ 1) × ((names.with_entries number xs r).names ≡ 1)
  entries_scoped number [] r there h = h
  entries_scoped number (x ∷ xs) r there h =
      entries_scoped number xs _ there.1 (either (λ (z : Region). RegionScoped known outer full z × (z.cells ≡ 1) × (z.names ≡ 1)) (nat_eq number x.task_type) (names.with_entry x.name x.number r) r (entry_scoped x.name x.number r there.0 h) h)

  own_scoped : (level number : ℕ) → level ≡ length outer → RegionScoped known outer full (names.own_region level number)
  own_scoped level number h = record {
    level = h;
    symbols = λ c e more enough. All-from_recursion (λ x. MeaningScoped (when c known) (outer ++ e ∷ []) x.1) (names.own_region level number).symbols (own_cell level e h more, tt);
    named = refl;
    celled = refl;
    entries = tt;
    parts = λ c e _ _. tt;
  }

  pub in_task : (name : List ℕ) (number : ℕ) (n : Place) → (names.innermost n).level + 1 ≡ length outer → EntriesThere known (names.innermost n).entries → ((c : Bool) → RegionsScoped (when c known) outer n.regions) → InBody known outer full (names.task_place name number n)
  in_task name number n level there around =
      let all = entries_scoped number (names.innermost n).entries (names.own_region ((names.innermost n).level + 1) number) there (own_scoped ((names.innermost n).level + 1) number level, refl, refl) in
      record {
        innermost = all.0;
        others = λ c e more. ((All-from_recursion (λ x. MeaningScoped (when c known) (outer ++ e ∷ []) x.1) (names.running name ((names.innermost n).level + 1) number).symbols (own_cell ((names.innermost n).level + 1) e level (omega (arith, all.1, more)), tt), tt, tt), regions_more (when c known) outer e n.regions (around c));
      }

  -- its own number is all that is elaborated in its frame at first
  pub task_frame : (name : List ℕ) (number : ℕ) (n : Place) → (names.innermost n).level + 1 ≡ length outer → EntriesThere known (names.innermost n).entries → elaborated (names.innermost (names.task_place name number n)) ≡ all_formals 1
  task_frame name number n level there =
      let r : Region = names.task_region ((names.innermost n).level + 1) number (names.innermost n).entries in
      let all = entries_scoped number (names.innermost n).entries (names.own_region ((names.innermost n).level + 1) number) there (own_scoped ((names.innermost n).level + 1) number level, refl, refl) in
      ap {B = Elaborated} (λ k. record { names = k; cells = r.cells }) all.2 ∙ ap {B = Elaborated} (λ k. record { names = 1; cells = k }) all.1

-- in a task's body nothing waits at first

entry_awaits : (name : List ℕ) (number : ℕ) (r : Region) → waits_in (names.with_entry name number r) ≡ waits_in r
entry_awaits name number r = either (λ (z : Region). waits_in z ≡ waits_in r) (names.is_declared name r.symbols) r (record r { symbols = r.symbols ++ (name, Entry (record { number = number; owner = Single (names.own_cell r.level) })) ∷ [] }) refl refl

entries_await : (number : ℕ) (xs : List EntryName) (r : Region) → waits_in (names.with_entries number xs r) ≡ waits_in r
entries_await number [] r = refl
entries_await number (x ∷ xs) r =
    let one : Region = if nat_eq number x.task_type then names.with_entry x.name x.number r else r in
    entries_await number xs one ∙ either (λ (z : Region). waits_in z ≡ waits_in r) (nat_eq number x.task_type) (names.with_entry x.name x.number r) r (entry_awaits x.name x.number r) refl

pub task_begins : (name : List ℕ) (number : ℕ) (n : Place) → waits_in (names.innermost (names.task_place name number n)) ≡ no_waiting
task_begins name number n = entries_await number (names.innermost n).entries (names.own_region ((names.innermost n).level + 1) number)

-- what waits behind the declaration of a task
symbol_waits : (is_type : Bool) (name : List ℕ) (number : ℕ) (r : Region) → waits_in (tasks.with_task_symbol is_type name number r) ≡ waits_in r
symbol_waits true name number r = refl
symbol_waits false name number r = refl

pub task_waits : (is_type : Bool) (i : Ident) (number unit : ℕ) (r : Region) → rules.declared_once i.name i.at r.symbols ≡ []
    → waits_in (tasks.with_task is_type i number unit r) ≡ record (waits_in r) { tasks = r.awaited ++ (record { name = i.name; task_type = number; unit = unit; at = i.at }) ∷ [] }
task_waits is_type i number unit r q =
    let a : Awaited = record { name = i.name; task_type = number; unit = unit; at = i.at } in
    ap waits_in (new_task is_type i number unit r q) ∙ ap (λ (w : Waiting). record w { tasks = w.tasks ++ a ∷ [] }) (symbol_waits is_type i.name number r)

-- a procedure's name changes nothing of its region's frame
pub procedure_elaborates : (i : Ident) (unit : ℕ) (r : Region) → elaborated (d.with_procedure i unit r) ≡ elaborated r
procedure_elaborates i unit r = either (λ (z : Region). elaborated z ≡ elaborated r) (names.is_declared i.name r.symbols) r (record r { symbols = r.symbols ++ (i.name, Procedure unit) ∷ [] }) refl refl

-- later tables know of more procedures and entries
pub body_later : (known : Known) (outer : Scope) (full : Elaborated) (more others : List (List NamedParameter)) (n : Place) → InBody known outer full n → InBody (later more others known) outer full n
body_later known outer full more others n h = record {
  innermost = record {
    level = h.innermost.level;
    symbols = λ c e enough all. symbols_later (when c known) (outer ++ e ∷ []) more others (names.innermost n).symbols (h.innermost.symbols c e enough all);
    named = h.innermost.named;
    celled = h.innermost.celled;
    entries = entries_later known outer more others (names.innermost n).entries h.innermost.entries;
    parts = λ c e enough all. parts_later (when c known) (outer ++ e ∷ []) more others (names.innermost n).parts (h.innermost.parts c e enough all);
  };
  others = λ c e enough. regions_later (when c known) (outer ++ e ∷ []) more others (names.others_of n.regions) (h.others c e enough);
}

-- the place of a main procedure's declarations
pub in_main : (known : Known) (full : Elaborated) (name : List ℕ) → ((c : Bool) (e : Elaborated) → IsCallable (when c known) (e ∷ []) 0) → InBody known [] full (names.main_place name)
in_main known full name main = record {
  innermost = empty_scoped known [] full 0 refl;
  others = λ c e more.
      let all = All-from_recursion (λ x. MeaningScoped (when c known) (e ∷ []) x.1) in
      ((all ((name, Procedure 0) ∷ []) (main c e, tt), tt, tt), ((all names.predefined (tt, (tt, (tt, (tt, (tt, (tt, (tt, (tt, (tt, (tt, (tt, (tt, (tt, tt))))))))))))), tt, tt), tt));
}
