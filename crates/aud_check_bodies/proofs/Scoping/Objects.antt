-- What protected objects declare, and the frames of their bodies.
use Rattle.std.specs.Prelude.{IfSome, map, nat_eq, if◌then◌else◌}
use Rattle.std.specs.Str.{bytes_eq}
use Rattle.std.specs.List.{AllByRecursion}
use Rattle.std.proofs.Common.{◌≡◌, ◌⊎◌, inl, inr, ◌&&◌, is_some, ℕ, suc, ◌+◌, ◌<◌, ◌≤◌, Bool, true, false, List, [], ◌∷◌, ◌++◌, length, slice_index_or, Option, Some, None, arith, refl, sym, ◌∙◌, ap, subst}
use Rattle.std.proofs.lemmas.List.{length-append, length-map, length_push, get_or_push, get_or_append_left}
use Rattle.std.proofs.lemmas.List.Elements.{All-from_recursion, All-nil, All-push}
use Rattle.aud_syntax.specs.declared.tree.Ident.{Ident}
use Rattle.aud_syntax.specs.Plain as plain
use Rattle.aud_typed.specs.declared.program.Subtype.{Subtype}
use Rattle.aud_typed.specs.Tree as tree
use Rattle.aud_typed.specs.Tree.{Plan}
use Rattle.aud_typed.specs.Why.Scoped.{Elaborated, Scope, none_yet, cells_at, Entry, entry_of, entry_unit, declared_with, own_number, ComponentsScoped, ValueScoped, BooleanScoped}
use Rattle.aud_names.specs.declared.awaited.AwaitedPart.{AwaitedPart}
use Rattle.aud_names.specs.declared.names.Access.{Access}
use Rattle.aud_names.specs.declared.names.Access.TheVariants.{Outside}
use Rattle.aud_names.specs.declared.names.Instance.{Instance}
use Rattle.aud_names.specs.declared.names.Meaning.TheVariants as meaning
use Rattle.aud_names.specs.declared.names.NamedParameter.{NamedParameter}
use Rattle.aud_names.specs.declared.names.Subprogram.TheVariants.{Procedure, Function}
use Rattle.aud_names.specs.declared.parts.ObjectPart.{ObjectPart}
use Rattle.aud_names.specs.declared.parts.PartKind.{PartKind}
use Rattle.aud_names.specs.declared.parts.PartKind.TheVariants as part
use Rattle.aud_names.specs.Names as names
use Rattle.aud_names.specs.Names.{Symbol, Region, Place}
use Rattle.aud_names.specs.Objects as named
use Rattle.aud_names.specs.Objects.{own_instance, with_part, with_parts, awaits, awaited_parts}
use Rattle.aud_check_bodies.specs.Tables.{Tables, no_body, unit_kept, protected_entry, protected_entry_kept}
use Rattle.aud_check_bodies.specs.Declarations as d
use Rattle.aud_fault.specs.declared.fault.Fault.{Fault}
use Rattle.aud_names.specs.Rules as rules
use Rattle.aud_names.specs.declared.parts.Part.{Part}
use Rattle.aud_typing.specs.Conditions as conditions
use Rattle.aud_check_bodies.specs.Operations as operations
use Rattle.aud_check_bodies.specs.Operations.{Head, of_entry, of_procedure, of_function}
use Rattle.aud_check_bodies.specs.Objects as objects
use Rattle.aud_check_bodies.specs.Objects.{ObjectDeclared}
use Rattle.aud_check_bodies.proofs.Scoping.Names.{Known, when, EntriesThere, PartsThere, NamedBy, Reached, MeaningScoped, SymbolsScoped, RegionsScoped, Fits, Sees, either, regions_more, regions_see, open_further, open_within, around_open}
use Rattle.aud_check_bodies.proofs.Scoping.Expressions.{initial_scoped, condition_scoped}
use Rattle.aud_check_bodies.proofs.Scoping.Declarations.{elaborated, InBody, body_regions}
use Rattle.aud_check_bodies.proofs.Scoping.Alike.{with_new, OfObject, of_object_append, nat_eq_self, own_frame, its_frame, parts_append, parts_level, parts_entries, parts_parts}
use Rattle.aud_check_bodies.proofs.Scoping.Operations.{OperationIs, EntryIs, PartIs, PartsAre, NamesHere, parts_are_append, parts_grown, parts_there, parts_added}
use Rattle.aud_check_bodies.proofs.Scoping.Tables.{Grows, same, further, unit_grows, protected_entry_grows}
use Rattle.aud_check_bodies.proofs.Scoping.ObjectTables.{operation_grows, operations_grow, items_grow}
use Rattle.aud_check_bodies.proofs.Scoping.Plans.{InPlan, first_in_plan, seen}
use Rattle.aud_check_bodies.proofs.Scoping.Entries.{of_operation, operation_profile, in_operations, in_items, operation_counted, Ready, second_ready}
use Rattle.aud_check_bodies.proofs.Scoping.Units.{Stay, IsUnit, IsUnitOf, EachIs, awaited_append, unit_of_append, unit_of_behind, is_before, Barred, barred_push, barred_put, body_grown}

-- Values of components, each of which sees those before it.

values_append : (plan : Plan) (xs ys : List tree.ValueExpression) (own : Elaborated) (scope : Scope) (k : ℕ) → k ≤ own.cells + length xs → ComponentsScoped plan xs own scope → ((e : Elaborated) → k ≤ e.cells → ComponentsScoped plan ys e scope) → ComponentsScoped plan (xs ++ ys) own scope
values_append plan [] ys own scope k more h f = f own (omega (arith, more))
values_append plan (x ∷ xs) ys own scope k more h f = (h.0, values_append plan xs ys (declared_with 1 own) scope k (omega (arith, more)) h.1 f)

same_values : (plan : Plan) (v : tree.ValueExpression) (is : List Ident) (e : Elaborated) (scope : Scope) (k : ℕ) → k ≤ e.cells → ((f : Elaborated) → k ≤ f.cells → ValueScoped plan v (scope ++ f ∷ [])) → ComponentsScoped plan (map (λ i. v) is) e scope
same_values plan v [] e scope k more h = tt
same_values plan v (i ∷ is) e scope k more h = (h e more, same_values plan v is (declared_with 1 e) scope k (omega (arith, more)) h)

-- Cells of parts.

part_cells : (name : List ℕ) (k : PartKind) (x : Instance) (r : Region) → (with_part name k x r).cells ≤ r.cells + named.part_cells k
part_cells name k x r = either (λ (z : Region). z.cells ≤ r.cells + named.part_cells k) (names.is_declared name r.symbols) r (with_new name k x r) (omega arith) (omega arith)

one_cell : (k : PartKind) → named.part_cells k ≤ 1
one_cell (part.Entry number unit) = omega arith
one_cell (part.Operation unit subprogram) = omega arith
one_cell (part.Component s) = omega arith

all_cells : (is : List Ident) (k : PartKind) (x : Instance) (r : Region) → (objects.with_all_parts is k x r).cells ≤ r.cells + length is
all_cells [] k x r = omega arith
all_cells (i ∷ is) k x r = omega (arith, part_cells i.name k x r, one_cell k, all_cells is k x (with_part i.name k x r))

-- Parts that are declared are those of the object's region.

module _ (number level : ℕ) where
  abbrev here_named : Instance
  here_named = own_instance level number Outside

  one_part : (p : ObjectPart) (r : Region) → p.object ≡ number → with_parts here_named (p ∷ []) r ≡ with_part p.name p.part.kind here_named r
  one_part p r h =
      let its : nat_eq number p.object ≡ true = ap (nat_eq number) h ∙ nat_eq_self number in
      ap (λ b. if b then with_part p.name p.part.kind here_named r else r) its

  all_parts : (is : List Ident) (k : PartKind) (r : Region) → objects.with_all_parts is k here_named r ≡ with_parts here_named (objects.component_parts number is k) r
  all_parts [] k r = refl
  all_parts (i ∷ is) k r =
      let ps = objects.component_parts number is k in
      all_parts is k (with_part i.name k here_named r) ∙ ap (λ b. with_parts here_named ps (if b then with_part i.name k here_named r else r)) (sym (nat_eq_self number))

components_of : (number : ℕ) (is : List Ident) (k : PartKind) → OfObject number (objects.component_parts number is k)
components_of number [] k = tt
components_of number (i ∷ is) k = (refl, components_of number is k)

none_await : (number : ℕ) (s : Option Subtype) (is : List Ident) → awaited_parts number (objects.component_parts number is (part.Component s)) ≡ []
none_await number s [] = refl
none_await number s (i ∷ is) =
    let rest = awaited_parts number (objects.component_parts number is (part.Component s)) in
    ap (λ b. if b then [] ++ rest else rest) (nat_eq_self number) ∙ none_await number s is

own_number_there : (outer : Scope) (e : Elaborated) (level : ℕ) → level ≡ length outer → 1 ≤ e.cells → 0 < cells_at level (outer ++ e ∷ [])
own_number_there outer e level h more =
    let here : cells_at level (outer ++ e ∷ []) ≡ e.cells = ap (λ x. x.cells) (get_or_push outer e none_yet level (sym h)) in
    omega (arith, here, more)

module _ (plan : Plan) (entries : List Entry) where
  components_are : (base : ℕ) (t : Tables) (frames : Scope) (number : ℕ) (s : Option Subtype) (is : List Ident) → PartsAre plan entries base t frames number (objects.component_parts number is (part.Component s))
  components_are base t frames number s [] = tt
  components_are base t frames number s (i ∷ is) = ((λ e. tt), components_are base t frames number s is)

  -- an object of this number at a place, as far as it is declared: its operations are entered with these frames, and its components have
  -- their values where its region is elaborated that far
  pub record Declaring (base : ℕ) (t : Tables) (n : Place) (name : List ℕ) (number : ℕ) (frames scope : Scope) (x : ObjectDeclared) : Type 0 where
    pub own : x.own ≡ with_parts (own_instance ((names.innermost n).level + 1) number Outside) x.around.parts (named.object_frame n)
    pub around : x.around ≡ record (named.around_object name (named.body_instance number Outside n) n) { parts = x.around.parts }
    pub its : OfObject number x.around.parts
    pub are : PartsAre plan entries base x.tables frames number x.around.parts
    pub values : ComponentsScoped plan x.values own_number scope
    pub count : length x.tables.objects ≡ length t.objects
    pub levels : AllByRecursion (λ k. (entry_of entries (entry_unit plan k)).outer ≡ frames) x.entries
    pub cells : x.own.cells ≤ 1 + length x.values
    pub grows : Grows t x.tables
    pub waits : (m : ℕ) → length t.units ≤ m → m < length x.tables.units → IsUnitOf m (awaited_parts number x.around.parts)
    pub stays : Stay (length t.units) t x.tables
    pub barred : Barred plan entries t → Barred plan entries x.tables

  pub own_level : (n : Place) (number : ℕ) (ps : List ObjectPart) (r : Region) → r ≡ with_parts (own_instance ((names.innermost n).level + 1) number Outside) ps (named.object_frame n) → r.level ≡ (names.innermost n).level + 1
  own_level n number ps r h = ap (λ (z : Region). z.level) h ∙ parts_level (own_instance ((names.innermost n).level + 1) number Outside) ps (named.object_frame n)

  pub none_declared : (base : ℕ) (t : Tables) (n : Place) (name : List ℕ) (frames scope : Scope) → Declaring base t n name (length t.objects) frames scope (objects.no_parts name n t)
  none_declared base t n name frames scope = record {
    own = refl;
    around = refl;
    its = tt;
    are = tt;
    values = tt;
    count = refl;
    levels = tt;
    cells = omega arith;
    grows = same t;
    waits = λ m after before. absurd (omega (arith, after, before));
    stays = λ m lt. refl;
    barred = λ b. b;
  }

  numbers_level : (frames : Scope) (ns : List ℕ) (n : ℕ) → AllByRecursion (λ k. (entry_of entries (entry_unit plan k)).outer ≡ frames) ns → (entry_of entries (entry_unit plan n)).outer ≡ frames → AllByRecursion (λ k. (entry_of entries (entry_unit plan k)).outer ≡ frames) (ns ++ n ∷ [])
  numbers_level frames [] n h i = (i, tt)
  numbers_level frames (m ∷ ms) n h i = (h.0, numbers_level frames ms n h.1 i)

  pub all_lengths : (frames : Scope) (ns : List ℕ) (count : ℕ) → length frames ≡ count → AllByRecursion (λ k. (entry_of entries (entry_unit plan k)).outer ≡ frames) ns → AllByRecursion (λ k. length (entry_of entries (entry_unit plan k)).outer ≡ count) ns
  all_lengths frames [] count e h = tt
  all_lengths frames (n ∷ ns) count e h = (ap length h.0 ∙ e, all_lengths frames ns count e h.1)

  -- one operation or entry more, which has the next unit
  operation_added : (base : ℕ) (t : Tables) (n : Place) (name : List ℕ) (number : ℕ) (frames scope : Scope) (x : ObjectDeclared) (is_private : Bool) (i : Ident) (k : PartKind) (u : Tables) (numbers : List ℕ)
      → Declaring base t n name number frames scope x → Grows x.tables u → u.units ≡ x.tables.units ++ no_body ∷ [] → PartIs plan entries base u frames k → named.part_cells k ≡ 0 → awaits k i.at ≡ (record { unit = length x.tables.units; at = i.at }) ∷ [] → (Barred plan entries x.tables → Barred plan entries u) → length u.objects ≡ length x.tables.objects → AllByRecursion (λ j. (entry_of entries (entry_unit plan j)).outer ≡ frames) numbers
      → Declaring base t n name number frames scope (record (objects.with_operation number is_private i k x) { entries = numbers; tables = u })
  operation_added base t n name number frames scope x is_private i k u numbers h g e is none its_unit b count levels =
      let level = (names.innermost n).level + 1 in
      let ps = x.around.parts in
      let p : ObjectPart = objects.object_part number is_private i k in
      let there : Instance = own_instance level number Outside in
      let frame : Region = named.object_frame n in
      let leveled = own_level n number ps x.own h.own in
      let one = length_push x.tables.units no_body in
      let own_is : with_part i.name k (own_instance x.own.level number Outside) x.own ≡ with_parts there (ps ++ p ∷ []) frame =
      ap (λ l. with_part i.name k (own_instance l number Outside) x.own) leveled ∙ ap (with_part i.name k there) h.own ∙ sym (parts_append there ps (p ∷ []) frame ∙ one_part number level p (with_parts there ps frame) refl) in
      let awaited_is : awaited_parts number (p ∷ []) ≡ (record { unit = length x.tables.units; at = i.at }) ∷ [] = ap (λ c. if c then awaits k i.at ++ [] else []) (nat_eq_self number) ∙ ap (λ l. l ++ []) its_unit in
      record {
        own = own_is;
        around = ap (objects.with_object_parts (p ∷ [])) h.around;
        its = of_object_append number ps (p ∷ []) h.its (refl, tt);
        are = parts_are_append plan entries base u frames number ps (p ∷ []) (parts_grown plan entries base x.tables u frames number ps g h.are) ((λ z. is), tt);
        values = h.values;
        count = count ∙ h.count;
        levels = levels;
        cells = omega (arith, part_cells i.name k (own_instance x.own.level number Outside) x.own, none, h.cells);
        grows = further {u = x.tables} h.grows g;
        waits = λ m after before.
            subst (IsUnitOf m) (sym (awaited_append number ps (p ∷ []))) (elim (is_before m (length x.tables.units)) [
              | inl within ↦ unit_of_append m (awaited_parts number ps) (awaited_parts number (p ∷ [])) (h.waits m after within)
              | inr past ↦
                  let is_last : length x.tables.units ≡ m = omega (arith, past, before, ap length e, one) in
                  unit_of_behind m (awaited_parts number ps) (awaited_parts number (p ∷ [])) (subst (IsUnitOf m) (sym awaited_is) (inl is_last))
            ]);
        stays = λ m lt. ap (λ l. slice_index_or l m no_body) e ∙ get_or_append_left x.tables.units (no_body ∷ []) no_body m (omega (arith, lt, h.grows.even)) ∙ h.stays m lt;
        barred = λ z. b (h.barred z);
      }

  -- of a procedure or function with these formals
  unit_is : (base : ℕ) (t : Tables) (frames : Scope) (profile : List NamedParameter) → base ≤ length t.units → length t.profiles ≡ length t.units → length t.units < length entries → entry_of entries (length t.units) ≡ of_operation profile frames
      → OperationIs plan entries base (unit_kept profile t) frames (length t.units)
  unit_is base t frames profile after even there e = record {
    after = after;
    before = omega (arith, length_push t.units no_body);
    entered = there;
    declared = omega (arith, even, length_push t.profiles profile);
    formals = ap length (get_or_push t.profiles profile [] (length t.units) even) ∙ ap (λ z. z.formals) (sym e);
    outer = ap (λ z. z.outer) e;
  }

  -- and of an entry
  entry_is : (base : ℕ) (t0 t : Tables) (frames : Scope) (name : List ℕ) (profile : List NamedParameter) → base ≤ length t.units → length t.entry_profiles ≡ length t.entries → length t.units < length entries → entry_of entries (length t.units) ≡ of_operation profile frames
      → InPlan plan t0 (protected_entry_kept name profile t) → EntryIs plan entries base (protected_entry_kept name profile t) frames (length t.entries) (length t.units)
  entry_is base t0 t frames name profile after even there e p =
      let body : tree.EntryBody = protected_entry name (length profile) (length t.units) in
      let one = length_push t.entries body in
      let planned = p.entries (length t.entries) (omega (arith, one)) in
      let last = get_or_push t.entries body (tree.task_entry [] 0) (length t.entries) refl in
      record {
        after = after;
        before = omega (arith, length_push t.units no_body);
        entered = there;
        declared = omega (arith, one);
        listed = omega (arith, even, length_push t.entry_profiles profile);
        formals = ap length (get_or_push t.entry_profiles profile [] (length t.entries) even) ∙ ap (λ z. z.formals) (sym e);
        outer = ap (λ z. z.outer) e;
        there = planned.0;
        taken = ap length (get_or_push t.entry_profiles profile [] (length t.entries) even) ∙ sym (ap (λ (z : tree.EntryPlan). z.formals) (planned.1 ∙ ap tree.plan_of_entry last));
        planned = ap (λ (z : tree.EntryPlan). z.unit) (planned.1 ∙ ap tree.plan_of_entry last);
        own = ap (λ (z : tree.EntryBody). z.unit) last;
      }

  one_declared : (base : ℕ) (t : Tables) (n : Place) (name : List ℕ) (number : ℕ) (frames scope : Scope) (x : ObjectDeclared) (is_private : Bool) (o : plain.Operation) (rest : List Entry) → base ≤ length t.units → Declaring base t n name number frames scope x
      → Ready entries x.tables (of_operation (operation_profile o n.regions x) frames ∷ rest) → InPlan plan t (objects.one_operation number is_private o n.regions x).tables → Declaring base t n name number frames scope (objects.one_operation number is_private o n.regions x)
  one_declared base t n name number frames scope x is_private (plain.entry_operation e) rest after h r p =
      let profile = operation_profile (plain.entry_operation e) n.regions x in
      let u : Tables = protected_entry_kept e.name.name profile x.tables in
      let its : entry_of entries (length x.tables.units) ≡ of_operation profile frames = ap (entry_of entries) (omega arith) ∙ r.each 0 (omega arith) in
      let one = entry_is base t x.tables frames e.name.name profile (omega (arith, after, h.grows.even)) r.even_entries (omega (arith, r.long)) its p in
      operation_added base t n name number frames scope x is_private e.name (part.Entry (length x.tables.entries) (length x.tables.units)) u (x.entries ++ length x.tables.entries ∷ []) h (protected_entry_grows e.name.name profile x.tables) refl
      one refl refl (barred_push plan entries x.tables u (protected_entry e.name.name (length profile) (length x.tables.units)) refl refl (λ some. ap (λ z. z.formals) its)) refl (numbers_level frames x.entries (length x.tables.entries) h.levels (ap (λ k. (entry_of entries k).outer) one.planned ∙ one.outer))
  one_declared base t n name number frames scope x is_private (plain.procedure_operation i fs) rest after h r p =
      let profile = operation_profile (plain.procedure_operation i fs) n.regions x in
      let its : entry_of entries (length x.tables.units) ≡ of_operation profile frames = ap (entry_of entries) (omega arith) ∙ r.each 0 (omega arith) in
      operation_added base t n name number frames scope x is_private i (part.Operation (length x.tables.units) Procedure) (unit_kept profile x.tables) x.entries h (unit_grows profile x.tables) refl
      (unit_is base x.tables frames profile (omega (arith, after, h.grows.even)) r.even (omega (arith, r.long)) its) refl refl (λ b. b) refl h.levels
  one_declared base t n name number frames scope x is_private (plain.function_operation i fs mark) rest after h r p =
      let profile = operation_profile (plain.function_operation i fs mark) n.regions x in
      let s = (objects.function_signature fs mark x.own (objects.further_out x n.regions)).1 in
      let its : entry_of entries (length x.tables.units) ≡ of_operation profile frames = ap (entry_of entries) (omega arith) ∙ r.each 0 (omega arith) in
      operation_added base t n name number frames scope x is_private i (part.Operation (length x.tables.units) (Function s)) (unit_kept profile x.tables) x.entries h (unit_grows profile x.tables) refl
      (unit_is base x.tables frames profile (omega (arith, after, h.grows.even)) r.even (omega (arith, r.long)) its) refl refl (λ b. b) refl h.levels

  pub operations_declared : (base : ℕ) (t : Tables) (n : Place) (name : List ℕ) (number : ℕ) (frames scope : Scope) (x : ObjectDeclared) (xs : List plain.Operation) → base ≤ length t.units → Declaring base t n name number frames scope x
      → Ready entries x.tables (in_operations number xs n.regions x frames) → InPlan plan t (objects.declared_operations number xs n.regions x).tables → Declaring base t n name number frames scope (objects.declared_operations number xs n.regions x)
  operations_declared base t n name number frames scope x [] after h r p = h
  operations_declared base t n name number frames scope x (o ∷ os) after h r p =
      let one = objects.one_operation number false o n.regions x in
      let own : Entry = of_operation (operation_profile o n.regions x) frames in
      let rest = in_operations number os n.regions one frames in
      let first = one_declared base t n name number frames scope x false o rest after h r (first_in_plan plan t one.tables (objects.declared_operations number os n.regions one).tables (operations_grow number os n.regions one) p) in
      let grown : Grows x.tables one.tables = operation_grows number false o n.regions x in
      operations_declared base t n name number frames scope one os after first (second_ready entries x.tables one.tables (own ∷ []) rest grown (operation_counted number false o n.regions x) r) p

  -- what is visible in initial values, which see the object's own region, and in that the components before them

  own_regions : (base : ℕ) (t : Tables) (n : Place) (name : List ℕ) (number : ℕ) (frames outer : Scope) (full e : Elaborated) (x : ObjectDeclared) → InBody (seen plan entries t) outer full n → Declaring base t n name number frames (outer ++ elaborated (names.innermost n) ∷ []) x → 1 ≤ e.cells → x.own.cells ≤ e.cells
      → RegionsScoped (when false (seen plan entries x.tables)) ((outer ++ elaborated (names.innermost n) ∷ []) ++ e ∷ []) (x.own ∷ objects.further_out x n.regions)
  own_regions base t n name number frames outer full e x inside h some more =
      let here : Scope = outer ++ elaborated (names.innermost n) ∷ [] in
      let scope : Scope = here ++ e ∷ [] in
      let level = (names.innermost n).level + 1 in
      let there : Instance = own_instance level number Outside in
      let frame : Region = named.object_frame n in
      let ps = x.around.parts in
      let known : Known = when false (seen plan entries x.tables) in
      let later = body_grown plan entries t x.tables outer full n h.grows inside in
      let leveled : level ≡ length here = omega (arith, inside.innermost.level, length_push outer (elaborated (names.innermost n))) in
      let none : SymbolsScoped known scope frame.symbols = All-nil (λ (s : Symbol). MeaningScoped known scope s.1) in
      let own_symbols : SymbolsScoped known scope (with_parts there ps frame).symbols =
      parts_added plan entries base x.tables frames here e false number level Outside ps frame refl leveled some (record { reach = λ z. cc; around = λ z. cc; named = λ z. cc }) (omega (arith, more, ap (λ (z : Region). z.cells) h.own)) h.are none in
      let own_entries : EntriesThere known (with_parts there ps frame).entries = subst (EntriesThere known) (sym (parts_entries there ps frame)) tt in
      let own_parts : PartsThere known scope (with_parts there ps frame).parts = subst (PartsThere known scope) (sym (parts_parts there ps frame)) tt in
      let there_parts = parts_there plan entries base x.tables frames scope false number ps (λ z. cc) (λ z. cc) h.its h.are in
      let around_is : SymbolsScoped known scope (named.around_object name (named.body_instance number Outside n) n).symbols =
      All-from_recursion (λ (s : Symbol). MeaningScoped known scope s.1) (named.around_object name (named.body_instance number Outside n) n).symbols ((own_number_there here e level leveled some, λ f z. cc), tt) in
      let around_all : RegionsScoped known scope (record (named.around_object name (named.body_instance number Outside n) n) { parts = ps } ∷ n.regions) =
      ((around_is, tt, there_parts), regions_more (when false (seen plan entries x.tables)) here e n.regions (body_regions (seen plan entries x.tables) outer full false n (elaborated (names.innermost n)) later (omega arith) (λ z. cc))) in
      subst (λ z. RegionsScoped known scope (z ∷ objects.further_out x n.regions)) (sym h.own)
      (subst (λ z. RegionsScoped known scope (with_parts there ps frame ∷ z ∷ n.regions)) (sym h.around) ((own_symbols, own_entries, own_parts), around_all))

  components_declared : (base : ℕ) (t : Tables) (n : Place) (name : List ℕ) (number : ℕ) (frames outer : Scope) (full : Elaborated) (x : ObjectDeclared) (is : List Ident) (mark : Ident) (initial : plain.MaybeExpression) → InBody (seen plan entries t) outer full n → Declaring base t n name number frames (outer ++ elaborated (names.innermost n) ∷ []) x
      → Declaring base t n name number frames (outer ++ elaborated (names.innermost n) ∷ []) (objects.declared_components number is mark initial n.regions x)
  components_declared base t n name number frames outer full x is mark initial inside h =
      let here : Scope = outer ++ elaborated (names.innermost n) ∷ [] in
      let level = (names.innermost n).level + 1 in
      let there : Instance = own_instance level number Outside in
      let frame : Region = named.object_frame n in
      let ps = x.around.parts in
      let rest = objects.further_out x n.regions in
      let s : Option Subtype = d.subtype_meant (objects.component_meant is mark x.own rest) in
      let k : PartKind = part.Component s in
      let qs = objects.component_parts number is k in
      let place : Place = names.hiding is (names.place_in x.own rest) in
      let v : tree.ValueExpression = d.initial_value initial s place in
      let one : (e : Elaborated) → 1 + length x.values ≤ e.cells → ValueScoped plan v (here ++ e ∷ []) = λ e more.
      let scope : Scope = here ++ e ∷ [] in
      let known : Known = when false (seen plan entries x.tables) in
      initial_scoped known scope place (regions_see known scope place (own_regions base t n name number frames outer full e x inside h (omega (arith, more)) (omega (arith, more, h.cells)))) initial s in
      let leveled = own_level n number ps x.own h.own in
      let own_is : objects.with_all_parts is k (own_instance x.own.level number Outside) x.own ≡ with_parts there (ps ++ qs) frame =
      ap (λ l. objects.with_all_parts is k (own_instance l number Outside) x.own) leveled ∙ ap (objects.with_all_parts is k there) h.own ∙ all_parts number level is k (with_parts there ps frame) ∙ sym (parts_append there ps qs frame) in
      let same_units : awaited_parts number (ps ++ qs) ≡ awaited_parts number ps ++ [] = awaited_append number ps qs ∙ ap (λ l. awaited_parts number ps ++ l) (none_await number s is) in
      let count : length (x.values ++ map (λ i. v) is) ≡ length x.values + length is = omega (arith, length-append x.values (map (λ i. v) is), length-map is (λ (i : Ident). v)) in
      record {
        own = own_is;
        around = ap (objects.with_object_parts qs) h.around;
        its = of_object_append number ps qs h.its (components_of number is k);
        are = parts_are_append plan entries base x.tables frames number ps qs h.are (components_are base x.tables frames number s is);
        values = values_append plan x.values (map (λ i. v) is) own_number here (1 + length x.values) (omega arith) h.values (λ e more. same_values plan v is e here (1 + length x.values) more one);
        count = h.count;
        levels = h.levels;
        cells = omega (arith, all_cells is k (own_instance x.own.level number Outside) x.own, h.cells, count);
        grows = h.grows;
        waits = λ m after before. subst (IsUnitOf m) (sym same_units) (unit_of_append m (awaited_parts number ps) [] (h.waits m after before));
        stays = h.stays;
        barred = h.barred;
      }

  pub items_declared : (base : ℕ) (t : Tables) (n : Place) (name : List ℕ) (number : ℕ) (frames outer : Scope) (full : Elaborated) (x : ObjectDeclared) (xs : List plain.PrivateItem) → base ≤ length t.units → InBody (seen plan entries t) outer full n → Declaring base t n name number frames (outer ++ elaborated (names.innermost n) ∷ []) x
      → Ready entries x.tables (in_items number xs n.regions x frames) → InPlan plan t (objects.declared_items number xs n.regions x).tables → Declaring base t n name number frames (outer ++ elaborated (names.innermost n) ∷ []) (objects.declared_items number xs n.regions x)
  items_declared base t n name number frames outer full x [] after inside h r p = h
  items_declared base t n name number frames outer full x (plain.private_operation o ∷ os) after inside h r p =
      let one = objects.one_operation number true o n.regions x in
      let own : Entry = of_operation (operation_profile o n.regions x) frames in
      let rest = in_items number os n.regions one frames in
      let first = one_declared base t n name number frames (outer ++ elaborated (names.innermost n) ∷ []) x true o rest after h r (first_in_plan plan t one.tables (objects.declared_items number os n.regions one).tables (items_grow number os n.regions one) p) in
      items_declared base t n name number frames outer full one os after inside first (second_ready entries x.tables one.tables (own ∷ []) rest (operation_grows number true o n.regions x) (operation_counted number true o n.regions x) r) p
  items_declared base t n name number frames outer full x (plain.components first others mark initial ∷ os) after inside h r p =
      items_declared base t n name number frames outer full (objects.declared_components number (first ∷ others) mark initial n.regions x) os after inside (components_declared base t n name number frames outer full x (first ∷ others) mark initial inside h) r p

  -- In the bodies of an object its own frame is the innermost.

  pub body_frames : (access : Access) (name : List ℕ) (object : ℕ) (n : Place) → elaborated (names.innermost (named.object_place name object access n)) ≡ own_frame object (names.innermost n).parts
  body_frames access name object n = its_frame object ((names.innermost n).level + 1) access (names.innermost n).parts (named.object_frame n) refl refl refl

  pub body_fits : (base : ℕ) (t : Tables) (access : Access) (name : List ℕ) (object : ℕ) (n : Place) (scope : Scope) (e : Elaborated) → names.is_inside access ≡ true → own_frame object (names.innermost n).parts ≡ e → 1 ≤ e.cells → (names.innermost n).level + 1 ≡ length scope → RegionsScoped (seen plan entries t) scope n.regions
      → PartsAre plan entries base t (scope ++ e ∷ []) object (names.innermost n).parts → Fits (seen plan entries t) (scope ++ e ∷ []) (named.object_place name object access n)
  body_fits base t access name object n scope e within same some leveled around are =
      let level = (names.innermost n).level + 1 in
      let there : Instance = own_instance level object access in
      let frame : Region = named.object_frame n in
      let ps = (names.innermost n).parts in
      let known : Known = seen plan entries t in
      let here : Scope = scope ++ e ∷ [] in
      let r : Region = with_parts there ps frame in
      let whole : elaborated r ≡ e = body_frames access name object n ∙ same in
      let reach : Reached (names.is_inside access) here here = subst (λ b. Reached b here here) (sym within) (open_further scope e e (omega arith)) in
      let inner : length here ≡ level + 1 = omega (arith, leveled, length_push scope e) in
      let at : NamesHere plan entries true access (names.own_cell level) here here = record {
        reach = λ z. reach;
        around = λ z. around_open scope here e (open_within scope e);
        named = λ z. subst (λ b. NamedBy b (names.own_cell level) here) (sym within) (refl, inner);
      } in
      let none : SymbolsScoped known here frame.symbols = All-nil (λ (s : Symbol). MeaningScoped known here s.1) in
      let own_symbols : SymbolsScoped known here r.symbols = parts_added plan entries base t here scope e true object level access ps frame refl leveled some at (omega (arith, ap (λ (z : Elaborated). z.cells) whole)) are none in
      let own_entries : EntriesThere known r.entries = subst (EntriesThere known) (sym (parts_entries there ps frame)) tt in
      let own_parts : PartsThere known here r.parts = subst (PartsThere known here) (sym (parts_parts there ps frame)) tt in
      let around_is = All-from_recursion (λ (s : Symbol). MeaningScoped known here s.1) (named.around_object name there n).symbols ((own_number_there scope e level leveled some, λ f z. let no : true ≡ false = sym within ∙ f in cc), tt) in
      record {
        regions = ((own_symbols, own_entries, own_parts), ((around_is, tt, tt), regions_more known scope e n.regions around));
        level = omega (arith, leveled, parts_level there ps frame, length_push scope e);
      }

  -- Barriers see no formals.

  Blank : Known → Scope → Region → Type 0
  Blank known scope r = SymbolsScoped known scope r.symbols × EntriesThere known r.entries × PartsThere known scope r.parts

  one_barred : (known : Known) (scope : Scope) (name : List ℕ) (r : Region) → Blank known scope r → Blank known scope (named.one_barred name r)
  unfolding Blank
  one_barred known scope name r h =
      either (λ (z : Region). SymbolsScoped known scope z.symbols × EntriesThere known z.entries × PartsThere known scope z.parts) (names.is_declared name r.symbols) r (record r { symbols = r.symbols ++ (name, meaning.Barred) ∷ [] }) h
      (All-push (λ (s : Symbol). MeaningScoped known scope s.1) r.symbols (name, meaning.Barred) h.0 tt, h.1, h.2)

  all_barred : (known : Known) (scope : Scope) (ss : List Symbol) (r : Region) → Blank known scope r → Blank known scope (named.with_barred ss r)
  all_barred known scope [] r h = h
  all_barred known scope (s ∷ ss) r h = all_barred known scope ss (named.one_barred s.0 r) (one_barred known scope s.0 r h)

  pub barrier_sees : (known : Known) (scope : Scope) (formals : Region) (n : Place) → RegionsScoped known scope n.regions → Sees known scope (named.barrier_place formals n)
  unfolding Blank
  barrier_sees known scope formals n h =
      let r : Region = names.empty_region (names.innermost n).level in
      let own : Blank known scope (named.with_barred formals.symbols r) = all_barred known scope formals.symbols r (All-nil (λ (s : Symbol). MeaningScoped known scope s.1), tt, tt) in
      regions_see known scope (named.barrier_place formals n) (own, h)

-- A body without faults is of an operation or entry that waits for it.

pub both_true : (a b : Bool) → a && b ≡ true → (a ≡ true) × (b ≡ true)
both_true true true h = (refl, refl)
both_true true false h = cc
both_true false b h = cc

pub fine_if : (b : Bool) (f : Fault) → rules.unless b f ≡ [] → b ≡ true
fine_if true f h = refl
fine_if false f h = cc

pub conform_length : (ps qs : List NamedParameter) → rules.conform ps qs ≡ true → length ps ≡ length qs
conform_length [] [] h = refl
conform_length [] (q ∷ qs) h = cc
conform_length (p ∷ ps) [] h = cc
conform_length (p ∷ ps) (q ∷ qs) h = ap suc (conform_length ps qs (both_true (bytes_eq p.name q.name && rules.same_parameter p.parameter q.parameter) (rules.conform ps qs) h).1)

module _ (plan : Plan) (entries : List Entry) where
  pub awaited_is : (base : ℕ) (t : Tables) (frames : Scope) (head : Head) (awaited : List AwaitedPart) (c : Option Part) (k : PartKind) → IfSome c (λ p. PartIs plan entries base t frames p.kind) → operations.if_awaited head awaited c ≡ Some k → PartIs plan entries base t frames k × (operations.same_kind head k ≡ true)
  awaited_is base t frames head awaited None k h e = cc
  awaited_is base t frames head awaited (Some p) k h e = by (operations.same_kind head p.kind) refl (is_some (named.first_with (named.is_unit (operations.part_unit p.kind)) awaited)) e
    where
      by : (a : Bool) → operations.same_kind head p.kind ≡ a → (b : Bool) → (if a && b then Some p.kind else None) ≡ Some k → PartIs plan entries base t frames k × (operations.same_kind head k ≡ true)
      by true s true e =
          let same : p.kind ≡ k = cc in
          subst (λ z. PartIs plan entries base t frames z × (operations.same_kind head z ≡ true)) same (h, s)
      by true s false e = cc
      by false s b e = cc

  -- its unit
  pub record Own (base : ℕ) (t : Tables) (frames : Scope) (unit : ℕ) (profile : List NamedParameter) : Type 0 where
    pub after : base ≤ unit
    pub before : unit < length t.units
    pub formals : length profile ≡ (entry_of entries unit).formals
    pub outer : (entry_of entries unit).outer ≡ frames

  no_component : (head : Head) (s : Option Subtype) → operations.same_kind head (part.Component s) ≡ true → ⊥
  no_component (of_entry barrier) s h = cc
  no_component of_procedure s h = cc
  no_component (of_function mark) s h = cc

  pub common : (base : ℕ) (t : Tables) (frames : Scope) (head : Head) (k : PartKind) → operations.same_kind head k ≡ true → PartIs plan entries base t frames k → Own base t frames (operations.part_unit k) (operations.part_profile k t)
  common base t frames head (part.Entry number unit) s h = record { after = h.after; before = h.before; formals = h.formals; outer = h.outer }
  common base t frames head (part.Operation unit subprogram) s h = record { after = h.after; before = h.before; formals = h.formals; outer = h.outer }
  common base t frames head (part.Component x) s h = absurd (no_component head x s)

  pub each_same : (base : ℕ) (P : ℕ → Type 0) (t u : Tables) → u.units ≡ t.units → EachIs plan entries base P t → EachIs plan entries base P u
  each_same base P t u e h = (
    omega (arith, h.0, ap length e),
    λ n after before. subst (λ z. IsUnit plan entries z n ⊎ P n) (ap (λ l. slice_index_or l n no_body) (sym e)) (h.1 n after (omega (arith, before, ap length e))),
  )

  -- its barrier
  pub barrier_barred : (base : ℕ) (t : Tables) (frames : Scope) (head : Head) (k : PartKind) (formals : Region) (here : Place) → RegionsScoped (seen plan entries t) frames here.regions → PartIs plan entries base t frames k → Barred plan entries t → Barred plan entries (operations.barrier_kept (Some k) (operations.barrier_of head formals here) t)
  barrier_barred base t frames (of_entry barrier) (part.Entry number unit) formals here around h b =
      let known : Known = seen plan entries t in
      let fine : BooleanScoped plan (conditions.condition barrier (named.barrier_place formals here)) frames = condition_scoped known frames (named.barrier_place formals here) (barrier_sees plan entries known frames formals here around) barrier in
      barred_put plan entries t number (conditions.condition barrier (named.barrier_place formals here)) (subst (λ z. BooleanScoped plan (conditions.condition barrier (named.barrier_place formals here)) z) (sym (ap (λ k. (entry_of entries k).outer) h.own ∙ h.outer)) fine) b
  barrier_barred base t frames of_procedure (part.Entry number unit) formals here around h b = b
  barrier_barred base t frames (of_function mark) (part.Entry number unit) formals here around h b = b
  barrier_barred base t frames head (part.Operation unit subprogram) formals here around h b = b
  barrier_barred base t frames head (part.Component x) formals here around h b = b
