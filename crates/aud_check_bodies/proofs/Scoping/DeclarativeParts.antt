-- Declarations of variables, exceptions, procedures and tasks without faults use what is elaborated, or there.
use Rattle.std.proofs.Common.{◌≡◌, ◌+◌, ◌<◌, ◌≤◌, ℕ, Bool, true, false, List, [], ◌∷◌, ◌++◌, length, slice_index_or, Option, Some, None, arith, refl, sym, ◌∙◌, ap, subst}
use Rattle.std.proofs.lemmas.List.{length_push, get_or_push}
use Rattle.aud_text.specs.declared.place.Pos.{Pos}
use Rattle.aud_syntax.specs.declared.tree.Bound.{Bound}
use Rattle.aud_syntax.specs.declared.tree.Ident.{Ident}
use Rattle.aud_syntax.specs.Plain as plain
use Rattle.aud_typed.specs.Tree as tree
use Rattle.aud_typed.specs.Tree.{Plan}
use Rattle.aud_typed.specs.Why.Scoped.{Scope, no_task, no_entry_plan, table, Elaborated, Entry, entry_of, all_formals, AreOpen, BodyScoped, UnitScoped}
use Rattle.aud_names.specs.declared.names.NamedParameter.{NamedParameter}
use Rattle.aud_names.specs.declared.awaited.Awaited.{Awaited}
use Rattle.aud_names.specs.declared.array.Kind.TheVariants.{Protected}
use Rattle.aud_names.specs.declared.entries.EntryName.{EntryName}
use Rattle.aud_names.specs.Names as names
use Rattle.aud_names.specs.Names.{Region, Place}
use Rattle.aud_names.specs.Rules as rules
use Rattle.aud_check_bodies.specs.Tables.{Tables, Outcome, entry_at, no_body, region_kept, unit_kept, with_unit, task_kept}
use Rattle.aud_check_bodies.specs.Entries as declared
use Rattle.aud_check_bodies.specs.Objects as objects
use Rattle.aud_check_bodies.specs.Declarations as d
use Rattle.aud_check_bodies.specs.Formals.{body_formals}
use Rattle.aud_check_bodies.specs.Tasks as tasks
use Rattle.aud_check_bodies.specs.Statements as s
use Rattle.aud_check_bodies.specs.Statements.{Around, nothing_around, task_around}
use Rattle.aud_check_bodies.proofs.Scoping.Names.{when, IsCallable, IsTaskType, EntriesThere, RegionsScoped, either, regions_more, open_further}
use Rattle.aud_check_bodies.proofs.Scoping.Declarations.{waits_in, elaborated, both_none, RegionScoped, empty_scoped, InBody, DeclaredScoped, body_regions, objects_scoped, objects_more, objects_awaited, arrays_scoped, arrays_more, arrays_awaited, exceptions_scoped, exceptions_cells, exceptions_awaited, procedure_scoped, procedure_elaborates, procedure_cells, procedure_awaited, formals_scoped, formals_awaited, task_scoped, task_more, task_waits, in_task, task_frame, task_begins}
use Rattle.aud_check_bodies.proofs.Scoping.Tables.{same, put_grows, further, unit_grows, task_grows}
use Rattle.aud_check_bodies.proofs.Scoping.EntryTables.{entries_grow, entries_units, entries_tasks, entries_numbered, Numbered}
use Rattle.aud_check_bodies.proofs.Scoping.ConstructTables.{entered_grows, declaration_grows, declarations_grow}
use Rattle.aud_check_bodies.proofs.Scoping.Plans.{seen, InPlan, first_in_plan, second_in_plan}
use Rattle.aud_check_bodies.proofs.Scoping.Entries.{of_task, of_body, in_entered, in_declaration, in_declarations, declaration_counted, Ready, first_ready, second_ready}
use Rattle.aud_check_bodies.proofs.Scoping.Elaborations.{elaborates_append, AllCreated, none_created, created_append, created_with}
use Rattle.aud_check_bodies.proofs.Scoping.Units.{no_fault, found_unit, Waits, Stay, IsUnit, Units, Barred, barred_push, none_between, body_grown, units_put, InPart, part_goes_on, part_with_task, part_with_body}
use Rattle.aud_check_bodies.proofs.Scoping.Constructs.{BodyFine, DeclarationsFine, DeclarationFine}
use Rattle.aud_check_bodies.proofs.Scoping.Bodies.{counted_frame, entering_fine}

names_of_profile : (t : Tables) (profile : List NamedParameter) → length t.profiles ≡ length t.units → slice_index_or (unit_kept profile t).profiles (length t.units) [] ≡ profile
names_of_profile t profile even = get_or_push t.profiles profile [] (length t.units) even

-- Declarations only add cells to the frame of their region.

one_widens : (x : plain.Declaration) (n : Place) (t : Tables) → (names.innermost n).cells ≤ (names.innermost (s.checked_declaration x n t).made.place).cells
one_widens (plain.object first others mark initial) n t = objects_more (first ∷ others) first.at mark initial false n
one_widens (plain.constant first others mark value) n t = objects_more (first ∷ others) first.at mark (plain.an_expression value) true n
one_widens (plain.array first others low high mark) n t = arrays_more (first ∷ others) first.at low high mark n
one_widens (plain.exception first others) n t = omega (arith, exceptions_cells (first ∷ others) (d.exceptions_in n t.exceptions))
one_widens (plain.procedure at i fs ds b) n t = omega (arith, procedure_cells i (length t.units) (names.innermost n))
one_widens (plain.task at is_type i x) n t = task_more is_type i (length t.tasks) (length t.units) (names.innermost n)
one_widens (plain.task_body at i ds b) n t = omega arith
one_widens (plain.protected at i operations hidden last) n t =
    either (λ (z : Region). (names.innermost n).cells ≤ z.cells) (names.is_declared i.name (names.innermost n).symbols) (names.innermost n) (objects.awaiting_object i (length t.objects) (d.with_symbol i.name (Protected (length t.objects)) (names.innermost n))) (omega arith) (omega arith)
one_widens (plain.protected_body at i inner last) n t = omega arith

declarations_widen : (xs : plain.Declarations) (n : Place) (t : Tables) → (names.innermost n).cells ≤ (names.innermost (s.checked_declarations xs n t).made.place).cells
declarations_widen plain.no_declarations n t = omega arith
declarations_widen (plain.more_declarations x xs) n t =
    let first = s.checked_declaration x n t in
    omega (arith, one_widens x n t, declarations_widen xs first.made.place first.tables)

module _ (plan : Plan) (entries : List Entry) where
  -- what is created does not ask which procedures and entries are known
  created_anywhere : (t u : Tables) (scope : Scope) (xs : List tree.Statement) → AllCreated (seen plan entries t) scope xs → AllCreated (seen plan entries u) scope xs
  created_anywhere t u scope xs h = created_with (seen plan entries t) u.profiles u.entry_profiles scope xs h

  come_scoped : (t : Tables) (outer : Scope) (full : Elaborated) (name : List ℕ) (r : Region) → RegionScoped (seen plan entries t) outer full r → RegionScoped (seen plan entries t) outer full (names.body_come name r)
  come_scoped t outer full name r h = record { level = h.level; symbols = h.symbols; named = h.named; celled = h.celled; entries = h.entries; parts = h.parts }

  pub joined_fine : (x : plain.Declaration) (xs : plain.Declarations) (n : Place) (t : Tables) (outer : Scope) (full : Elaborated) (base : ℕ)
      → ((m : Place) (u : Tables) → DeclarationFine plan entries x m u outer full base) → ((m : Place) (u : Tables) → DeclarationsFine plan entries xs m u outer full base) → DeclarationsFine plan entries (plain.more_declarations x xs) n t outer full base
  unfolding DeclarationFine DeclarationsFine
  joined_fine x xs n t outer full base f g = λ inside part enough p r q.
      let first = s.checked_declaration x n t in
      let second = s.checked_declarations xs first.made.place first.tables in
      let parts = both_none first.faults (second.faults ++ []) q in
      let g1 = declaration_grows x n t in
      let g2 = declarations_grow xs first.made.place first.tables in
      let scope : Scope = outer ++ full ∷ [] in
      let e1 = in_declaration x n t scope in
      let e2 = in_declarations xs first.made.place first.tables scope in
      let wider = declarations_widen xs first.made.place first.tables in
      let one = f n t inside part (omega (arith, enough, wider)) (first_in_plan plan t first.tables second.tables g2 p) (first_ready entries t e1 e2 r) parts.0 in
      let two = g first.made.place first.tables one.0.0 one.1 enough (second_in_plan plan t first.tables second.tables g1 p) (second_ready entries t first.tables e1 e2 g1 (declaration_counted x n t scope) r) (both_none second.faults [] parts.1).0 in (
        (
          two.0.0,
          omega (arith, one.0.1, two.0.1),
          elaborates_append (seen plan entries second.tables) first.made.elaborations second.made.elaborations _ _ _ one.0.2 two.0.2,
          created_append (seen plan entries second.tables) scope first.made.elaborations second.made.elaborations (created_anywhere first.tables second.tables scope first.made.elaborations one.0.3) two.0.3,
        ),
        two.1,
        λ k lt. two.2 k lt ∙ one.2 k lt,
        λ b. two.3 (one.3 b),
      )

  pub object_fine : (first : Ident) (others : List Ident) (mark : Ident) (initial : plain.MaybeExpression) (n : Place) (t : Tables) (outer : Scope) (full : Elaborated) (base : ℕ) → DeclarationFine plan entries (plain.object first others mark initial) n t outer full base
  unfolding DeclarationFine
  object_fine first others mark initial n t outer full base = λ inside part enough p r q.
      let more = objects_more (first ∷ others) first.at mark initial false n in
      let stays = part_goes_on plan entries base (outer ++ full ∷ []) (waits_in (names.innermost n)) _ t t (objects_awaited (first ∷ others) first.at mark initial false n) (same t) (none_between plan entries t) part in
      (objects_scoped (seen plan entries t) outer full first others first.at mark initial false n q (omega (arith, more, enough)) inside, stays.0, stays.1, λ b. b)

  pub constant_fine : (first : Ident) (others : List Ident) (mark : Ident) (value : plain.Expression) (n : Place) (t : Tables) (outer : Scope) (full : Elaborated) (base : ℕ) → DeclarationFine plan entries (plain.constant first others mark value) n t outer full base
  unfolding DeclarationFine
  constant_fine first others mark value n t outer full base = λ inside part enough p r q.
      let initial = plain.an_expression value in
      let more = objects_more (first ∷ others) first.at mark initial true n in
      let stays = part_goes_on plan entries base (outer ++ full ∷ []) (waits_in (names.innermost n)) _ t t (objects_awaited (first ∷ others) first.at mark initial true n) (same t) (none_between plan entries t) part in
      (objects_scoped (seen plan entries t) outer full first others first.at mark initial true n q (omega (arith, more, enough)) inside, stays.0, stays.1, λ b. b)

  pub array_fine : (first : Ident) (others : List Ident) (low high : Bound) (mark : Ident) (n : Place) (t : Tables) (outer : Scope) (full : Elaborated) (base : ℕ) → DeclarationFine plan entries (plain.array first others low high mark) n t outer full base
  unfolding DeclarationFine
  array_fine first others low high mark n t outer full base = λ inside part enough p r q.
      let more = arrays_more (first ∷ others) first.at low high mark n in
      let stays = part_goes_on plan entries base (outer ++ full ∷ []) (waits_in (names.innermost n)) _ t t (arrays_awaited (first ∷ others) first.at low high mark n) (same t) (none_between plan entries t) part in
      (arrays_scoped (seen plan entries t) outer full (first ∷ others) first.at low high mark n q (omega (arith, more, enough)) inside, stays.0, stays.1, λ b. b)

  pub exception_fine : (first : Ident) (others : List Ident) (n : Place) (t : Tables) (outer : Scope) (full : Elaborated) (base : ℕ) → DeclarationFine plan entries (plain.exception first others) n t outer full base
  unfolding DeclarationFine
  exception_fine first others n t outer full base = λ inside part enough p r q.
      let u = (d.checked_exceptions (first ∷ others) n t).tables in
      let none : Units plan entries t u = (omega arith, λ k after before. absurd (omega (arith, after, before)), λ k lt. refl, λ b. b) in
      let stays = part_goes_on plan entries base (outer ++ full ∷ []) (waits_in (names.innermost n)) _ t u (exceptions_awaited (first ∷ others) (d.exceptions_in n t.exceptions)) (declaration_grows (plain.exception first others) n t) none part in
      (exceptions_scoped (seen plan entries t) outer full (first ∷ others) n t q p.exceptions inside, stays.0, stays.1, λ b. b)

  pub procedure_fine : (at : Pos) (i : Ident) (fs : List plain.Formal) (ds : plain.Declarations) (b : plain.Body) (n : Place) (t : Tables) (outer : Scope) (full : Elaborated) (base : ℕ)
      → ((m : Place) (u : Tables) (scope : Scope) (all : Elaborated) (first : ℕ) → DeclarationsFine plan entries ds m u scope all first) → ((within : Around) (m : Place) (u : Tables) (inner : Scope) → BodyFine plan entries b within m u inner) → DeclarationFine plan entries (plain.procedure at i fs ds b) n t outer full base
  unfolding DeclarationFine
  procedure_fine at i fs ds b n t outer full base f g = λ inside part enough p r q.
      let number = length t.units in
      let before = names.innermost n in
      let here : Place = s.procedure_place i n t in
      let formals = body_formals fs n in
      let kept : Tables = unit_kept formals.profile t in
      let inner : Place = names.place_in formals.region here.regions in
      let scope : Scope = outer ++ full ∷ [] in
      let own : Entry = record { formals = length formals.profile; outer = scope } in
      let o = s.entered_body false ds b nothing_around inner kept in
      let unit = s.checked_unit false at i.name ds b inner kept in
      let rest = in_entered ds b nothing_around inner kept scope in
      let once = rules.declared_once i.name i.at before.symbols in
      let parts = both_none (formals.faults ++ once) (unit.faults ++ []) q in
      let heads = both_none formals.faults once parts.0 in
      let stated = both_none o.faults (rules.right_name_at_end i.name (s.end_name b) ++ []) (both_none unit.faults [] parts.1).0 in
      let g0 = unit_grows formals.profile t in
      let g1 = entered_grows false ds b nothing_around inner kept in
      let first_entry : entry_of entries number ≡ own = ap (entry_of entries) (omega arith) ∙ r.each 0 (omega arith) in
      let is_own = names_of_profile t formals.profile r.even in
      let callable : (c : Bool) (e1 : Elaborated) → (c ≡ true → full.cells ≤ e1.cells) → IsCallable (when c (seen plan entries kept)) (outer ++ e1 ∷ []) number = λ c e1 all. record {
        declared = omega (arith, r.even, length_push t.profiles formals.profile);
        entered = omega (arith, r.long);
        formals = ap length is_own ∙ ap (λ z. z.formals) (sym first_entry);
        outer = λ z. subst (λ y. AreOpen y.outer (outer ++ e1 ∷ [])) (sym first_entry) (open_further outer full e1 (all z));
      } in
      let known_before = body_grown plan entries t kept outer full n g0 inside in
      let same_frame : elaborated (names.innermost here) ≡ elaborated before = procedure_elaborates i number before in
      let same_cells : (names.innermost here).cells ≡ before.cells = ap (λ z. z.cells) same_frame in
      let behind_name : InBody (seen plan entries kept) outer full here = record { innermost = procedure_scoped (seen plan entries kept) outer full i number before callable heads.1 known_before.innermost; others = λ c e1 more. known_before.others c e1 (omega (arith, more, same_cells)) } in
      let around : (c : Bool) → RegionsScoped (when c (seen plan entries kept)) scope here.regions = λ c. body_regions (seen plan entries kept) outer full c here full behind_name enough (λ z. omega arith) in
      let level : before.level + 1 ≡ length scope = omega (arith, known_before.innermost.level, length_push outer full) in
      let formed = λ (all : Elaborated). formals_scoped (seen plan entries kept) scope all fs (names.body_frame n) n.regions heads.0 (empty_scoped (seen plan entries kept) scope all _ level) in
      let begun : elaborated formals.region ≡ all_formals (length formals.profile) = counted_frame formals.region.names formals.region.cells (length formals.profile) (formed full).1 (formed full).2 in
      let within : (all : Elaborated) → InBody (seen plan entries kept) scope all inner = λ all. record { innermost = (formed all).0; others = λ c e1 more. regions_more (when c (seen plan entries kept)) scope e1 here.regions (around c) } in
      let ready = second_ready entries t kept (own ∷ []) rest g0 (length_push t.units no_body) r in
      let nothing_waits = formals_awaited fs (names.body_frame n) n.regions in
      let body = entering_fine plan entries false ds b nothing_around inner kept scope (f inner (region_kept kept) scope) (g nothing_around) within nothing_waits (record { regions = p.regions; exceptions = p.exceptions; objects = p.objects; entries = p.entries; tasks = p.tasks }) ready stated.0 in
      let whole : IsUnit plan entries unit.made number =
      subst (λ z. UnitScoped plan entries (tree.unit_plan unit.made) unit.made.body z) (sym first_entry) ((formed full).0.level, subst (λ z. BodyScoped plan entries o.made z (table plan (length t.regions)) scope) begun body.0) in
      let stays = part_goes_on plan entries base scope (waits_in before) (waits_in (names.innermost here)) t (with_unit number unit.made o.tables) (procedure_awaited i number before) (put_grows number unit.made t o.tables (further {u = kept} g0 g1)) (units_put plan entries formals.profile t o.tables unit.made whole body.1) part in
      ((body_grown plan entries kept o.tables outer full here g1 behind_name, omega (arith, same_cells), ap (λ z. outer ++ z ∷ []) (sym same_frame), none_created (seen plan entries o.tables) scope), stays.0, stays.1, λ z. body.1.3 z)

  -- tasks

  entries_in_plan : (xs : List EntryName) (u : Tables) → ((n : ℕ) → n < length u.entries → (n < length plan.entries) × (slice_index_or plan.entries n no_entry_plan ≡ tree.plan_of_entry (entry_at n u))) → Numbered xs u → EntriesThere (seen plan entries u) xs
  entries_in_plan [] u e h = tt
  entries_in_plan (x ∷ xs) u e h =
      let there = e x.number h.0.0 in
      let formals = h.0.3 ∙ sym (ap (λ (z : tree.EntryPlan). z.formals) there.1) in
      (((there.0, h.0.2, formals), ap (λ (z : tree.EntryPlan). z.unit) there.1 ∙ h.0.1), entries_in_plan xs u e h.1)

  -- barriers of tasks' entries are True

  one_entry_barred : (number : ℕ) (x : plain.EntryDeclaration) (outer : List Region) (es : declared.Entries) → Barred plan entries es.tables → Barred plan entries (declared.one_entry number x outer es).tables
  one_entry_barred number x outer es h =
      let made = declared.entry_added number x.name.name (declared.entry_formals x es.own outer).profile es in
      either (λ (z : declared.Entries). Barred plan entries z.tables) (names.is_declared x.name.name es.own.symbols) es made h (barred_push plan entries es.tables made.tables (tree.task_entry x.name.name (length (declared.entry_formals x es.own outer).profile)) refl refl (λ some. absurd (omega (arith, some))) h)

  entries_barred : (number : ℕ) (xs : List plain.EntryDeclaration) (outer : List Region) (es : declared.Entries) → Barred plan entries es.tables → Barred plan entries (declared.declared_entries number xs outer es).tables
  entries_barred number [] outer es h = h
  entries_barred number (x ∷ xs) outer es h = entries_barred number xs outer (declared.one_entry number x outer es) (one_entry_barred number x outer es h)

  pub task_fine : (at : Pos) (is_type : Bool) (i : Ident) (x : Option plain.TaskDefinition) (n : Place) (t : Tables) (outer : Scope) (full : Elaborated) (base : ℕ) → DeclarationFine plan entries (plain.task at is_type i x) n t outer full base
  unfolding DeclarationFine
  task_fine at is_type i x n t outer full base = λ inside part enough p r q.
      let before = names.innermost n in
      let number = length t.tasks in
      let unit = length t.units in
      let here : Place = tasks.place_named is_type i n t in
      let xs = declared.entries_of x in
      let start = declared.no_entries (names.body_frame here) t in
      let es = declared.declared_entries number xs here.regions start in
      let numbers = declared.entry_numbers es.names in
      let u : Tables = task_kept numbers es.tables in
      let scope : Scope = outer ++ full ∷ [] in
      let heads = both_none (rules.declared_once i.name i.at before.symbols ++ (tasks.task_entries_faults x here t ++ rules.right_name_at_end i.name (tasks.name_behind x))) [] q in
      let once = (both_none (rules.declared_once i.name i.at before.symbols) (tasks.task_entries_faults x here t ++ rules.right_name_at_end i.name (tasks.name_behind x)) heads.0).0 in
      let same_units : es.tables.units ≡ t.units = entries_units number xs here.regions start in
      let same_tasks : es.tables.tasks ≡ t.tasks = entries_tasks number xs here.regions start in
      let own_plan : ℕ → tree.TaskPlan = λ k. record { unit = k; entries = numbers } in
      let listed : u.tasks ≡ t.tasks ++ own_plan (length es.tables.units) ∷ [] = ap (λ l. l ++ own_plan (length es.tables.units) ∷ []) same_tasks in
      let planned = p.tasks number (omega (arith, ap length listed, length_push t.tasks (own_plan (length es.tables.units)))) in
      let own_unit : (slice_index_or plan.tasks number no_task).unit ≡ unit =
      ap (λ z. z.unit) (planned.1 ∙ ap (λ l. slice_index_or l number no_task) listed ∙ get_or_push t.tasks (own_plan (length es.tables.units)) no_task number refl) ∙ ap length same_units in
      let entry : entry_of entries unit ≡ of_task scope = ap (entry_of entries) (omega arith) ∙ r.each 0 (omega arith) in
      let there : unit < length entries = omega (arith, r.long) in
      let its_entry : entry_of entries (slice_index_or plan.tasks number no_task).unit ≡ of_task scope = ap (entry_of entries) own_unit ∙ entry in
      let begins : (c : Bool) (e1 : Elaborated) → (c ≡ true → full.cells ≤ e1.cells) → IsTaskType (when c (seen plan entries u)) (outer ++ e1 ∷ []) number = λ c e1 all. record {
        declared = planned.0;
        entered = omega (arith, own_unit, there);
        alone = ap (λ z. z.formals) its_entry;
        outer = λ z. subst (λ y. AreOpen y.outer (outer ++ e1 ∷ [])) (sym its_entry) (open_further outer full e1 (all z));
      } in
      let grown = further {u = es.tables} (entries_grow number xs here.regions start) (task_grows numbers es.tables) in
      let known_before = body_grown plan entries t u outer full n grown inside in
      let all_there : EntriesThere (seen plan entries u) es.names = entries_in_plan es.names es.tables p.entries (entries_numbered number xs here.regions start r.even_entries tt) in
      let scoped = task_scoped (seen plan entries u) outer full at is_type i number unit es.names n begins all_there once known_before in
      let a : Awaited = record { name = i.name; task_type = number; unit = unit; at = i.at } in
      let waits : waits_in (tasks.with_task is_type i number unit before) ≡ record (waits_in before) { tasks = before.awaited ++ a ∷ [] } = task_waits is_type i number unit before once in
      let stays = part_with_task plan entries base scope (waits_in before) a t u grown (ap (λ l. l ++ no_body ∷ []) same_units) refl there entry part in
      (scoped, subst (λ l. InPart plan entries base scope l u) (sym waits) stays.0, stays.1, λ z. entries_barred number xs here.regions start z)

  pub task_body_fine : (at : Pos) (i : Ident) (ds : plain.Declarations) (b : plain.Body) (n : Place) (t : Tables) (outer : Scope) (full : Elaborated) (base : ℕ)
      → ((m : Place) (u : Tables) (scope : Scope) (all : Elaborated) (first : ℕ) → DeclarationsFine plan entries ds m u scope all first) → ((within : Around) (m : Place) (u : Tables) (inner : Scope) → BodyFine plan entries b within m u inner) → DeclarationFine plan entries (plain.task_body at i ds b) n t outer full base
  unfolding DeclarationFine
  task_body_fine at i ds b n t outer full base f g = λ inside part enough p r q. by (tasks.task_awaited i n) refl inside part enough p r q
    where
      scope : Scope
      scope = outer ++ full ∷ []

      here : Place
      here = tasks.place_behind i n

      inner : Option Awaited → Place
      inner found = names.task_place i.name (tasks.body_task found t) here

      checked : Place → Tables → Outcome tree.UnitBody
      checked m u = s.checked_unit true at i.name ds b m u

      whole : Option Awaited → Outcome d.Declared
      whole found = tasks.task_body_of i found checked here t

      front : Option Awaited → List Entry
      front found = of_body found scope ++ in_entered ds b task_around (inner found) (tasks.body_tables found t) scope

      by : (found : Option Awaited) → tasks.task_awaited i n ≡ found → InBody (seen plan entries t) outer full n → InPart plan entries base scope (waits_in (names.innermost n)) t → (names.innermost n).cells ≤ full.cells → InPlan plan t (whole found).tables → Ready entries t (front found) → (whole found).faults ≡ []
          → DeclaredScoped (seen plan entries (whole found).tables) outer full n (whole found).made × InPart plan entries base scope (waits_in (names.innermost here)) (whole found).tables × Stay base t (whole found).tables × (Barred plan entries t → Barred plan entries (whole found).tables)
      by None e inside part enough p r q = absurd (no_fault _ _ q)
      by (Some x) e inside part enough p r q =
          let own = found_unit (Waits plan entries base scope t) i.name (names.innermost n).awaited x e part.1 in
          let place : Place = inner (Some x) in
          let made = checked place t in
          let o = s.entered_body true ds b task_around place t in
          let stated = both_none o.faults (rules.right_name_at_end i.name (s.end_name b) ++ []) (both_none made.faults [] q).0 in
          let behind : InBody (seen plan entries t) outer full here = record { innermost = come_scoped t outer full i.name (names.innermost n) inside.innermost; others = inside.others } in
          let around : (c : Bool) → RegionsScoped (when c (seen plan entries t)) scope here.regions = λ c. body_regions (seen plan entries t) outer full c here full behind enough (λ z. omega arith) in
          let level : (names.innermost here).level + 1 ≡ length scope = omega (arith, behind.innermost.level, length_push outer full) in
          let within : (all : Elaborated) → InBody (seen plan entries t) scope all place = λ all. in_task (seen plan entries t) scope all i.name x.task_type here level behind.innermost.entries around in
          let body = entering_fine plan entries true ds b task_around place t scope (f place (region_kept t) scope) (g task_around) within (task_begins i.name x.task_type here) (record { regions = p.regions; exceptions = p.exceptions; objects = p.objects; entries = p.entries; tasks = p.tasks }) r stated.0 in
          let begun = task_frame (seen plan entries t) scope full i.name x.task_type here level behind.innermost.entries in
          let leveled : (names.innermost place).level ≡ length scope = (within full).innermost.level in
          let unit_fine : IsUnit plan entries made.made x.unit =
          subst (λ z. UnitScoped plan entries (tree.unit_plan made.made) made.made.body z) (sym own.3) (leveled, subst (λ z. BodyScoped plan entries o.made z (table plan (length t.regions)) scope) begun body.0) in
          let stays = part_with_body plan entries base scope i.name (waits_in (names.innermost n)) x t o.tables made.made e (put_grows x.unit made.made t o.tables (entered_grows true ds b task_around place t)) body.1 unit_fine part in
          ((body_grown plan entries t o.tables outer full here (entered_grows true ds b task_around place t) behind, omega arith, refl, none_created (seen plan entries o.tables) scope), stays.0, stays.1, λ z. body.1.3 z)

  pub no_declarations_fine : (n : Place) (t : Tables) (outer : Scope) (full : Elaborated) (base : ℕ) → DeclarationsFine plan entries plain.no_declarations n t outer full base
  unfolding DeclarationsFine
  no_declarations_fine n t outer full base = λ inside part enough p r q. ((inside, omega arith, refl, none_created (seen plan entries t) (outer ++ full ∷ [])), part, λ k lt. refl, λ b. b)
