-- Protected objects and the bodies of their operations without faults use what is elaborated, or there.
use Rattle.std.specs.List.{AllByRecursion}
use Rattle.std.proofs.Common.{◌≡◌, ◌⊎◌, ◌+◌, ◌≤◌, ℕ, suc, true, false, List, [], ◌∷◌, ◌++◌, length, slice_index_or, Option, Some, None, arith, refl, sym, ◌∙◌, ap, subst}
use Rattle.std.proofs.lemmas.List.{length_push, get_or_push}
use Rattle.aud_text.specs.declared.place.Pos.{Pos}
use Rattle.aud_syntax.specs.declared.tree.Ident.{Ident}
use Rattle.aud_syntax.specs.Plain as plain
use Rattle.aud_typed.specs.Tree as tree
use Rattle.aud_typed.specs.Tree.{Plan}
use Rattle.aud_typed.specs.Why.Scoped.{Scope, none_yet, AreAround, table, Elaborated, Entry, entry_of, entry_unit, no_object, object_level, EntriesLevel, AreDistinct, all_formals, BodyScoped, UnitScoped}
use Rattle.aud_names.specs.declared.awaited.AwaitedObject.{AwaitedObject}
use Rattle.aud_names.specs.declared.awaited.AwaitedPart.{AwaitedPart}
use Rattle.aud_names.specs.declared.names.Access.TheVariants.{Outside, Inside, InFunction}
use Rattle.aud_names.specs.declared.parts.ObjectPart.{ObjectPart}
use Rattle.aud_names.specs.declared.parts.PartKind.{PartKind}
use Rattle.aud_names.specs.declared.array.Kind.TheVariants.{Protected}
use Rattle.aud_names.specs.Objects as named_objects
use Rattle.aud_names.specs.Objects.{own_instance}
use Rattle.aud_fault.specs.declared.fault.Fault.{Fault}
use Rattle.aud_names.specs.Names as names
use Rattle.aud_names.specs.Names.{Region, Place}
use Rattle.aud_names.specs.Rules as rules
use Rattle.aud_check_bodies.specs.Regions.{shown_names}
use Rattle.aud_check_bodies.specs.Tables.{Tables, Outcome, no_body, region_kept, with_unit, object_kept}
use Rattle.aud_check_bodies.specs.Objects as objects
use Rattle.aud_check_bodies.specs.Objects.{ObjectDeclared}
use Rattle.aud_check_bodies.specs.Operations as operations
use Rattle.aud_check_bodies.specs.Operations.{Head, of_entry, of_function, BodyPlaces}
use Rattle.aud_check_bodies.specs.Declarations as d
use Rattle.aud_check_bodies.specs.Formals.{body_formals}
use Rattle.aud_check_bodies.specs.Statements as s
use Rattle.aud_check_bodies.specs.Statements.{Around}
use Rattle.aud_check_bodies.proofs.Scoping.Names.{Known, when, PartsThere, RegionsScoped, Fits, regions_more, regions_when, open_further, around_open}
use Rattle.aud_check_bodies.proofs.Scoping.Declarations.{Waiting, waits_in, not_declared, symbol_scoped, one_elaborated, others_stay, elaborated, both_none, RegionScoped, empty_scoped, InBody, DeclaredScoped, body_regions, formals_scoped, formals_awaited}
use Rattle.aud_check_bodies.proofs.Scoping.Tables.{object_kept_grows, further}
use Rattle.aud_check_bodies.proofs.Scoping.ObjectTables.{parts_distinct, operations_grow, items_grow}
use Rattle.aud_check_bodies.proofs.Scoping.ConstructTables.{operation_tables_grow, operation_body_grows, bodies_grow, entered_grows}
use Rattle.aud_check_bodies.proofs.Scoping.Plans.{seen, InPlan, first_in_plan, second_in_plan}
use Rattle.aud_check_bodies.proofs.Scoping.Entries.{of_found, bodies_scope, in_operations, in_items, in_operation, in_bodies, in_operation_of, operations_counted, barrier_kept_units, operation_body_counted, in_entered, Ready, first_ready, second_ready}
use Rattle.aud_check_bodies.proofs.Scoping.Elaborations.{Elaborates, one_created, none_created}
use Rattle.aud_check_bodies.proofs.Scoping.Units.{no_fault, found_object, no_parts_wait, ObjectWaits, Waits_in, IsUnitOf, EachIs, Stay, Barred, fits_grown, body_grown, InPart, part_with_object, part_without, part_with_bodies, each_with_body}
use Rattle.aud_check_bodies.proofs.Scoping.Alike.{own_frame, its_frame, parts_more}
use Rattle.aud_check_bodies.proofs.Scoping.Operations.{PartsAre, parts_grown, parts_there, part_in_is}
use Rattle.aud_check_bodies.proofs.Scoping.Objects as of_objects
use Rattle.aud_check_bodies.proofs.Scoping.Objects.{Declaring, all_lengths, none_declared, operations_declared, items_declared, body_frames, both_true, fine_if, conform_length, awaited_is, common, each_same, barrier_barred}
use Rattle.aud_check_bodies.proofs.Scoping.Constructs.{BodyFine, DeclarationsFine, DeclarationFine, OperationFine, BodiesFine}
use Rattle.aud_check_bodies.proofs.Scoping.Bodies.{counted_frame, entering_fine}

module _ (plan : Plan) (entries : List Entry) where
  object_fine_with : (at : Pos) (i : Ident) (hidden : Option (List plain.PrivateItem)) (n : Place) (t : Tables) (outer : Scope) (full : Elaborated) (base : ℕ) (x : ObjectDeclared) → base ≤ length t.units → InBody (seen plan entries t) outer full n → InPart plan entries base (outer ++ full ∷ []) (waits_in (names.innermost n)) t
      → Declaring plan entries base t n i.name (length t.objects) ((outer ++ full ∷ []) ++ elaborated x.own ∷ []) (outer ++ elaborated (names.innermost n) ∷ []) x → InPlan plan t (object_kept i.name x.own.level (shown_names x.own.symbols) x.entries x.tables) → AreDistinct x.entries → rules.declared_once i.name i.at (names.innermost n).symbols ≡ []
      → DeclaredScoped (seen plan entries (object_kept i.name x.own.level (shown_names x.own.symbols) x.entries x.tables)) outer full n (objects.object_of_parts x at i (length t.objects) n).made
      × InPart plan entries base (outer ++ full ∷ []) (waits_in (names.innermost (objects.object_of_parts x at i (length t.objects) n).made.place)) (object_kept i.name x.own.level (shown_names x.own.symbols) x.entries x.tables)
      × Stay base t (object_kept i.name x.own.level (shown_names x.own.symbols) x.entries x.tables)
      × (Barred plan entries t → Barred plan entries (object_kept i.name x.own.level (shown_names x.own.symbols) x.entries x.tables))
  object_fine_with at i hidden n t outer full base x after inside part h p distinct once =
      let before : Region = names.innermost n in
      let number = length t.objects in
      let u : Tables = object_kept i.name x.own.level (shown_names x.own.symbols) x.entries x.tables in
      let scope : Scope = outer ++ full ∷ [] in
      let level = before.level + 1 in
      let qs = x.around.parts in
      let o : AwaitedObject = record { name = i.name; object = number; at = i.at } in
      let named : Region = d.with_symbol i.name (Protected number) before in
      let new : Region = objects.with_object_parts qs (objects.awaiting_object i number named) in
      let fresh : names.is_declared i.name before.symbols ≡ false = not_declared _ _ once in
      let declared_as : objects.with_object i number before ≡ objects.awaiting_object i number named = rw fresh in
      let last : objects.with_object_parts qs (objects.with_object i number before) ≡ new = ap (objects.with_object_parts qs) declared_as in
      let kept = object_kept_grows i.name x.own.level (shown_names x.own.symbols) x.entries x.tables distinct in
      let grown = further {u = x.tables} h.grows kept in
      let later = body_grown plan entries t u outer full n grown inside in
      let object : tree.ObjectPlan = record { name = i.name; level = x.own.level; components = shown_names x.own.symbols; entries = x.entries } in
      let long = length_push x.tables.objects object in
      let planned = p.objects number (omega (arith, long, h.grows.objects)) in
      let same : length x.tables.objects ≡ number = h.count in
      let own_plan : slice_index_or plan.objects number no_object ≡ object = planned.1 ∙ get_or_push x.tables.objects object no_object number same in
      let leveled : object_level plan number ≡ level = ap (λ (z : tree.ObjectPlan). z.level) own_plan ∙ of_objects.own_level plan entries n number qs x.own h.own in
      let deep : length (scope ++ elaborated x.own ∷ []) ≡ suc level = omega (arith, length_push scope (elaborated x.own), length_push outer full, inside.innermost.level) in
      let are : PartsAre plan entries base u (scope ++ elaborated x.own ∷ []) number qs = parts_grown plan entries base x.tables u (scope ++ elaborated x.own ∷ []) number qs kept h.are in
      let own : RegionScoped (seen plan entries u) outer full named = symbol_scoped (seen plan entries u) outer full i.name (Protected number) before (λ c z. omega (arith, leveled)) later.innermost in
      let region : RegionScoped (seen plan entries u) outer full new = record {
        level = own.level;
        symbols = own.symbols;
        named = own.named;
        celled = own.celled;
        entries = own.entries;
        parts = λ c e more enough.
            let reach : c ≡ true → AreAround (scope ++ elaborated x.own ∷ []) (outer ++ e ∷ []) = λ z. around_open scope (outer ++ e ∷ []) (elaborated x.own) (open_further outer full e (enough z)) in
            both_parts (when c (seen plan entries u)) (outer ++ e ∷ []) before.parts qs (own.parts c e more enough) (parts_there plan entries base u (scope ++ elaborated x.own ∷ []) (outer ++ e ∷ []) c number qs reach (λ z. omega (arith, deep, leveled)) h.its are);
      } in
      let statement : tree.Statement = tree.declare_object at number x.values in
      let here : length (outer ++ elaborated before ∷ []) ≡ level = omega (arith, length_push outer (elaborated before), inside.innermost.level) in
      let levels : EntriesLevel plan entries number (outer ++ elaborated before ∷ []) = subst (λ (z : tree.ObjectPlan). AllByRecursion (λ k. length (entry_of entries (entry_unit plan k)).outer ≡ suc (length (outer ++ elaborated before ∷ []))) z.entries) (sym own_plan) (all_lengths plan entries (scope ++ elaborated x.own ∷ []) x.entries (suc (length (outer ++ elaborated before ∷ []))) (omega (arith, deep, here)) h.levels) in
      let elaborates : Elaborates (seen plan entries u) (outer ++ elaborated before ∷ []) (statement ∷ []) (outer ++ elaborated new ∷ []) = ((planned.0, omega (arith, leveled, here), h.values, levels), one_elaborated (seen plan entries u) outer full i.name (Protected number) before) in
      let frame : elaborated x.own ≡ own_frame number qs = ap elaborated h.own ∙ its_frame number level Outside qs (named_objects.object_frame n) refl refl refl in
      let stays = part_with_object plan entries base scope (waits_in before) o qs t u grown refl (omega (arith, h.grows.objects, long)) h.its
      (subst (λ e. PartsAre plan entries base u (scope ++ e ∷ []) number qs) frame are) h.waits h.stays part in (
        subst (λ z. DeclaredScoped (seen plan entries u) outer full n (record { place = names.in_region z n; elaborations = statement ∷ [] })) (sym last)
            (others_stay (seen plan entries u) outer full n new (omega arith) later region, omega arith, elaborates, one_created (seen plan entries u) scope statement [] tt (none_created (seen plan entries u) scope)),
        subst (λ z. InPart plan entries base scope (waits_in z) u) (sym last) stays.0,
        stays.1,
        λ z. h.barred z,
      )
    where
      both_parts : (known : Known) (here : Scope) (ps rs : List ObjectPart) → PartsThere known here ps → PartsThere known here rs → PartsThere known here (ps ++ rs)
      both_parts known here [] rs f g = g
      both_parts known here (y ∷ ps) rs f g = (f.0, both_parts known here ps rs f.1 g)

  pub protected_fine : (at : Pos) (i : Ident) (operations : List plain.Operation) (hidden : Option (List plain.PrivateItem)) (last : Option Ident) (n : Place) (t : Tables) (outer : Scope) (full : Elaborated) (base : ℕ) → DeclarationFine plan entries (plain.protected at i operations hidden last) n t outer full base
  unfolding DeclarationFine
  protected_fine at i operations hidden last n t outer full base = λ inside part enough p r q.
      let number = length t.objects in
      let none = objects.no_parts i.name n t in
      let first = objects.declared_operations number operations n.regions none in
      let x = objects.parts_declared i.name operations hidden n t in
      let scope : Scope = outer ++ full ∷ [] in
      let here : Scope = outer ++ elaborated (names.innermost n) ∷ [] in
      let frames : Scope = scope ++ elaborated x.own ∷ [] in
      let items = objects.hidden_items hidden in
      let distinct = parts_distinct i.name operations hidden n t in
      let kept = object_kept_grows i.name x.own.level (shown_names x.own.symbols) x.entries x.tables distinct in
      let declared_in_plan = first_in_plan plan t x.tables (object_kept i.name x.own.level (shown_names x.own.symbols) x.entries x.tables) kept p in
      let e1 = in_operations number operations n.regions none frames in
      let e2 = in_items number items n.regions first frames in
      let g1 = operations_grow number operations n.regions none in
      let heads = both_none (rules.declared_once i.name i.at (names.innermost n).symbols ++ (objects.parts_faults i.name operations hidden n t ++ rules.right_name_at_end i.name last)) [] q in
      let once = (both_none (rules.declared_once i.name i.at (names.innermost n).symbols) (objects.parts_faults i.name operations hidden n t ++ rules.right_name_at_end i.name last) heads.0).0 in
      let one = operations_declared plan entries base t n i.name number frames here none operations part.0.0 (none_declared plan entries base t n i.name frames here) (first_ready entries t e1 e2 r) (first_in_plan plan t first.tables x.tables (items_grow number items n.regions first) declared_in_plan) in
      let two = items_declared plan entries base t n i.name number frames outer full first items part.0.0 inside one (second_ready entries t first.tables e1 e2 g1 (operations_counted number operations n.regions none frames) r) declared_in_plan in
      object_fine_with at i hidden n t outer full base x part.0.0 inside part two p distinct once

  -- bodies of operations

  operation_of_fine : (head : Head) (at : Pos) (i : Ident) (fs : List plain.Formal) (ds : plain.Declarations) (b : plain.Body) (o : BodyPlaces) (awaited : List AwaitedPart) (t : Tables) (frames : Scope) (base : ℕ) (w : Waiting)
      → ((m : Place) (u : Tables) (scope : Scope) (all : Elaborated) (first : ℕ) → DeclarationsFine plan entries ds m u scope all first) → ((within : Around) (m : Place) (u : Tables) (inner : Scope) → BodyFine plan entries b within m u inner)
      → Fits (seen plan entries t) frames (operations.operation_place head o) → PartsAre plan entries base t frames o.object o.parts → EachIs plan entries base (λ n. Waits_in w n ⊎ IsUnitOf n awaited) t
      → InPlan plan t (s.checked_operation_of head at i fs ds b o awaited t).tables → Ready entries t (in_operation_of head i fs ds b o awaited t frames) → (s.checked_operation_of head at i fs ds b o awaited t).faults ≡ []
      → EachIs plan entries base (λ n. Waits_in w n ⊎ IsUnitOf n (s.checked_operation_of head at i fs ds b o awaited t).made) (s.checked_operation_of head at i fs ds b o awaited t).tables
      × Stay base t (s.checked_operation_of head at i fs ds b o awaited t).tables
      × (Barred plan entries t → Barred plan entries (s.checked_operation_of head at i fs ds b o awaited t).tables)
  operation_of_fine head at i fs ds b o awaited t frames base w f g fits are each p r q = by (operations.part_awaited head i o awaited) refl p r q
    where
      here : Place
      here = operations.operation_place head o

      shape : operations.Shape
      shape = operations.shape_of head fs here

      inner : Place
      inner = names.place_in shape.region here.regions

      around : Around
      around = s.operation_around head fs o.object here

      entry : Option PartKind → Tables
      entry found = operations.operation_tables head found shape.region here t

      checked : Place → Tables → Outcome tree.UnitBody
      checked m u = s.checked_operation_unit head at i fs ds b o.object here m u

      last : Option PartKind → Tables
      last found = with_unit (operations.operation_unit found t) (checked inner (entry found)).made (checked inner (entry found)).tables

      faulty : Option PartKind → List Fault
      faulty found = operations.operation_faults head found i fs here t ++ ((checked inner (entry found)).faults ++ [])

      front : Option PartKind → List Entry
      front found = of_found found frames ++ in_entered ds b around inner (entry found) frames

      by : (found : Option PartKind) → operations.part_awaited head i o awaited ≡ found → InPlan plan t (last found) → Ready entries t (front found) → faulty found ≡ []
          → EachIs plan entries base (λ n. Waits_in w n ⊎ IsUnitOf n (operations.still_awaited found awaited)) (last found) × Stay base t (last found) × (Barred plan entries t → Barred plan entries (last found))
      by None e p r q =
          let heads = both_none (operations.operation_faults head None i fs here t) ((checked inner (entry None)).faults ++ []) q in
          let others = both_none (operations.shape_faults head fs here) (rules.no_matching_body i.at ++ operations.barrier_faults head shape.region here) heads.0 in
          absurd (no_fault _ _ others.1)
      by (Some k) e p r q =
          let kept : Tables = entry (Some k) in
          let made = checked inner kept in
          let own_body = s.entered_body false ds b around inner kept in
          let heads = both_none (operations.operation_faults head (Some k) i fs here t) (made.faults ++ []) q in
          let shaped = both_none (operations.shape_faults head fs here) (operations.operation_matched (Some k) i.at shape.profile shape.returned t ++ operations.barrier_faults head shape.region here) heads.0 in
          let matched = (both_none (operations.operation_matched (Some k) i.at shape.profile shape.returned t) (operations.barrier_faults head shape.region here) shaped.1).0 in
          let formals_fine = (both_none (body_formals fs here).faults (operations.result_faults head shape.region here.regions) shaped.0).0 in
          let stated = both_none own_body.faults (rules.right_name_at_end i.name (s.end_name b) ++ []) (both_none made.faults [] heads.1).0 in
          let found = awaited_is plan entries base t frames head awaited (named_objects.part_in i.name o.object o.parts) k (part_in_is plan entries base t frames o.object i.name o.parts are) e in
          let its = common plan entries base t frames head k found.1 found.0 in
          let conforms = conform_length (operations.part_profile k t) shape.profile (both_true (rules.conform (operations.part_profile k t) shape.profile) (operations.same_result k shape.returned) (fine_if _ _ matched)).0 in
          let g0 = operation_tables_grow head (Some k) shape.region here t in
          let g1 = entered_grows false ds b around inner kept in
          let same_units : kept.units ≡ t.units = barrier_kept_units (Some k) (operations.barrier_of head shape.region here) t in
          let fits_later = fits_grown plan entries t kept frames here g0 fits in
          let level : (names.innermost here).level + 1 ≡ length frames = fits.level in
          let formed = λ (all : Elaborated). formals_scoped (seen plan entries kept) frames all fs (names.body_frame here) here.regions formals_fine (empty_scoped (seen plan entries kept) frames all _ level) in
          let begun : elaborated shape.region ≡ all_formals (length shape.profile) = counted_frame shape.region.names shape.region.cells (length shape.profile) (formed none_yet).1 (formed none_yet).2 in
          let within : (all : Elaborated) → InBody (seen plan entries kept) frames all inner = λ all. record {
            innermost = (formed all).0;
            others = λ c e1 more. regions_more (when c (seen plan entries kept)) frames e1 here.regions (regions_when (seen plan entries kept) frames refl c here.regions fits_later.regions);
          } in
          let nothing_waits = formals_awaited fs (names.body_frame here) here.regions in
          let p1 = second_in_plan plan t kept (last (Some k)) g0 p in
          let no_more : length kept.units ≡ length t.units + 0 = omega (arith, ap length same_units) in
          let ready = second_ready entries t kept [] (in_entered ds b around inner kept frames) g0 no_more r in
          let body = entering_fine plan entries false ds b around inner kept frames (f inner (region_kept kept) frames) (g around) within nothing_waits (record { regions = p1.regions; exceptions = p1.exceptions; objects = p1.objects; entries = p1.entries; tasks = p1.tasks }) ready stated.0 in
          let unit = operations.part_unit k in
          let whole : UnitScoped plan entries (tree.unit_plan made.made) made.made.body (entry_of entries unit) = (
            (formed none_yet).0.level ∙ ap length (sym its.outer),
            subst (λ z. BodyScoped plan entries own_body.made (all_formals z) (table plan (length kept.regions)) (entry_of entries unit).outer) (sym conforms ∙ its.formals)
                (subst (λ z. BodyScoped plan entries own_body.made (all_formals (length shape.profile)) (table plan (length kept.regions)) z) (sym its.outer) (subst (λ z. BodyScoped plan entries own_body.made z (table plan (length kept.regions)) frames) begun body.0)),
          ) in
          let still = each_with_body plan entries base (Waits_in w) awaited unit kept own_body.tables made.made its.after (omega (arith, its.before, ap length same_units)) body.1 whole (each_same plan entries base (λ n. Waits_in w n ⊎ IsUnitOf n awaited) t kept same_units each) in
          let barred = barrier_barred plan entries base t frames head k shape.region here fits.regions found.0 in (
            still.0,
            λ m lt. still.1 m lt ∙ ap (λ l. slice_index_or l m no_body) same_units,
            λ z. body.1.3 (barred z),
          )

  pub entry_body_fine : (at : Pos) (i : Ident) (fs : List plain.Formal) (barrier : plain.Expression) (ds : plain.Declarations) (b : plain.Body) (o : BodyPlaces) (awaited : List AwaitedPart) (t : Tables) (frames : Scope) (base : ℕ) (w : Waiting)
      → ((m : Place) (u : Tables) (scope : Scope) (all : Elaborated) (first : ℕ) → DeclarationsFine plan entries ds m u scope all first) → ((within : Around) (m : Place) (u : Tables) (inner : Scope) → BodyFine plan entries b within m u inner) → OperationFine plan entries (plain.entry_body at i fs barrier ds b) o awaited t frames base w
  unfolding OperationFine
  entry_body_fine at i fs barrier ds b o awaited t frames base w f g = λ inside in_function are each p r q. operation_of_fine (of_entry barrier) at i fs ds b o awaited t frames base w f g inside are each p r q

  pub procedure_body_fine : (at : Pos) (i : Ident) (fs : List plain.Formal) (ds : plain.Declarations) (b : plain.Body) (o : BodyPlaces) (awaited : List AwaitedPart) (t : Tables) (frames : Scope) (base : ℕ) (w : Waiting)
      → ((m : Place) (u : Tables) (scope : Scope) (all : Elaborated) (first : ℕ) → DeclarationsFine plan entries ds m u scope all first) → ((within : Around) (m : Place) (u : Tables) (inner : Scope) → BodyFine plan entries b within m u inner) → OperationFine plan entries (plain.procedure_body at i fs ds b) o awaited t frames base w
  unfolding OperationFine
  procedure_body_fine at i fs ds b o awaited t frames base w f g = λ inside in_function are each p r q. operation_of_fine operations.of_procedure at i fs ds b o awaited t frames base w f g inside are each p r q

  pub function_body_fine : (at : Pos) (i : Ident) (fs : List plain.Formal) (mark : Ident) (ds : plain.Declarations) (b : plain.Body) (o : BodyPlaces) (awaited : List AwaitedPart) (t : Tables) (frames : Scope) (base : ℕ) (w : Waiting)
      → ((m : Place) (u : Tables) (scope : Scope) (all : Elaborated) (first : ℕ) → DeclarationsFine plan entries ds m u scope all first) → ((within : Around) (m : Place) (u : Tables) (inner : Scope) → BodyFine plan entries b within m u inner) → OperationFine plan entries (plain.function_body at i fs mark ds b) o awaited t frames base w
  unfolding OperationFine
  function_body_fine at i fs mark ds b o awaited t frames base w f g = λ inside in_function are each p r q. operation_of_fine (of_function mark) at i fs ds b o awaited t frames base w f g in_function are each p r q

  pub no_bodies_fine : (o : BodyPlaces) (awaited : List AwaitedPart) (t : Tables) (frames : Scope) (base : ℕ) (w : Waiting) → BodiesFine plan entries plain.no_bodies o awaited t frames base w
  unfolding BodiesFine
  no_bodies_fine o awaited t frames base w = λ inside in_function are each p r q. (each, λ k lt. refl, λ b. b)

  pub more_bodies_fine : (x : plain.OperationBody) (xs : plain.OperationBodies) (o : BodyPlaces) (awaited : List AwaitedPart) (t : Tables) (frames : Scope) (base : ℕ) (w : Waiting)
      → OperationFine plan entries x o awaited t frames base w → ((still : List AwaitedPart) (u : Tables) → BodiesFine plan entries xs o still u frames base w) → BodiesFine plan entries (plain.more_bodies x xs) o awaited t frames base w
  unfolding OperationFine BodiesFine
  more_bodies_fine x xs o awaited t frames base w f g = λ inside in_function are each p r q.
      let first = s.checked_operation x o awaited t in
      let second = s.checked_bodies xs o first.made first.tables in
      let faults = both_none first.faults second.faults q in
      let g1 = operation_body_grows x o awaited t in
      let g2 = bodies_grow xs o first.made first.tables in
      let e1 = in_operation x o awaited t frames in
      let e2 = in_bodies xs o first.made first.tables frames in
      let one = f inside in_function are each (first_in_plan plan t first.tables second.tables g2 p) (first_ready entries t e1 e2 r) faults.0 in
      let two = g first.made first.tables (fits_grown plan entries t first.tables frames o.inside g1 inside) (fits_grown plan entries t first.tables frames o.in_function g1 in_function) (parts_grown plan entries base t first.tables frames o.object o.parts g1 are) one.0
      (second_in_plan plan t first.tables second.tables g1 p) (second_ready entries t first.tables e1 e2 g1 (operation_body_counted x o awaited t frames) r) faults.1 in
      (two.0, λ k lt. two.1 k lt ∙ one.1 k lt, λ b. two.2 (one.2 b))

  object_come_scoped : (t : Tables) (outer : Scope) (full : Elaborated) (name : List ℕ) (r : Region) → RegionScoped (seen plan entries t) outer full r → RegionScoped (seen plan entries t) outer full (named_objects.object_come name r)
  object_come_scoped t outer full name r h = record { level = h.level; symbols = h.symbols; named = h.named; celled = h.celled; entries = h.entries; parts = h.parts }

  pub protected_body_fine : (at : Pos) (i : Ident) (inner : plain.OperationBodies) (last : Option Ident) (n : Place) (t : Tables) (outer : Scope) (full : Elaborated) (base : ℕ)
      → ((o : BodyPlaces) (awaited : List AwaitedPart) (u : Tables) (frames : Scope) (w : Waiting) → BodiesFine plan entries inner o awaited u frames base w) → DeclarationFine plan entries (plain.protected_body at i inner last) n t outer full base
  unfolding DeclarationFine BodiesFine
  protected_body_fine at i inner last n t outer full base f = λ inside part enough p r q. by (objects.object_awaited i n) refl inside part enough p r q
    where
      scope : Scope
      scope = outer ++ full ∷ []

      before : Region
      before = names.innermost n

      here : Place
      here = objects.object_behind i n

      places : Option AwaitedObject → BodyPlaces
      places found = operations.body_places i.name (objects.body_object found t) here

      waiting : Option AwaitedObject → List AwaitedPart
      waiting found = named_objects.awaited_parts (objects.body_object found t) (names.innermost here).parts

      checked : ℕ → Tables → Outcome (List AwaitedPart)
      checked object u = s.checked_bodies inner (operations.body_places i.name object here) (named_objects.awaited_parts object (names.innermost here).parts) u

      whole : Option AwaitedObject → Outcome d.Declared
      whole found = objects.object_body_of i found last checked here t

      front : Option AwaitedObject → List Entry
      front found = in_bodies inner (places found) (waiting found) (objects.object_tables found i t) (bodies_scope (places found) scope)

      by : (found : Option AwaitedObject) → objects.object_awaited i n ≡ found → InBody (seen plan entries t) outer full n → InPart plan entries base scope (waits_in before) t → before.cells ≤ full.cells → InPlan plan t (whole found).tables → Ready entries t (front found) → (whole found).faults ≡ []
          → DeclaredScoped (seen plan entries (whole found).tables) outer full n (whole found).made × InPart plan entries base scope (waits_in (names.innermost here)) (whole found).tables × Stay base t (whole found).tables × (Barred plan entries t → Barred plan entries (whole found).tables)
      by None e inside part enough p r q = absurd (no_fault _ _ q)
      by (Some x) e inside part enough p r q =
          let o : BodyPlaces = places (Some x) in
          let bodies = checked x.object t in
          let own = found_object (ObjectWaits plan entries base scope t before.parts) i.name before.objects x e part.2 in
          let faults = both_none bodies.faults ((objects.without_part_bodies bodies.made ++ rules.right_name_at_end i.name last) ++ []) q in
          let all_come = no_parts_wait bodies.made (both_none (objects.without_part_bodies bodies.made) (rules.right_name_at_end i.name last) (both_none (objects.without_part_bodies bodies.made ++ rules.right_name_at_end i.name last) [] faults.1).0).0 in
          let behind : InBody (seen plan entries t) outer full here = record { innermost = object_come_scoped t outer full i.name before inside.innermost; others = inside.others } in
          let around : RegionsScoped (seen plan entries t) scope here.regions = body_regions (seen plan entries t) outer full true here full behind enough (λ z. omega arith) in
          let leveled : (names.innermost here).level + 1 ≡ length scope = omega (arith, behind.innermost.level, length_push outer full) in
          let frame : Elaborated = elaborated (names.innermost o.inside) in
          let framed : own_frame x.object before.parts ≡ frame = sym (body_frames plan entries Inside i.name x.object here) in
          let some : 1 ≤ frame.cells = parts_more (own_instance ((names.innermost here).level + 1) x.object Inside) before.parts (named_objects.object_frame here) in
          let are : PartsAre plan entries base t (scope ++ frame ∷ []) x.object before.parts = subst (λ z. PartsAre plan entries base t (scope ++ z ∷ []) x.object before.parts) framed own.1 in
          let in_inside = of_objects.body_fits plan entries base t Inside i.name x.object here scope frame refl framed some leveled around are in
          let in_function = of_objects.body_fits plan entries base t InFunction i.name x.object here scope frame refl framed some leveled around are in
          let left : Waiting = record (waits_in before) { objects = named_objects.without_first (named_objects.is_object i.name) before.objects } in
          let each = part_without plan entries base scope i.name (waits_in before) x t e part in
          let grown = bodies_grow inner o (waiting (Some x)) t in
          let done = f o (waiting (Some x)) t (scope ++ frame ∷ []) left in_inside in_function are each p r faults.0 in
          let here_part = part_with_bodies plan entries base scope i.name (waits_in before) bodies.made t bodies.tables grown all_come part done.0 in
          ((body_grown plan entries t bodies.tables outer full here grown behind, omega arith, refl, none_created (seen plan entries bodies.tables) scope), here_part, done.1, done.2)
