-- Bodies, blocks and handlers without faults use what is elaborated, or there.
use Rattle.std.proofs.Common.{◌≡◌, ◌+◌, ◌≤◌, ℕ, Bool, true, false, List, [], ◌∷◌, ◌++◌, length, Option, arith, refl, sym, ◌∙◌, ap, subst}
use Rattle.aud_text.specs.declared.place.Pos.{Pos}
use Rattle.aud_syntax.specs.declared.tree.Ident.{Ident}
use Rattle.aud_syntax.specs.Plain as plain
use Rattle.aud_typed.specs.Tree as tree
use Rattle.aud_typed.specs.Tree.{Plan}
use Rattle.aud_typed.specs.Why.Scoped.{Scope, AllCreatedScoped, all_of_table, table, Elaborated, Entry, all_formals, StatementScoped, HandlersScoped, BodyScoped}
use Rattle.aud_names.specs.Names as names
use Rattle.aud_names.specs.Names.{Place}
use Rattle.aud_names.specs.Rules as rules
use Rattle.aud_check_bodies.specs.Tables.{Tables, region_kept}
use Rattle.aud_check_bodies.specs.Objects as objects
use Rattle.aud_check_bodies.specs.Tasks as tasks
use Rattle.aud_check_bodies.specs.Regions as regions
use Rattle.aud_check_bodies.specs.Handlers as handlers
use Rattle.aud_check_bodies.specs.Statements as s
use Rattle.aud_check_bodies.specs.Statements.{Around}
use Rattle.aud_check_bodies.proofs.Scoping.Names.{Known, when, Fits, regions_see}
use Rattle.aud_check_bodies.proofs.Scoping.Declarations.{no_waiting, waits_in, elaborated, all_elaborated, both_none, InBody, body_fits, in_frame}
use Rattle.aud_check_bodies.proofs.Scoping.Tables.{named_grows, kept_grows, declared_tables}
use Rattle.aud_check_bodies.proofs.Scoping.ConstructTables.{statements_grow, body_grows, handlers_grow, declarations_grow}
use Rattle.aud_check_bodies.proofs.Scoping.Plans.{seen, InPlan, first_in_plan, second_in_plan, named_table, kept_in_plan}
use Rattle.aud_check_bodies.proofs.Scoping.Entries.{in_statements, in_body, in_handlers, in_entered, in_declarations, statements_counted, declarations_counted, Ready, first_ready, second_ready}
use Rattle.aud_check_bodies.proofs.Scoping.Elaborations.{part_elaborates, part_created, with_activation_elaborates, with_activation_creates}
use Rattle.aud_check_bodies.proofs.Scoping.Units.{none_waits, none_between, units_join, fits_grown, body_grown, part_begins, part_ends}
use Rattle.aud_check_bodies.proofs.Scoping.Single.{body_with_scoped, handlers_of_scoped, choices_there}
use Rattle.aud_check_bodies.proofs.Scoping.Constructs.{IsFine, StatementFine, StatementsFine, BodyFine, HandlersFine, DeclarationsFine}

-- behind its declarations a body has all that its table names
pub fits_table : (known : Known) (scope : Scope) (full : Elaborated) (n : Place) → InBody known scope full n → full.cells ≤ (names.innermost n).cells → Fits (when true known) (scope ++ all_of_table (regions.shown_names (names.innermost n).symbols) ∷ []) n
fits_table known scope full n h all = subst (λ z. Fits (when true known) (scope ++ z ∷ []) n) (sym (all_elaborated known scope full (names.innermost n) h.innermost)) (body_fits known scope full n h all)

pub counted_frame : (m k n : ℕ) → m ≡ 0 + n → k ≡ 0 + n → record { names = m; cells = k } ≡ all_formals n
counted_frame m k n p q =
    let named : m ≡ n = omega (arith, p) in
    let celled : k ≡ n = omega (arith, q) in
    ap {B = Elaborated} (λ z. record { names = z; cells = k }) named ∙ ap {B = Elaborated} (λ z. record { names = n; cells = z }) celled

module _ (plan : Plan) (entries : List Entry) where
  pub handler_fine : (choices : plain.Choices) (ss : plain.Statements) (hs : plain.Handlers) (around : Around) (n : Place) (t : Tables) (scope : Scope)
      → ((u : Tables) → StatementsFine plan entries ss around n u scope) → ((u : Tables) → HandlersFine plan entries hs around n u scope) → HandlersFine plan entries (plain.more_handlers choices ss hs) around n t scope
  unfolding StatementsFine HandlersFine
  handler_fine choices ss hs around n t scope f g = λ fits p r q.
      let first = s.checked_statements ss around n t in
      let second = s.checked_handlers hs around n first.tables in
      let parts = both_none (first.faults ++ []) (second.faults ++ []) q in
      let there = choices_there (seen plan entries t) scope choices n (regions_see (seen plan entries t) scope n fits.regions) in
      let g1 = statements_grow ss around n t in
      let g2 = handlers_grow hs around n first.tables in
      let e1 = in_statements ss around n t scope in
      let e2 = in_handlers hs around n first.tables scope in
      let one = f t fits (first_in_plan plan t first.tables second.tables g2 p) (first_ready entries t e1 e2 r) (both_none first.faults [] parts.0).0 in
      let two = g first.tables (fits_grown plan entries t first.tables scope n g1 fits) (second_in_plan plan t first.tables second.tables g1 p) (second_ready entries t first.tables e1 e2 g1 (statements_counted ss around n t scope) r) (both_none second.faults [] parts.1).0 in
      (((there, one.0), two.0), units_join plan entries t first.tables second.tables one.1 two.1)

  pub stated_fine : (begin : Pos) (ss : plain.Statements) (hs : plain.Handlers) (end : Pos) (name : Option Ident) (semicolon : Pos) (around : Around) (n : Place) (t : Tables) (scope : Scope)
      → ((u : Tables) → StatementsFine plan entries ss around n u scope) → ((within : Around) (u : Tables) → HandlersFine plan entries hs within n u scope) → BodyFine plan entries (plain.body begin ss hs end name semicolon) around n t scope
  unfolding StatementsFine HandlersFine BodyFine
  stated_fine begin ss hs end name semicolon around n t scope f g = λ fits p r q.
      let first = s.checked_statements ss around n t in
      let second = s.checked_handlers hs (s.handling around) n first.tables in
      let chosen = handlers.all_choices_faults hs handlers.none_chosen n in
      let parts = both_none first.faults (chosen ++ (second.faults ++ [])) q in
      let q2 = (both_none second.faults [] (both_none chosen (second.faults ++ []) parts.1).1).0 in
      let g1 = statements_grow ss around n t in
      let g2 = handlers_grow hs (s.handling around) n first.tables in
      let e1 = in_statements ss around n t scope in
      let e2 = in_handlers hs (s.handling around) n first.tables scope in
      let one = f t fits (first_in_plan plan t first.tables second.tables g2 p) (first_ready entries t e1 e2 r) parts.0 in
      let two = g (s.handling around) first.tables (fits_grown plan entries t first.tables scope n g1 fits) (second_in_plan plan t first.tables second.tables g1 p) (second_ready entries t first.tables e1 e2 g1 (statements_counted ss around n t scope) r) q2 in
      ((one.0, handlers_of_scoped (seen plan entries t) scope second.made two.0), units_join plan entries t first.tables second.tables one.1 two.1)

  -- a body whose region is entered

  pub entering_fine : (of_task : Bool) (ds : plain.Declarations) (b : plain.Body) (around : Around) (n : Place) (t : Tables) (outer : Scope) → ((full : Elaborated) (base : ℕ) → DeclarationsFine plan entries ds n (region_kept t) outer full base) → ((m : Place) (u : Tables) (inner : Scope) → BodyFine plan entries b around m u inner)
      → ((full : Elaborated) → InBody (seen plan entries t) outer full n) → waits_in (names.innermost n) ≡ no_waiting → InPlan plan t (s.entered_body of_task ds b around n t).tables → Ready entries t (in_entered ds b around n t outer) → (s.entered_body of_task ds b around n t).faults ≡ []
      → IsFine plan entries t (s.entered_body of_task ds b around n t).tables (BodyScoped plan entries (s.entered_body of_task ds b around n t).made (elaborated (names.innermost n)) (table plan (length t.regions)) outer)
  unfolding DeclarationsFine BodyFine
  entering_fine of_task ds b around n t outer f g inside begins p r q =
      let o = s.checked_declarations ds n (region_kept t) in
      let m : Place = o.made.place in
      let region = names.innermost m in
      let full : Elaborated = elaborated region in
      let shown = regions.shown_names region.symbols in
      let entry : Tables = declared_tables o t in
      let last = s.checked_body b around m entry in
      let waiting = tasks.without_bodies region.awaited ++ objects.without_object_bodies region.objects in
      let parts = both_none (o.faults ++ waiting) (last.faults ++ []) q in
      let heads = both_none o.faults waiting parts.0 in
      let g0 = declarations_grow ds n (region_kept t) in
      let g1 = named_grows shown t o.tables g0 in
      let g2 = body_grows b around m entry in
      let inner : Scope = outer ++ full ∷ [] in
      let e0 = in_declarations ds n (region_kept t) inner in
      let e1 = in_body b around m entry inner in
      let p0 = first_in_plan plan t entry last.tables g2 p in
      let p1 = second_in_plan plan t entry last.tables g1 p in
      let front = first_ready entries t e0 e1 r in
      let r0 : Ready entries (region_kept t) e0 = record { even = front.even; even_entries = front.even_entries; long = front.long; each = front.each } in
      let r1 = second_ready entries t entry e0 e1 g1 (declarations_counted ds n (region_kept t) inner) r in
      let part = part_begins plan entries inner (region_kept t) (waits_in (names.innermost n)) begins in
      let declared = f full (length t.units) (body_grown plan entries t (region_kept t) outer full n (kept_grows t) (inside full)) part (omega arith) (kept_in_plan plan shown t o.tables p0) r0 heads.0 in
      let scoped = declared.0 in
      let fit : Fits (seen plan entries entry) inner m = body_fits (seen plan entries entry) outer full m scoped.0 (omega arith) in
      let stated = g m entry inner fit p1 r1 (both_none last.faults [] parts.1).0 in
      let named = named_table plan shown t o.tables g0 p0 in
      let xs = tasks.with_activation of_task (s.begin_of b) o.made.elaborations in
      let elaborates = part_elaborates (seen plan entries entry) xs (outer ++ elaborated (names.innermost n) ∷ []) inner (with_activation_elaborates (seen plan entries entry) of_task (s.begin_of b) o.made.elaborations _ _ scoped.2) in
      let created = part_created (seen plan entries entry) inner xs (with_activation_creates (seen plan entries entry) of_task (s.begin_of b) o.made.elaborations inner scoped.3) in
      let all : inner ≡ outer ++ all_of_table shown ∷ [] = ap (λ z. outer ++ z ∷ []) (sym (all_elaborated (seen plan entries entry) outer full region scoped.0.innermost)) in (
        subst (λ z. BodyScoped plan entries (s.body_with xs b last.made) (elaborated (names.innermost n)) z outer) (sym named)
            (body_with_scoped plan entries xs b last.made (elaborated (names.innermost n)) shown outer elaborates.0 (elaborates.1 ∙ all) (subst (λ z. AllCreatedScoped plan entries (tree.part_of xs) z) all created)
            (subst (λ z. StatementScoped plan entries last.made.statements z) all stated.0.0) (subst (λ z. HandlersScoped plan entries last.made.handlers z) all stated.0.1)),
        units_join plan entries t entry last.tables (part_ends plan entries t entry (waits_in region) region.parts (none_waits region heads.1) declared.1.0 declared.2 declared.3) stated.1,
      )

  pub block_fine : (label : Option Ident) (at : Pos) (declare : Bool) (ds : plain.Declarations) (b : plain.Body) (around : Around) (n : Place) (t : Tables) (scope : Scope)
      → ((m : Place) (u : Tables) (outer : Scope) (full : Elaborated) (base : ℕ) → DeclarationsFine plan entries ds m u outer full base) → ((within : Around) (m : Place) (u : Tables) (inner : Scope) → BodyFine plan entries b within m u inner) → StatementFine plan entries (plain.block label at declare ds b) around n t scope
  unfolding StatementFine
  block_fine label at declare ds b around n t scope f g = λ fits p r q.
      let o = s.entered_body false ds b (s.labelled false label around) (names.in_frame n) t in
      let q1 = (both_none o.faults [] (both_none (rules.right_label_at_end label (s.end_name b) (s.end_semicolon b)) (o.faults ++ []) q).1).0 in
      let body = entering_fine false ds b (s.labelled false label around) (names.in_frame n) t scope (f (names.in_frame n) (region_kept t) scope) (g (s.labelled false label around)) (λ full. in_frame (seen plan entries t) scope full n refl fits) refl p r q1 in
      ((body.0, refl), body.1)

  pub no_handlers_fine : (around : Around) (n : Place) (t : Tables) (scope : Scope) → HandlersFine plan entries plain.no_handlers around n t scope
  unfolding HandlersFine
  no_handlers_fine around n t scope = λ fits p r q. (tt, none_between plan entries t)
