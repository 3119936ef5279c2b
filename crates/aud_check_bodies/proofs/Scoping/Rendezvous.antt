-- Accept statements and selects without faults use what is elaborated, or there.
use Rattle.std.specs.Prelude.{not, ◌&&◌, if◌then◌else◌}
use Rattle.std.proofs.Common.{◌≡◌, ℕ, Bool, true, false, List, [], ◌∷◌, ◌++◌, length, Option, Some, None, arith, refl, sym, ◌∙◌, ap, subst}
use Rattle.aud_text.specs.declared.place.Pos.{Pos}
use Rattle.aud_syntax.specs.declared.tree.Ident.{Ident}
use Rattle.aud_syntax.specs.Plain as plain
use Rattle.aud_typed.specs.Tree as tree
use Rattle.aud_typed.specs.declared.program.Variable.{Variable}
use Rattle.aud_typed.specs.Tree.{Plan}
use Rattle.aud_typed.specs.Why.Scoped.{Scope, Elaborated, none_yet, all_of_table, table, Entry, all_formals, entry_unit, formals_of, IsTaskEntry, BodyScoped}
use Rattle.aud_names.specs.declared.names.NamedParameter.{NamedParameter}
use Rattle.aud_names.specs.declared.names.Meaning.{Meaning}
use Rattle.aud_names.specs.declared.names.Meaning.TheVariants as meaning
use Rattle.aud_fault.specs.declared.fault.Fault.{Fault}
use Rattle.aud_names.specs.declared.names.Owner.{Owner}
use Rattle.aud_names.specs.declared.names.Owner.TheVariants as owner
use Rattle.aud_names.specs.declared.names.Owner.TheVariants.{Single, Element}
use Rattle.aud_names.specs.Names as names
use Rattle.aud_names.specs.Names.{Region, Place}
use Rattle.aud_names.specs.Resolution.{is_function}
use Rattle.aud_names.specs.Rules as rules
use Rattle.aud_check_bodies.specs.Tables.{Tables, with_region, entry_profile_of}
use Rattle.aud_check_bodies.specs.Accepts as accepts
use Rattle.aud_check_bodies.specs.Calls as calls
use Rattle.aud_check_bodies.specs.Delays as delays
use Rattle.aud_check_bodies.specs.Selects as selects
use Rattle.aud_typing.specs.Conditions as conditions
use Rattle.aud_check_bodies.specs.Regions as regions
use Rattle.aud_check_bodies.specs.Statements as s
use Rattle.aud_check_bodies.specs.Statements.{Around}
use Rattle.aud_check_bodies.proofs.Scoping.Names.{Known, when, OwnerScoped, VisibleScoped, regions_see, regions_more, regions_when}
use Rattle.aud_check_bodies.proofs.Scoping.Expressions.{maybe_condition_scoped}
use Rattle.aud_check_bodies.proofs.Scoping.Declarations.{elaborated, all_elaborated, both_none, InBody, formals_scoped, accept_scoped, in_frame}
use Rattle.aud_check_bodies.proofs.Scoping.Tables.{further, region_grows}
use Rattle.aud_check_bodies.proofs.Scoping.ConstructTables.{accepts_grow, alternative_grows, alternatives_grow, otherwise_grows, others_grow, body_grows}
use Rattle.aud_check_bodies.proofs.Scoping.Plans.{seen, first_in_plan, second_in_plan, entered_table}
use Rattle.aud_check_bodies.proofs.Scoping.Entries.{in_accept, in_alternative, in_alternatives, in_otherwise, in_others, accept_is_counted, alternative_counted, alternatives_counted, others_counted, first_ready, second_ready}
use Rattle.aud_check_bodies.proofs.Scoping.Units.{none_between, units_join, fits_grown}
use Rattle.aud_check_bodies.proofs.Scoping.Objects.{fine_if, conform_length}
use Rattle.aud_check_bodies.proofs.Scoping.Single.{entry_call_scoped, selected_scoped, delay_scoped, form_scoped, body_with_scoped, alternatives_scoped, part_scoped}
use Rattle.aud_check_bodies.proofs.Scoping.Constructs.{StatementFine, StatementsFine, OthersFine, BodyFine, AcceptFine, DoingFine, AlternativeFine, AlternativesFine, OtherwiseFine}
use Rattle.aud_check_bodies.proofs.Scoping.Bodies.{fits_table, counted_frame}

module _ (plan : Plan) (entries : List Entry) where
  pub accepting_fine : (x : plain.Accept) (around : Around) (n : Place) (t : Tables) (scope : Scope) → AcceptFine plan entries x around n t scope → StatementFine plan entries (plain.accepting x) around n t scope
  unfolding StatementFine AcceptFine
  accepting_fine x around n t scope f = λ fits p r q.
      let one = f fits p r (both_none (s.checked_accept x around n t).faults [] q).0 in
      ((one.0, refl), one.1)

  -- what has no value is a fault
  no_value : (is_function : Bool) (at : Pos) → (if is_function then rules.function_call_out_of_place at else rules.wrong_kind_of_name at) ≡ [] → true ≡ false
  no_value true at e = cc
  no_value false at e = cc

  -- an accept without faults is of a task's entry
  accepted_owner : (x : Owner) (number : ℕ) (own : Option Variable) (once : Bool) (at : Pos) (more : List Fault) (known : Known) (scope : Scope) → rules.accept_or_count_in_place (names.is_cell_of x own && once) at ++ more ≡ [] → OwnerScoped known number x scope → entry_unit known.plan number ≡ 0
  accepted_owner (Single v) number own once at more known scope q h = h.1
  accepted_owner (Element a) number own once at more known scope q h = h.1
  accepted_owner (owner.Object x) number own once at more known scope q h = cc

  accepted_there : (m : Option Meaning) (at : Pos) (given : List NamedParameter) (within : List ℕ) (n : Place) (t : Tables) (scope : Scope) → accepts.accepted_faults m at given within n t ≡ [] → VisibleScoped (seen plan entries t) scope m → IsTaskEntry plan (accepts.number_of (accepts.entry_meant m))
  accepted_there None at given within n t scope q h = cc
  accepted_there (Some (meaning.Entry x)) at given within n t scope q h = (h.0.0, accepted_owner x.owner x.number (names.innermost n).own (not (accepts.is_accepted x.number within)) at (rules.formals_conform (rules.conform (entry_profile_of x.number t) given) at) (seen plan entries t) scope q h.1)
  accepted_there (Some m) at given within n t scope q h = let no = no_value (is_function m) at q in cc

  -- and has that entry's formals
  accepted_takes : (m : Option Meaning) (at : Pos) (given : List NamedParameter) (within : List ℕ) (n : Place) (t : Tables) (scope : Scope) → accepts.accepted_faults m at given within n t ≡ [] → VisibleScoped (seen plan entries t) scope m → length given ≡ formals_of plan (accepts.number_of (accepts.entry_meant m))
  accepted_takes None at given within n t scope q h = cc
  accepted_takes (Some (meaning.Entry x)) at given within n t scope q h =
      let listed = entry_profile_of x.number t in
      let conforms = (both_none (rules.accept_or_count_in_place (names.is_own x n && not (accepts.is_accepted x.number within)) at) (rules.formals_conform (rules.conform listed given) at) q).1 in
      sym (conform_length listed given (fine_if _ _ conforms)) ∙ h.0.2
  accepted_takes (Some m) at given within n t scope q h = let no = no_value (is_function m) at q in cc

  pub accept_fine : (at : Pos) (i : Ident) (fs : List plain.Formal) (x : plain.Doing) (around : Around) (n : Place) (t : Tables) (scope : Scope) → ((r : Region) (within : Around) → DoingFine plan entries x i r within n t scope) → AcceptFine plan entries (plain.accept at i fs x) around n t scope
  unfolding AcceptFine DoingFine
  accept_fine at i fs x around n t scope f = λ fits p r q.
      let known = seen plan entries t in
      let sees = regions_see known scope n fits.regions in
      let formals = accepts.accept_formals fs n in
      let within = s.in_accept (accepts.accepted i n) formals.profile around in
      let o = s.checked_doing x i formals.region within n t in
      let accepted = accepts.accepted_faults (names.visible i.name n) i.at formals.profile around.accepting n t in
      let parts = both_none (formals.faults ++ accepted) (o.faults ++ []) q in
      let heads = both_none formals.faults accepted parts.0 in
      let formed = formals_scoped known scope none_yet fs (names.accept_frame n) n.regions heads.0 (accept_scoped known scope none_yet (names.next_frame n) (in_frame known scope none_yet n refl fits).innermost) in
      let begun : elaborated formals.region ≡ all_formals (length formals.profile) = counted_frame formals.region.names formals.region.cells (length formals.profile) formed.1 formed.2 in
      let meant = names.visible i.name n in
      let entry = accepts.number_of (accepts.entry_meant meant) in
      let takes : length formals.profile ≡ formals_of plan entry = accepted_takes meant i.at formals.profile around.accepting n t scope heads.1 (sees.visible i.name) in
      let doing = f formals.region within entry formed.0 (begun ∙ ap all_formals takes) fits p r (both_none o.faults [] parts.1).0 in
      ((accepted_there (names.visible i.name n) i.at formals.profile around.accepting n t scope heads.1 (sees.visible i.name), doing.0), doing.1)

  pub without_do_fine : (i : Ident) (region : Region) (around : Around) (n : Place) (t : Tables) (scope : Scope) → DoingFine plan entries plain.without_do i region around n t scope
  unfolding DoingFine
  without_do_fine i region around n t scope = λ entry h e fits p r q. (tt, none_between plan entries t)

  pub with_do_fine : (b : plain.Body) (i : Ident) (region : Region) (around : Around) (n : Place) (t : Tables) (scope : Scope) → ((m : Place) (u : Tables) (inner : Scope) → BodyFine plan entries b around m u inner) → DoingFine plan entries (plain.with_do b) i region around n t scope
  unfolding DoingFine BodyFine
  with_do_fine b i region around n t scope f = λ entry h e fits p r q.
      let known = seen plan entries t in
      let place : Place = names.place_in region n.regions in
      let shown = regions.shown_names region.symbols in
      let tables : Tables = with_region shown t in
      let o = s.checked_body b around place tables in
      let q1 = (both_none o.faults (rules.right_name_at_end i.name (s.end_name b) ++ []) q).0 in
      let grown = body_grows b around place tables in
      let entered : table plan (length t.regions) ≡ shown = entered_table plan shown t o.tables grown p in
      let inside : InBody known scope none_yet place = record { innermost = h; others = λ c e1 more. regions_more (when c known) scope e1 n.regions (regions_when known scope refl c n.regions fits.regions) } in
      let fit = fits_table known scope none_yet place inside (omega arith) in
      let inner : Scope = scope ++ all_of_table shown ∷ [] in
      let body = f place tables inner fit (second_in_plan plan t tables o.tables (region_grows shown t) p) (record { even = r.even; even_entries = r.even_entries; long = r.long; each = r.each }) q1 in
      let first : Elaborated = all_formals (formals_of plan entry) in
      let all : first ≡ all_of_table shown = sym e ∙ sym (all_elaborated known scope none_yet region h) in
      let doing : BodyScoped plan entries (s.body_with [] b o.made) first (table plan (length t.regions)) scope =
      subst (λ z. BodyScoped plan entries (s.body_with [] b o.made) first z scope) (sym entered) (body_with_scoped plan entries [] b o.made first shown scope tt (ap (λ z. scope ++ z ∷ []) all) tt body.0.0 body.0.1) in
      (doing, body.1)

  pub accept_alternative_fine : (x : plain.Accept) (ss : plain.MoreStatements) (guard : plain.MaybeExpression) (around : Around) (n : Place) (t : Tables) (scope : Scope)
      → ((u : Tables) → AcceptFine plan entries x around n u scope) → ((u : Tables) → OthersFine plan entries ss around n u scope) → AlternativeFine plan entries (plain.accept_alternative x ss) guard around n t scope
  unfolding AcceptFine OthersFine AlternativeFine
  accept_alternative_fine x ss guard around n t scope f g = λ fits p r q.
      let first = s.checked_accept x around n t in
      let second = s.checked_others ss around n first.tables in
      let guarded = conditions.maybe_condition_faults guard n in
      let parts = both_none first.faults (second.faults ++ []) (both_none guarded (first.faults ++ (second.faults ++ [])) q).1 in
      let g1 = accepts_grow x around n t in
      let g2 = others_grow ss around n first.tables in
      let e1 = in_accept x around n t scope in
      let e2 = in_others ss around n first.tables scope in
      let one = f t fits (first_in_plan plan t first.tables second.tables g2 p) (first_ready entries t e1 e2 r) parts.0 in
      let two = g first.tables (fits_grown plan entries t first.tables scope n g1 fits) (second_in_plan plan t first.tables second.tables g1 p) (second_ready entries t first.tables e1 e2 g1 (accept_is_counted x around n t scope) r) (both_none second.faults [] parts.1).0 in
      ((maybe_condition_scoped (seen plan entries t) scope n (regions_see (seen plan entries t) scope n fits.regions) guard, one.0, part_scoped (seen plan entries t) scope second.made two.0), units_join plan entries t first.tables second.tables one.1 two.1)

  pub delay_alternative_fine : (x : plain.Delay) (ss : plain.MoreStatements) (guard : plain.MaybeExpression) (around : Around) (n : Place) (t : Tables) (scope : Scope) → OthersFine plan entries ss around n t scope → AlternativeFine plan entries (plain.delay_alternative x ss) guard around n t scope
  unfolding OthersFine AlternativeFine
  delay_alternative_fine x ss guard around n t scope f = λ fits p r q.
      let sees = regions_see (seen plan entries t) scope n fits.regions in
      let o = s.checked_others ss around n t in
      let heads = conditions.maybe_condition_faults guard n ++ delays.delay_faults x n in
      let one = f fits p r (both_none o.faults [] (both_none heads (o.faults ++ []) q).1).0 in
      ((maybe_condition_scoped (seen plan entries t) scope n sees guard, delay_scoped plan entries x n t scope sees, part_scoped (seen plan entries t) scope o.made one.0), one.1)

  pub terminate_fine : (guard : plain.MaybeExpression) (around : Around) (n : Place) (t : Tables) (scope : Scope) → AlternativeFine plan entries plain.terminate_alternative guard around n t scope
  unfolding AlternativeFine
  terminate_fine guard around n t scope = λ fits p r q. (maybe_condition_scoped (seen plan entries t) scope n (regions_see (seen plan entries t) scope n fits.regions) guard, none_between plan entries t)

  pub no_alternatives_fine : (around : Around) (n : Place) (t : Tables) (scope : Scope) → AlternativesFine plan entries plain.no_alternatives around n t scope
  unfolding AlternativesFine
  no_alternatives_fine around n t scope = λ fits p r q. (tt, none_between plan entries t)

  pub more_alternatives_fine : (guard : plain.MaybeExpression) (x : plain.Alternative) (xs : plain.Alternatives) (around : Around) (n : Place) (t : Tables) (scope : Scope)
      → ((u : Tables) → AlternativeFine plan entries x guard around n u scope) → ((u : Tables) → AlternativesFine plan entries xs around n u scope) → AlternativesFine plan entries (plain.more_alternatives guard x xs) around n t scope
  unfolding AlternativeFine AlternativesFine
  more_alternatives_fine guard x xs around n t scope f g = λ fits p r q.
      let first = s.checked_alternative x guard around n t in
      let second = s.checked_alternatives xs around n first.tables in
      let parts = both_none first.faults (second.faults ++ []) q in
      let g1 = alternative_grows x guard around n t in
      let g2 = alternatives_grow xs around n first.tables in
      let e1 = in_alternative x guard around n t scope in
      let e2 = in_alternatives xs around n first.tables scope in
      let one = f t fits (first_in_plan plan t first.tables second.tables g2 p) (first_ready entries t e1 e2 r) parts.0 in
      let two = g first.tables (fits_grown plan entries t first.tables scope n g1 fits) (second_in_plan plan t first.tables second.tables g1 p) (second_ready entries t first.tables e1 e2 g1 (alternative_counted x guard around n t scope) r) (both_none second.faults [] parts.1).0 in
      ((one.0, two.0), units_join plan entries t first.tables second.tables one.1 two.1)

  pub select_accept_fine : (at : Pos) (guard : plain.MaybeExpression) (x : plain.Alternative) (xs : plain.Alternatives) (otherwise : plain.MoreStatements) (around : Around) (n : Place) (t : Tables) (scope : Scope)
      → ((u : Tables) → AlternativeFine plan entries x guard around n u scope) → ((u : Tables) → AlternativesFine plan entries xs around n u scope) → ((u : Tables) → OthersFine plan entries otherwise around n u scope) → StatementFine plan entries (plain.select_accept at guard x xs otherwise) around n t scope
  unfolding StatementFine AlternativeFine AlternativesFine OthersFine
  select_accept_fine at guard x xs otherwise around n t scope f g h = λ fits p r q.
      let first = s.checked_alternative x guard around n t in
      let second = s.checked_alternatives xs around n first.tables in
      let third = s.checked_others otherwise around n second.tables in
      let parts = both_none first.faults (second.faults ++ (third.faults ++ [])) q in
      let behind_first = both_none second.faults (third.faults ++ []) parts.1 in
      let q3 = (both_none third.faults [] behind_first.1).0 in
      let g1 = alternative_grows x guard around n t in
      let g2 = alternatives_grow xs around n first.tables in
      let g3 = others_grow otherwise around n second.tables in
      let e1 = in_alternative x guard around n t scope in
      let e2 = in_alternatives xs around n first.tables scope in
      let e3 = in_others otherwise around n second.tables scope in
      let p2 = second_in_plan plan t first.tables third.tables g1 p in
      let r2 = second_ready entries t first.tables e1 (e2 ++ e3) g1 (alternative_counted x guard around n t scope) r in
      let fits2 = fits_grown plan entries t first.tables scope n g1 fits in
      let one = f t fits (first_in_plan plan t first.tables third.tables (further {u = second.tables} g2 g3) p) (first_ready entries t e1 (e2 ++ e3) r) parts.0 in
      let two = g first.tables fits2 (first_in_plan plan first.tables second.tables third.tables g3 p2) (first_ready entries first.tables e2 e3 r2) behind_first.0 in
      let three = h second.tables (fits_grown plan entries first.tables second.tables scope n g2 fits2) (second_in_plan plan first.tables second.tables third.tables g2 p2) (second_ready entries first.tables second.tables e2 e3 g2 (alternatives_counted xs around n first.tables scope) r2) q3 in (
        ((alternatives_scoped (seen plan entries t) scope (first.made ∷ second.made) (one.0, two.0), part_scoped (seen plan entries t) scope third.made three.0), refl),
        units_join plan entries t first.tables third.tables one.1 (units_join plan entries first.tables second.tables third.tables two.1 three.1),
      )

  pub or_delay_fine : (x : plain.Delay) (ss : plain.MoreStatements) (around : Around) (n : Place) (t : Tables) (scope : Scope) → OthersFine plan entries ss around n t scope → OtherwiseFine plan entries (plain.or_delay x ss) around n t scope
  unfolding OthersFine OtherwiseFine
  or_delay_fine x ss around n t scope f = λ fits p r q. let one = f fits p r q in (part_scoped (seen plan entries t) scope (s.checked_others ss around n t).made one.0, one.1)

  pub or_else_fine : (ss : plain.Statements) (around : Around) (n : Place) (t : Tables) (scope : Scope) → StatementsFine plan entries ss around n t scope → OtherwiseFine plan entries (plain.or_else ss) around n t scope
  unfolding StatementsFine OtherwiseFine
  or_else_fine ss around n t scope f = λ fits p r q. f fits p r (both_none (s.checked_statements ss around n t).faults [] q).0

  pub select_call_fine : (at : Pos) (x : plain.Name) (behind : plain.MoreStatements) (otherwise : plain.Otherwise) (around : Around) (n : Place) (t : Tables) (scope : Scope)
      → ((u : Tables) → OthersFine plan entries behind around n u scope) → ((u : Tables) → OtherwiseFine plan entries otherwise around n u scope) → StatementFine plan entries (plain.select_call at x behind otherwise) around n t scope
  unfolding StatementFine OthersFine OtherwiseFine
  select_call_fine at x behind otherwise around n t scope f g = λ fits p r q.
      let sees = regions_see (seen plan entries t) scope n fits.regions in
      let first = s.checked_others behind around n t in
      let second = s.checked_otherwise otherwise around n first.tables in
      let heads = selects.form_faults otherwise n ++ calls.selected_call_faults x n t in
      let parts = both_none first.faults (second.faults ++ []) (both_none heads (first.faults ++ (second.faults ++ [])) q).1 in
      let g1 = others_grow behind around n t in
      let g2 = otherwise_grows otherwise around n first.tables in
      let e1 = in_others behind around n t scope in
      let e2 = in_otherwise otherwise around n first.tables scope in
      let one = f t fits (first_in_plan plan t first.tables second.tables g2 p) (first_ready entries t e1 e2 r) parts.0 in
      let two = g first.tables (fits_grown plan entries t first.tables scope n g1 fits) (second_in_plan plan t first.tables second.tables g1 p) (second_ready entries t first.tables e1 e2 g1 (others_counted behind around n t scope) r) (both_none second.faults [] parts.1).0 in (
        entry_call_scoped (seen plan entries t) scope at (selects.form_of otherwise n) (tree.part_of first.made) (tree.part_of second.made) (calls.selected_call x n t) (form_scoped plan entries otherwise n t scope sees) (part_scoped (seen plan entries t) scope first.made one.0) two.0 (selected_scoped plan entries x n t scope sees),
        units_join plan entries t first.tables second.tables one.1 two.1,
      )
