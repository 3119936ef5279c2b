-- Statements in order, simple ones, conditionals and loops without faults use what is elaborated, or there.
use Rattle.std.proofs.Common.{◌≡◌, Bool, true, List, [], ◌∷◌, ◌++◌, length, Option, arith, refl, sym, subst}
use Rattle.aud_text.specs.declared.place.Pos.{Pos}
use Rattle.aud_syntax.specs.declared.tree.Ident.{Ident}
use Rattle.aud_syntax.specs.Plain as plain
use Rattle.aud_typed.specs.Tree as tree
use Rattle.aud_typed.specs.Tree.{Plan}
use Rattle.aud_typed.specs.Why.Scoped.{Scope, none_yet, cells_of, all_of_table, table, Entry, StatementScoped}
use Rattle.aud_names.specs.Names as names
use Rattle.aud_names.specs.Names.{Place}
use Rattle.aud_names.specs.Rules as rules
use Rattle.aud_check_bodies.specs.Tables.{Tables}
use Rattle.aud_typing.specs.Conditions as conditions
use Rattle.aud_check_bodies.specs.Regions as regions
use Rattle.aud_check_bodies.specs.Statements as s
use Rattle.aud_check_bodies.specs.Statements.{Around}
use Rattle.aud_check_bodies.proofs.Scoping.Names.{regions_see}
use Rattle.aud_check_bodies.proofs.Scoping.Expressions.{given_scoped, condition_scoped, maybe_condition_scoped, bound_of_scoped}
use Rattle.aud_check_bodies.proofs.Scoping.Declarations.{both_none, in_loop}
use Rattle.aud_check_bodies.proofs.Scoping.Tables.{further, region_grows}
use Rattle.aud_check_bodies.proofs.Scoping.ConstructTables.{statement_grows, statements_grow, arms_grow, others_grow}
use Rattle.aud_check_bodies.proofs.Scoping.Plans.{seen, first_in_plan, second_in_plan, entered_table}
use Rattle.aud_check_bodies.proofs.Scoping.Entries.{in_statement, in_arms, in_statements, in_others, statement_counted, arms_counted, statements_counted, first_ready, second_ready}
use Rattle.aud_check_bodies.proofs.Scoping.Units.{none_between, units_join, fits_grown}
use Rattle.aud_check_bodies.proofs.Scoping.Aborts.{abort_scoped}
use Rattle.aud_check_bodies.proofs.Scoping.Requeues.{requeue_scoped}
use Rattle.aud_check_bodies.proofs.Scoping.Single.{call_scoped, assign_scoped, delay_scoped, before_scoped, part_scoped, arms_then_scoped, raise_scoped}
use Rattle.aud_check_bodies.proofs.Scoping.Constructs.{StatementFine, ArmsFine, StatementsFine, OthersFine}
use Rattle.aud_check_bodies.proofs.Scoping.Bodies.{fits_table}

module _ (plan : Plan) (entries : List Entry) where
  pub assign_fine : (x : plain.Name) (value : plain.Expression) (around : Around) (n : Place) (t : Tables) (scope : Scope) → StatementFine plan entries (plain.assign x value) around n t scope
  unfolding StatementFine
  assign_fine x value around n t scope = λ fits p r q. (assign_scoped plan entries x value n t scope (regions_see (seen plan entries t) scope n fits.regions), none_between plan entries t)

  pub call_fine : (x : plain.Name) (around : Around) (n : Place) (t : Tables) (scope : Scope) → StatementFine plan entries (plain.call x) around n t scope
  unfolding StatementFine
  call_fine x around n t scope = λ fits p r q. (call_scoped plan entries x n t scope fits, none_between plan entries t)

  pub if_fine : (at : Pos) (c : plain.Expression) (ss : plain.Statements) (arms : plain.Arms) (otherwise : plain.MoreStatements) (around : Around) (n : Place) (t : Tables) (scope : Scope)
      → ((u : Tables) → StatementsFine plan entries ss around n u scope) → ((u : Tables) → ArmsFine plan entries arms around n u scope) → ((u : Tables) → OthersFine plan entries otherwise around n u scope) → StatementFine plan entries (plain.if_then at c ss arms otherwise) around n t scope
  unfolding StatementFine StatementsFine ArmsFine OthersFine
  if_fine at c ss arms otherwise around n t scope f g h = λ fits p r q.
      let sees = regions_see (seen plan entries t) scope n fits.regions in
      let first = s.checked_statements ss around n t in
      let second = s.checked_arms arms around n first.tables in
      let third = s.checked_others otherwise around n second.tables in
      let parts = both_none (conditions.condition_faults c n ++ (first.faults ++ [])) (second.faults ++ (third.faults ++ [])) q in
      let behind_first = both_none second.faults (third.faults ++ []) parts.1 in
      let q1 = (both_none first.faults [] (both_none (conditions.condition_faults c n) (first.faults ++ []) parts.0).1).0 in
      let q3 = (both_none third.faults [] behind_first.1).0 in
      let g1 = statements_grow ss around n t in
      let g2 = arms_grow arms around n first.tables in
      let g3 = others_grow otherwise around n second.tables in
      let e1 = in_statements ss around n t scope in
      let e2 = in_arms arms around n first.tables scope in
      let e3 = in_others otherwise around n second.tables scope in
      let p2 = second_in_plan plan t first.tables third.tables g1 p in
      let r2 = second_ready entries t first.tables e1 (e2 ++ e3) g1 (statements_counted ss around n t scope) r in
      let fits2 = fits_grown plan entries t first.tables scope n g1 fits in
      let one = f t fits (first_in_plan plan t first.tables third.tables (further {u = second.tables} g2 g3) p) (first_ready entries t e1 (e2 ++ e3) r) q1 in
      let two = g first.tables fits2 (first_in_plan plan first.tables second.tables third.tables g3 p2) (first_ready entries first.tables e2 e3 r2) behind_first.0 in
      let three = h second.tables (fits_grown plan entries first.tables second.tables scope n g2 fits2) (second_in_plan plan first.tables second.tables third.tables g2 p2) (second_ready entries first.tables second.tables e2 e3 g2 (arms_counted arms around n first.tables scope) r2) q3 in
      let others = part_scoped (seen plan entries t) scope third.made three.0 in (
        ((condition_scoped (seen plan entries t) scope n sees c, one.0, arms_then_scoped (seen plan entries t) scope second.made (tree.part_of third.made) two.0 others), refl),
        units_join plan entries t first.tables third.tables one.1 (units_join plan entries first.tables second.tables third.tables two.1 three.1),
      )

  pub forever_fine : (label : Option Ident) (at : Pos) (ss : plain.Statements) (last : Option Ident) (semicolon : Pos) (around : Around) (n : Place) (t : Tables) (scope : Scope)
      → StatementsFine plan entries ss (s.labelled true label around) n t scope → StatementFine plan entries (plain.loop label at plain.forever ss last semicolon) around n t scope
  unfolding StatementFine StatementsFine
  forever_fine label at ss last semicolon around n t scope f = λ fits p r q.
      let o = s.checked_statements ss (s.labelled true label around) n t in
      let q1 = (both_none o.faults [] (both_none (rules.right_label_at_end label last semicolon) (o.faults ++ []) q).1).0 in
      let body = f fits p r q1 in
      ((body.0, refl), body.1)

  pub while_fine : (label : Option Ident) (at : Pos) (c : plain.Expression) (ss : plain.Statements) (last : Option Ident) (semicolon : Pos) (around : Around) (n : Place) (t : Tables) (scope : Scope)
      → StatementsFine plan entries ss (s.labelled true label around) n t scope → StatementFine plan entries (plain.loop label at (plain.while c) ss last semicolon) around n t scope
  unfolding StatementFine StatementsFine
  while_fine label at c ss last semicolon around n t scope f = λ fits p r q.
      let sees = regions_see (seen plan entries t) scope n fits.regions in
      let o = s.checked_statements ss (s.labelled true label around) n t in
      let q1 = (both_none o.faults [] (both_none (conditions.condition_faults c n) (o.faults ++ []) (both_none (rules.right_label_at_end label last semicolon) (conditions.condition_faults c n ++ (o.faults ++ [])) q).1).1).0 in
      let body = f fits p r q1 in
      (((condition_scoped (seen plan entries t) scope n sees c, body.0), refl), body.1)

  pub for_fine : (label : Option Ident) (at : Pos) (i : Ident) (backward : Bool) (low high : plain.Simple) (ss : plain.Statements) (last : Option Ident) (semicolon : Pos) (around : Around) (n : Place) (t : Tables) (scope : Scope)
      → ((m : Place) (u : Tables) (inner : Scope) → StatementsFine plan entries ss (s.labelled true label around) m u inner) → StatementFine plan entries (plain.loop label at (plain.for i backward low high) ss last semicolon) around n t scope
  unfolding StatementFine StatementsFine
  for_fine label at i backward low high ss last semicolon around n t scope f = λ fits p r q.
      let inner = names.hiding (i ∷ []) n in
      let sees = regions_see (seen plan entries t) scope inner fits.regions in
      let place = regions.in_loop i n in
      let shown = regions.shown_names (regions.loop_region i n).symbols in
      let tables = s.loop_tables (plain.for i backward low high) n t in
      let o = s.checked_statements ss (s.labelled true label around) place tables in
      let bounds = s.bound_faults low inner ++ s.bound_faults high inner in
      let q1 = (both_none o.faults [] (both_none bounds (o.faults ++ []) (both_none (rules.right_label_at_end label last semicolon) (bounds ++ (o.faults ++ [])) q).1).1).0 in
      let grown = statements_grow ss (s.labelled true label around) place tables in
      let entered : table plan (length t.regions) ≡ shown = entered_table plan shown t o.tables grown p in
      let fit = fits_table (seen plan entries t) scope none_yet place (in_loop (seen plan entries t) scope none_yet i n refl fits) (omega arith) in
      let body = f place tables (scope ++ all_of_table shown ∷ []) fit (second_in_plan plan t tables o.tables (region_grows shown t) p) (record { even = r.even; even_entries = r.even_entries; long = r.long; each = r.each }) q1 in
      let all : (cells_of (table plan (length t.regions)) ≡ 1) × StatementScoped plan entries (s.sequence_of o.made) (scope ++ all_of_table (table plan (length t.regions)) ∷ []) =
      subst (λ z. (cells_of z ≡ 1) × StatementScoped plan entries (s.sequence_of o.made) (scope ++ all_of_table z ∷ [])) (sym entered) (refl, body.0) in
      (((bound_of_scoped (seen plan entries t) scope inner sees low, bound_of_scoped (seen plan entries t) scope inner sees high, all.0, all.1), refl), body.1)

  pub exit_fine : (at : Pos) (name : Option Ident) (c : plain.MaybeExpression) (around : Around) (n : Place) (t : Tables) (scope : Scope) → StatementFine plan entries (plain.exit at name c) around n t scope
  unfolding StatementFine
  exit_fine at name c around n t scope = λ fits p r q. ((maybe_condition_scoped (seen plan entries t) scope n (regions_see (seen plan entries t) scope n fits.regions) c, refl), none_between plan entries t)

  pub return_fine : (at : Pos) (x : plain.MaybeExpression) (around : Around) (n : Place) (t : Tables) (scope : Scope) → StatementFine plan entries (plain.return at x) around n t scope
  unfolding StatementFine
  return_fine at plain.no_expression around n t scope = λ fits p r q. ((tt, refl), none_between plan entries t)
  return_fine at (plain.an_expression x) around n t scope = λ fits p r q. ((given_scoped (seen plan entries t) scope n (regions_see (seen plan entries t) scope n fits.regions) x (s.returned_subtype around.leaves), refl), none_between plan entries t)

  pub raise_fine : (at : Pos) (name : Option Ident) (around : Around) (n : Place) (t : Tables) (scope : Scope) → StatementFine plan entries (plain.raise at name) around n t scope
  unfolding StatementFine
  raise_fine at name around n t scope = λ fits p r q. (raise_scoped (seen plan entries t) scope at name n (regions_see (seen plan entries t) scope n fits.regions), none_between plan entries t)

  pub arm_fine : (at : Pos) (c : plain.Expression) (ss : plain.Statements) (arms : plain.Arms) (around : Around) (n : Place) (t : Tables) (scope : Scope)
      → ((u : Tables) → StatementsFine plan entries ss around n u scope) → ((u : Tables) → ArmsFine plan entries arms around n u scope) → ArmsFine plan entries (plain.more_arms at c ss arms) around n t scope
  unfolding StatementsFine ArmsFine
  arm_fine at c ss arms around n t scope f g = λ fits p r q.
      let first = s.checked_statements ss around n t in
      let second = s.checked_arms arms around n first.tables in
      let parts = both_none (conditions.condition_faults c n ++ (first.faults ++ [])) (second.faults ++ []) q in
      let q1 = (both_none first.faults [] (both_none (conditions.condition_faults c n) (first.faults ++ []) parts.0).1).0 in
      let q2 = (both_none second.faults [] parts.1).0 in
      let g1 = statements_grow ss around n t in
      let g2 = arms_grow arms around n first.tables in
      let e1 = in_statements ss around n t scope in
      let e2 = in_arms arms around n first.tables scope in
      let one = f t fits (first_in_plan plan t first.tables second.tables g2 p) (first_ready entries t e1 e2 r) q1 in
      let two = g first.tables (fits_grown plan entries t first.tables scope n g1 fits) (second_in_plan plan t first.tables second.tables g1 p) (second_ready entries t first.tables e1 e2 g1 (statements_counted ss around n t scope) r) q2 in
      (((condition_scoped (seen plan entries t) scope n (regions_see (seen plan entries t) scope n fits.regions) c, one.0), two.0), units_join plan entries t first.tables second.tables one.1 two.1)

  pub more_fine : (x : plain.Statement) (xs : plain.MoreStatements) (around : Around) (n : Place) (t : Tables) (scope : Scope)
      → ((u : Tables) → StatementFine plan entries x around n u scope) → ((u : Tables) → OthersFine plan entries xs around n u scope) → OthersFine plan entries (plain.more_statements x xs) around n t scope
  unfolding StatementFine OthersFine
  more_fine x xs around n t scope f g = λ fits p r q.
      let first = s.checked_statement x around n t in
      let second = s.checked_others xs around n first.tables in
      let parts = both_none first.faults (second.faults ++ []) q in
      let g1 = statement_grows x around n t in
      let g2 = others_grow xs around n first.tables in
      let e1 = in_statement x around n t scope in
      let e2 = in_others xs around n first.tables scope in
      let one = f t fits (first_in_plan plan t first.tables second.tables g2 p) (first_ready entries t e1 e2 r) parts.0 in
      let two = g first.tables (fits_grown plan entries t first.tables scope n g1 fits) (second_in_plan plan t first.tables second.tables g1 p) (second_ready entries t first.tables e1 e2 g1 (statement_counted x around n t scope) r) (both_none second.faults [] parts.1).0 in
      ((one.0, two.0), units_join plan entries t first.tables second.tables one.1 two.1)

  pub in_order_fine : (x : plain.Statement) (xs : plain.MoreStatements) (around : Around) (n : Place) (t : Tables) (scope : Scope)
      → ((u : Tables) → StatementFine plan entries x around n u scope) → ((u : Tables) → OthersFine plan entries xs around n u scope) → StatementsFine plan entries (plain.in_order x xs) around n t scope
  unfolding StatementFine OthersFine StatementsFine
  in_order_fine x xs around n t scope f g = λ fits p r q.
      let both = more_fine x xs around n t scope f g fits p r q in
      (before_scoped (seen plan entries t) scope (s.checked_statement x around n t).made (s.checked_others xs around n (s.checked_statement x around n t).tables).made both.0.0 both.0.1, both.1)

  pub null_fine : (at : Pos) (around : Around) (n : Place) (t : Tables) (scope : Scope) → StatementFine plan entries (plain.null at) around n t scope
  unfolding StatementFine
  null_fine at around n t scope = λ fits p r q. ((tt, refl), none_between plan entries t)

  pub no_arms_fine : (around : Around) (n : Place) (t : Tables) (scope : Scope) → ArmsFine plan entries plain.no_arms around n t scope
  unfolding ArmsFine
  no_arms_fine around n t scope = λ fits p r q. (tt, none_between plan entries t)

  pub no_others_fine : (around : Around) (n : Place) (t : Tables) (scope : Scope) → OthersFine plan entries plain.no_statements around n t scope
  unfolding OthersFine
  no_others_fine around n t scope = λ fits p r q. (tt, none_between plan entries t)

  pub delaying_fine : (x : plain.Delay) (around : Around) (n : Place) (t : Tables) (scope : Scope) → StatementFine plan entries (plain.delaying x) around n t scope
  unfolding StatementFine
  delaying_fine x around n t scope = λ fits p r q. ((delay_scoped plan entries x n t scope (regions_see (seen plan entries t) scope n fits.regions), refl), none_between plan entries t)

  pub abort_fine : (at : Pos) (x : plain.Name) (xs : plain.Names) (around : Around) (n : Place) (t : Tables) (scope : Scope) → StatementFine plan entries (plain.abort at x xs) around n t scope
  unfolding StatementFine
  abort_fine at x xs around n t scope = λ fits p r q. (abort_scoped (seen plan entries t) scope n (regions_see (seen plan entries t) scope n fits.regions) at x xs, none_between plan entries t)

  pub requeue_fine : (at : Pos) (x : plain.Name) (with_abort : Bool) (around : Around) (n : Place) (t : Tables) (scope : Scope) → StatementFine plan entries (plain.requeue at x with_abort) around n t scope
  unfolding StatementFine
  requeue_fine at x with_abort around n t scope = λ fits p r q. (requeue_scoped plan entries at x with_abort n t scope fits, none_between plan entries t)
