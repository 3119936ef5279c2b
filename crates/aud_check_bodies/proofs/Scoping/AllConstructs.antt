-- Each construct without faults uses what is elaborated, or there, by recursion on it.
use Rattle.std.proofs.Common.{◌≡◌, ℕ, Bool, true, List, [], length}
use Rattle.aud_syntax.specs.declared.tree.Ident.{Ident}
use Rattle.aud_syntax.specs.Plain as plain
use Rattle.aud_typed.specs.Tree.{Plan}
use Rattle.aud_typed.specs.Why.Scoped.{Scope, table, Elaborated, Entry, BodyScoped}
use Rattle.aud_names.specs.declared.awaited.AwaitedPart.{AwaitedPart}
use Rattle.aud_names.specs.Names as names
use Rattle.aud_names.specs.Names.{Region, Place}
use Rattle.aud_check_bodies.specs.Tables.{Tables, region_kept}
use Rattle.aud_check_bodies.specs.Operations.{BodyPlaces}
use Rattle.aud_check_bodies.specs.Statements as s
use Rattle.aud_check_bodies.specs.Statements.{Around}
use Rattle.aud_check_bodies.proofs.Scoping.Declarations.{Waiting, no_waiting, waits_in, elaborated, InBody}
use Rattle.aud_check_bodies.proofs.Scoping.Plans.{seen, InPlan}
use Rattle.aud_check_bodies.proofs.Scoping.Entries.{in_entered, Ready}
use Rattle.aud_check_bodies.proofs.Scoping.Constructs.{IsFine, StatementFine, ArmsFine, StatementsFine, OthersFine, BodyFine, HandlersFine, DeclarationsFine, DeclarationFine, AcceptFine, DoingFine, AlternativeFine, AlternativesFine, OtherwiseFine, OperationFine, BodiesFine}
use Rattle.aud_check_bodies.proofs.Scoping.Bodies.{handler_fine, stated_fine, entering_fine, block_fine, no_handlers_fine}
use Rattle.aud_check_bodies.proofs.Scoping.Statements.{assign_fine, call_fine, if_fine, forever_fine, while_fine, for_fine, exit_fine, return_fine, raise_fine, arm_fine, in_order_fine, more_fine, null_fine, no_arms_fine, no_others_fine, delaying_fine, abort_fine, requeue_fine}
use Rattle.aud_check_bodies.proofs.Scoping.Rendezvous.{accepting_fine, accept_fine, without_do_fine, with_do_fine, accept_alternative_fine, delay_alternative_fine, terminate_fine, no_alternatives_fine, more_alternatives_fine, select_accept_fine, or_delay_fine, or_else_fine, select_call_fine}
use Rattle.aud_check_bodies.proofs.Scoping.DeclarativeParts.{joined_fine, object_fine, constant_fine, array_fine, exception_fine, procedure_fine, task_fine, task_body_fine, no_declarations_fine}
use Rattle.aud_check_bodies.proofs.Scoping.ProtectedObjects.{protected_fine, entry_body_fine, procedure_body_fine, function_body_fine, no_bodies_fine, more_bodies_fine, protected_body_fine}

module _ (plan : Plan) (entries : List Entry) where
  mutual
    fine_statement : (x : plain.Statement) (around : Around) (n : Place) (t : Tables) (scope : Scope) → StatementFine plan entries x around n t scope
    fine_statement (plain.null at) around n t scope = null_fine plan entries at around n t scope
    fine_statement (plain.assign x value) around n t scope = assign_fine plan entries x value around n t scope
    fine_statement (plain.call x) around n t scope = call_fine plan entries x around n t scope
    fine_statement (plain.if_then at c ss arms otherwise) around n t scope = if_fine plan entries at c ss arms otherwise around n t scope (λ u. fine_statements ss around n u scope) (λ u. fine_arms arms around n u scope) (λ u. fine_others otherwise around n u scope)
    fine_statement (plain.loop label at plain.forever ss last semicolon) around n t scope = forever_fine plan entries label at ss last semicolon around n t scope (fine_statements ss (s.labelled true label around) n t scope)
    fine_statement (plain.loop label at (plain.while c) ss last semicolon) around n t scope = while_fine plan entries label at c ss last semicolon around n t scope (fine_statements ss (s.labelled true label around) n t scope)
    fine_statement (plain.loop label at (plain.for i backward low high) ss last semicolon) around n t scope = for_fine plan entries label at i backward low high ss last semicolon around n t scope (λ m u inner. fine_statements ss (s.labelled true label around) m u inner)
    fine_statement (plain.exit at name c) around n t scope = exit_fine plan entries at name c around n t scope
    fine_statement (plain.block label at declare ds b) around n t scope = block_fine plan entries label at declare ds b around n t scope (λ m u outer full base. fine_declarations ds m u outer full base) (λ within m u inner. fine_body b within m u inner)
    fine_statement (plain.return at x) around n t scope = return_fine plan entries at x around n t scope
    fine_statement (plain.raise at name) around n t scope = raise_fine plan entries at name around n t scope
    fine_statement (plain.accepting x) around n t scope = accepting_fine plan entries x around n t scope (fine_accept x around n t scope)
    fine_statement (plain.delaying x) around n t scope = delaying_fine plan entries x around n t scope
    fine_statement (plain.select_accept at guard x xs otherwise) around n t scope = select_accept_fine plan entries at guard x xs otherwise around n t scope (λ u. fine_alternative x guard around n u scope) (λ u. fine_alternatives xs around n u scope) (λ u. fine_others otherwise around n u scope)
    fine_statement (plain.select_call at x behind otherwise) around n t scope = select_call_fine plan entries at x behind otherwise around n t scope (λ u. fine_others behind around n u scope) (λ u. fine_otherwise otherwise around n u scope)
    fine_statement (plain.abort at x xs) around n t scope = abort_fine plan entries at x xs around n t scope
    fine_statement (plain.requeue at x with_abort) around n t scope = requeue_fine plan entries at x with_abort around n t scope

    fine_accept : (x : plain.Accept) (around : Around) (n : Place) (t : Tables) (scope : Scope) → AcceptFine plan entries x around n t scope
    fine_accept (plain.accept at i fs x) around n t scope = accept_fine plan entries at i fs x around n t scope (λ r within. fine_doing x i r within n t scope)

    fine_doing : (x : plain.Doing) (i : Ident) (r : Region) (around : Around) (n : Place) (t : Tables) (scope : Scope) → DoingFine plan entries x i r around n t scope
    fine_doing plain.without_do i r around n t scope = without_do_fine plan entries i r around n t scope
    fine_doing (plain.with_do b) i r around n t scope = with_do_fine plan entries b i r around n t scope (λ m u inner. fine_body b around m u inner)

    fine_alternative : (x : plain.Alternative) (guard : plain.MaybeExpression) (around : Around) (n : Place) (t : Tables) (scope : Scope) → AlternativeFine plan entries x guard around n t scope
    fine_alternative (plain.accept_alternative x ss) guard around n t scope = accept_alternative_fine plan entries x ss guard around n t scope (λ u. fine_accept x around n u scope) (λ u. fine_others ss around n u scope)
    fine_alternative (plain.delay_alternative x ss) guard around n t scope = delay_alternative_fine plan entries x ss guard around n t scope (fine_others ss around n t scope)
    fine_alternative plain.terminate_alternative guard around n t scope = terminate_fine plan entries guard around n t scope

    fine_alternatives : (x : plain.Alternatives) (around : Around) (n : Place) (t : Tables) (scope : Scope) → AlternativesFine plan entries x around n t scope
    fine_alternatives plain.no_alternatives around n t scope = no_alternatives_fine plan entries around n t scope
    fine_alternatives (plain.more_alternatives guard x xs) around n t scope = more_alternatives_fine plan entries guard x xs around n t scope (λ u. fine_alternative x guard around n u scope) (λ u. fine_alternatives xs around n u scope)

    fine_otherwise : (x : plain.Otherwise) (around : Around) (n : Place) (t : Tables) (scope : Scope) → OtherwiseFine plan entries x around n t scope
    fine_otherwise (plain.or_delay x ss) around n t scope = or_delay_fine plan entries x ss around n t scope (fine_others ss around n t scope)
    fine_otherwise (plain.or_else ss) around n t scope = or_else_fine plan entries ss around n t scope (fine_statements ss around n t scope)

    fine_arms : (x : plain.Arms) (around : Around) (n : Place) (t : Tables) (scope : Scope) → ArmsFine plan entries x around n t scope
    fine_arms plain.no_arms around n t scope = no_arms_fine plan entries around n t scope
    fine_arms (plain.more_arms at c ss arms) around n t scope = arm_fine plan entries at c ss arms around n t scope (λ u. fine_statements ss around n u scope) (λ u. fine_arms arms around n u scope)

    fine_statements : (x : plain.Statements) (around : Around) (n : Place) (t : Tables) (scope : Scope) → StatementsFine plan entries x around n t scope
    fine_statements (plain.in_order x xs) around n t scope = in_order_fine plan entries x xs around n t scope (λ u. fine_statement x around n u scope) (λ u. fine_others xs around n u scope)

    fine_others : (x : plain.MoreStatements) (around : Around) (n : Place) (t : Tables) (scope : Scope) → OthersFine plan entries x around n t scope
    fine_others plain.no_statements around n t scope = no_others_fine plan entries around n t scope
    fine_others (plain.more_statements x xs) around n t scope = more_fine plan entries x xs around n t scope (λ u. fine_statement x around n u scope) (λ u. fine_others xs around n u scope)

    fine_body : (x : plain.Body) (around : Around) (n : Place) (t : Tables) (scope : Scope) → BodyFine plan entries x around n t scope
    fine_body (plain.body begin ss hs end name semicolon) around n t scope = stated_fine plan entries begin ss hs end name semicolon around n t scope (λ u. fine_statements ss around n u scope) (λ within u. fine_handlers hs within n u scope)

    fine_handlers : (x : plain.Handlers) (around : Around) (n : Place) (t : Tables) (scope : Scope) → HandlersFine plan entries x around n t scope
    fine_handlers plain.no_handlers around n t scope = no_handlers_fine plan entries around n t scope
    fine_handlers (plain.more_handlers choices ss hs) around n t scope = handler_fine plan entries choices ss hs around n t scope (λ u. fine_statements ss around n u scope) (λ u. fine_handlers hs around n u scope)

    fine_declarations : (x : plain.Declarations) (n : Place) (t : Tables) (outer : Scope) (full : Elaborated) (base : ℕ) → DeclarationsFine plan entries x n t outer full base
    fine_declarations plain.no_declarations n t outer full base = no_declarations_fine plan entries n t outer full base
    fine_declarations (plain.more_declarations x xs) n t outer full base = joined_fine plan entries x xs n t outer full base (λ m u. fine_declaration x m u outer full base) (λ m u. fine_declarations xs m u outer full base)

    fine_declaration : (x : plain.Declaration) (n : Place) (t : Tables) (outer : Scope) (full : Elaborated) (base : ℕ) → DeclarationFine plan entries x n t outer full base
    fine_declaration (plain.object first others mark initial) n t outer full base = object_fine plan entries first others mark initial n t outer full base
    fine_declaration (plain.constant first others mark value) n t outer full base = constant_fine plan entries first others mark value n t outer full base
    fine_declaration (plain.array first others low high mark) n t outer full base = array_fine plan entries first others low high mark n t outer full base
    fine_declaration (plain.exception first others) n t outer full base = exception_fine plan entries first others n t outer full base
    fine_declaration (plain.procedure at i fs ds b) n t outer full base = procedure_fine plan entries at i fs ds b n t outer full base (λ m u scope all first. fine_declarations ds m u scope all first) (λ within m u inner. fine_body b within m u inner)
    fine_declaration (plain.task at is_type i x) n t outer full base = task_fine plan entries at is_type i x n t outer full base
    fine_declaration (plain.task_body at i ds b) n t outer full base = task_body_fine plan entries at i ds b n t outer full base (λ m u scope all first. fine_declarations ds m u scope all first) (λ within m u inner. fine_body b within m u inner)
    fine_declaration (plain.protected at i operations hidden last) n t outer full base = protected_fine plan entries at i operations hidden last n t outer full base
    fine_declaration (plain.protected_body at i inner last) n t outer full base = protected_body_fine plan entries at i inner last n t outer full base (λ o awaited u frames w. fine_bodies inner o awaited u frames base w)

    fine_bodies : (x : plain.OperationBodies) (o : BodyPlaces) (awaited : List AwaitedPart) (t : Tables) (frames : Scope) (base : ℕ) (w : Waiting) → BodiesFine plan entries x o awaited t frames base w
    fine_bodies plain.no_bodies o awaited t frames base w = no_bodies_fine plan entries o awaited t frames base w
    fine_bodies (plain.more_bodies x xs) o awaited t frames base w = more_bodies_fine plan entries x xs o awaited t frames base w (fine_operation x o awaited t frames base w) (λ still u. fine_bodies xs o still u frames base w)

    fine_operation : (x : plain.OperationBody) (o : BodyPlaces) (awaited : List AwaitedPart) (t : Tables) (frames : Scope) (base : ℕ) (w : Waiting) → OperationFine plan entries x o awaited t frames base w
    fine_operation (plain.entry_body at i fs barrier ds b) o awaited t frames base w = entry_body_fine plan entries at i fs barrier ds b o awaited t frames base w (λ m u scope all first. fine_declarations ds m u scope all first) (λ within m u inner. fine_body b within m u inner)
    fine_operation (plain.procedure_body at i fs ds b) o awaited t frames base w = procedure_body_fine plan entries at i fs ds b o awaited t frames base w (λ m u scope all first. fine_declarations ds m u scope all first) (λ within m u inner. fine_body b within m u inner)
    fine_operation (plain.function_body at i fs mark ds b) o awaited t frames base w = function_body_fine plan entries at i fs mark ds b o awaited t frames base w (λ m u scope all first. fine_declarations ds m u scope all first) (λ within m u inner. fine_body b within m u inner)

  pub entered_scoped : (of_task : Bool) (ds : plain.Declarations) (b : plain.Body) (around : Around) (n : Place) (t : Tables) (outer : Scope) → ((full : Elaborated) → InBody (seen plan entries t) outer full n) → waits_in (names.innermost n) ≡ no_waiting → InPlan plan t (s.entered_body of_task ds b around n t).tables → Ready entries t (in_entered ds b around n t outer) → (s.entered_body of_task ds b around n t).faults ≡ []
      → IsFine plan entries t (s.entered_body of_task ds b around n t).tables (BodyScoped plan entries (s.entered_body of_task ds b around n t).made (elaborated (names.innermost n)) (table plan (length t.regions)) outer)
  entered_scoped of_task ds b around n t outer = entering_fine plan entries of_task ds b around n t outer (λ full base. fine_declarations ds n (region_kept t) outer full base) (λ m u inner. fine_body b around m u inner)
