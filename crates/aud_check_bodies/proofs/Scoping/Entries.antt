-- How the units of a program are entered, in the order of their numbers: with what is elaborated where they are declared.
use Rattle.std.proofs.Common.{◌≡◌, ◌+◌, ◌<◌, ◌≤◌, ℕ, suc, Bool, true, false, Option, Some, None, List, [], ◌∷◌, ◌++◌, length, slice_index_or, arith, refl, ◌∙◌, ap}
use Rattle.std.specs.Prelude.{slice_set}
use Rattle.std.proofs.lemmas.List.{length_push, length-append, length-set, get_or_append_left, get_or-append-add}
use Rattle.aud_text.specs.declared.place.Pos.{Pos}
use Rattle.aud_syntax.specs.declared.tree.Bound.{Bound}
use Rattle.aud_syntax.specs.declared.tree.Ident.{Ident}
use Rattle.aud_syntax.specs.Plain as plain
use Rattle.aud_typed.specs.Tree as tree
use Rattle.aud_typed.specs.Why.Scoped.{Scope, Entry, no_entry, entry_of, all_of_table}
use Rattle.aud_names.specs.declared.names.NamedParameter.{NamedParameter}
use Rattle.aud_names.specs.declared.awaited.Awaited.{Awaited}
use Rattle.aud_names.specs.declared.awaited.AwaitedObject.{AwaitedObject}
use Rattle.aud_names.specs.declared.awaited.AwaitedPart.{AwaitedPart}
use Rattle.aud_names.specs.declared.parts.PartKind.{PartKind}
use Rattle.aud_names.specs.declared.parts.PartKind.TheVariants as part
use Rattle.aud_names.specs.Objects.{awaited_parts}
use Rattle.aud_names.specs.Names as names
use Rattle.aud_names.specs.Names.{Region, Place}
use Rattle.aud_check_bodies.specs.Tables.{Tables, Outcome, no_body, with_region, region_kept, unit_kept, with_unit}
use Rattle.aud_check_bodies.specs.Accepts as accepts
use Rattle.aud_check_bodies.specs.Entries as declared
use Rattle.aud_check_bodies.specs.Objects as objects
use Rattle.aud_check_bodies.specs.Objects.{ObjectDeclared}
use Rattle.aud_check_bodies.specs.Operations as operations
use Rattle.aud_check_bodies.specs.Operations.{Head, of_entry, of_function, BodyPlaces}
use Rattle.aud_check_bodies.specs.Tasks as tasks
use Rattle.aud_check_bodies.specs.Declarations as d
use Rattle.aud_check_bodies.specs.Formals.{Formals, body_formals}
use Rattle.aud_check_bodies.specs.Regions as regions
use Rattle.aud_check_bodies.specs.Statements as s
use Rattle.aud_check_bodies.specs.Statements.{Around, nothing_around, task_around}
use Rattle.aud_check_bodies.proofs.Scoping.Declarations.{elaborated}
use Rattle.aud_check_bodies.proofs.Scoping.Tables.{Grows, declared_tables}
use Rattle.aud_check_bodies.proofs.Scoping.EntryTables.{entries_units}

-- what is elaborated behind the declarations of a body
abbrev pub behind : Outcome d.Declared → Scope → Scope
behind o outer = outer ++ elaborated (names.innermost o.made.place) ∷ []

-- within the statements of a loop
abbrev pub loop_scope : plain.Iteration → Place → Scope → Scope
loop_scope plain.forever n scope = scope
loop_scope (plain.while c) n scope = scope
loop_scope (plain.for i backward low high) n scope = scope ++ all_of_table (regions.shown_names (regions.loop_region i n).symbols) ∷ []

-- of a body that is entered: first those in its declarations, and then those in its statements, which see what it declares. The units that
-- it declares are entered behind its declarations
abbrev pub of_entered : (Scope → List Entry) → (Place → Tables → Scope → List Entry) → Outcome d.Declared → Tables → Scope → List Entry
of_entered front stated o t outer = front (behind o outer) ++ stated o.made.place (declared_tables o t) (behind o outer)

-- of a procedure, with its formals, and of a task, with its own number
abbrev pub of_procedure : Formals → Scope → List Entry → List Entry
of_procedure f scope within = record { formals = length f.profile; outer = scope } ∷ within

abbrev pub of_task : Scope → Entry
of_task scope = record { formals = 1; outer = scope }

-- a body of no task that waits for it is a task of its own
abbrev pub of_body : Option Awaited → Scope → List Entry
of_body None scope = of_task scope ∷ []
of_body (Some a) scope = []

-- within what an accept does, in the region of its formals
abbrev pub accept_scope : Region → Scope → Scope
accept_scope r scope = scope ++ all_of_table (regions.shown_names r.symbols) ∷ []

-- of an object: with these frames, of which the last is its own

abbrev pub of_operation : List NamedParameter → Scope → Entry
of_operation profile frames = record { formals = length profile; outer = frames }

-- what calls see of an operation or entry
abbrev pub operation_profile : plain.Operation → List Region → ObjectDeclared → List NamedParameter
operation_profile (plain.entry_operation e) outer x = (objects.operation_formals e.formals x.own (objects.further_out x outer)).profile
operation_profile (plain.procedure_operation i fs) outer x = (objects.operation_formals fs x.own (objects.further_out x outer)).profile
operation_profile (plain.function_operation i fs mark) outer x = (objects.function_signature fs mark x.own (objects.further_out x outer)).0

abbrev pub in_operations : ℕ → List plain.Operation → List Region → ObjectDeclared → Scope → List Entry
in_operations object [] outer x frames = []
in_operations object (o ∷ os) outer x frames = of_operation (operation_profile o outer x) frames ∷ in_operations object os outer (objects.one_operation object false o outer x) frames

abbrev pub in_items : ℕ → List plain.PrivateItem → List Region → ObjectDeclared → Scope → List Entry
in_items object [] outer x frames = []
in_items object (plain.private_operation o ∷ os) outer x frames = of_operation (operation_profile o outer x) frames ∷ in_items object os outer (objects.one_operation object true o outer x) frames
in_items object (plain.components first others mark initial ∷ os) outer x frames = in_items object os outer (objects.declared_components object (first ∷ others) mark initial outer x) frames

-- its own frame has all that it declares
abbrev pub object_scope : List ℕ → List plain.Operation → Option (List plain.PrivateItem) → Place → Tables → Scope → Scope
object_scope name operations hidden n t scope = scope ++ elaborated (objects.parts_declared name operations hidden n t).own ∷ []

abbrev pub in_object : List ℕ → List plain.Operation → Option (List plain.PrivateItem) → Place → Tables → Scope → List Entry
in_object name operations hidden n t frames =
    let none = objects.no_parts name n t in
    in_operations (length t.objects) operations n.regions none frames
    ++ in_items (length t.objects) (objects.hidden_items hidden) n.regions (objects.declared_operations (length t.objects) operations n.regions none) frames

-- a body of no operation that waits for it is an operation of its own
abbrev pub of_found : Option PartKind → Scope → List Entry
of_found None frames = of_operation [] frames ∷ []
of_found (Some k) frames = []

-- of a body, which is entered in its own place
abbrev pub of_body_of : Head → Ident → List plain.Formal → (Place → Tables → List Entry) → BodyPlaces → List AwaitedPart → Tables → Scope → List Entry
of_body_of head i fs within o awaited t frames =
    let here = operations.operation_place head o in
    let region = (operations.shape_of head fs here).region in
    let found = operations.part_awaited head i o awaited in
    of_found found frames ++ within (names.place_in region here.regions) (operations.operation_tables head found region here t)

-- the frames of the bodies of an object
abbrev pub bodies_scope : BodyPlaces → Scope → Scope
bodies_scope o scope = scope ++ elaborated (names.innermost o.inside) ∷ []

-- of the units that constructs declare, in this scope; of declarations what is elaborated behind all of them
abbrev mutual
  pub in_statement : plain.Statement → Around → Place → Tables → Scope → List Entry
  in_statement (plain.if_then at c ss arms otherwise) around n t scope =
      let first = s.checked_statements ss around n t in
      let second = s.checked_arms arms around n first.tables in
      in_statements ss around n t scope ++ (in_arms arms around n first.tables scope ++ in_others otherwise around n second.tables scope)
  in_statement (plain.loop label at i ss last semicolon) around n t scope = in_statements ss (s.labelled true label around) (s.loop_place i n) (s.loop_tables i n t) (loop_scope i n scope)
  in_statement (plain.block label at declare ds b) around n t scope =
      of_entered (λ inner. in_declarations ds (names.in_frame n) (region_kept t) inner) (λ m u inner. in_body b (s.labelled false label around) m u inner) (s.checked_declarations ds (names.in_frame n) (region_kept t)) t scope
  in_statement (plain.accepting x) around n t scope = in_accept x around n t scope
  in_statement (plain.select_accept at guard x xs otherwise) around n t scope =
      let first = s.checked_alternative x guard around n t in
      let second = s.checked_alternatives xs around n first.tables in
      in_alternative x guard around n t scope ++ (in_alternatives xs around n first.tables scope ++ in_others otherwise around n second.tables scope)
  in_statement (plain.select_call at x behind otherwise) around n t scope = in_others behind around n t scope ++ in_otherwise otherwise around n (s.checked_others behind around n t).tables scope
  in_statement _ around n t scope = []

  pub in_accept : plain.Accept → Around → Place → Tables → Scope → List Entry
  in_accept (plain.accept at i fs x) around n t scope = in_doing x (accepts.accept_formals fs n).region (s.in_accept (accepts.accepted i n) (accepts.accept_formals fs n).profile around) n t scope

  pub in_doing : plain.Doing → Region → Around → Place → Tables → Scope → List Entry
  in_doing plain.without_do r around n t scope = []
  in_doing (plain.with_do b) r around n t scope = in_body b around (names.place_in r n.regions) (with_region (regions.shown_names r.symbols) t) (accept_scope r scope)

  pub in_alternative : plain.Alternative → plain.MaybeExpression → Around → Place → Tables → Scope → List Entry
  in_alternative (plain.accept_alternative x ss) guard around n t scope = in_accept x around n t scope ++ in_others ss around n (s.checked_accept x around n t).tables scope
  in_alternative (plain.delay_alternative x ss) guard around n t scope = in_others ss around n t scope
  in_alternative plain.terminate_alternative guard around n t scope = []

  pub in_alternatives : plain.Alternatives → Around → Place → Tables → Scope → List Entry
  in_alternatives plain.no_alternatives around n t scope = []
  in_alternatives (plain.more_alternatives guard x xs) around n t scope = in_alternative x guard around n t scope ++ in_alternatives xs around n (s.checked_alternative x guard around n t).tables scope

  pub in_otherwise : plain.Otherwise → Around → Place → Tables → Scope → List Entry
  in_otherwise (plain.or_delay x ss) around n t scope = in_others ss around n t scope
  in_otherwise (plain.or_else ss) around n t scope = in_statements ss around n t scope

  pub in_arms : plain.Arms → Around → Place → Tables → Scope → List Entry
  in_arms plain.no_arms around n t scope = []
  in_arms (plain.more_arms at c ss arms) around n t scope = in_statements ss around n t scope ++ in_arms arms around n (s.checked_statements ss around n t).tables scope

  pub in_statements : plain.Statements → Around → Place → Tables → Scope → List Entry
  in_statements (plain.in_order x xs) around n t scope = in_statement x around n t scope ++ in_others xs around n (s.checked_statement x around n t).tables scope

  pub in_others : plain.MoreStatements → Around → Place → Tables → Scope → List Entry
  in_others plain.no_statements around n t scope = []
  in_others (plain.more_statements x xs) around n t scope = in_statement x around n t scope ++ in_others xs around n (s.checked_statement x around n t).tables scope

  pub in_body : plain.Body → Around → Place → Tables → Scope → List Entry
  in_body (plain.body begin ss hs end name semicolon) around n t scope = in_statements ss around n t scope ++ in_handlers hs (s.handling around) n (s.checked_statements ss around n t).tables scope

  pub in_handlers : plain.Handlers → Around → Place → Tables → Scope → List Entry
  in_handlers plain.no_handlers around n t scope = []
  in_handlers (plain.more_handlers choices ss hs) around n t scope = in_statements ss around n t scope ++ in_handlers hs around n (s.checked_statements ss around n t).tables scope

  pub in_declarations : plain.Declarations → Place → Tables → Scope → List Entry
  in_declarations plain.no_declarations n t scope = []
  in_declarations (plain.more_declarations x xs) n t scope = in_declaration x n t scope ++ in_declarations xs (s.checked_declaration x n t).made.place (s.checked_declaration x n t).tables scope

  pub in_declaration : plain.Declaration → Place → Tables → Scope → List Entry
  in_declaration (plain.procedure at i fs ds b) n t scope =
      let here : Place = s.procedure_place i n t in
      let f : Formals = body_formals fs n in
      let inner : Place = names.place_in f.region here.regions in
      let kept : Tables = unit_kept f.profile t in
      of_procedure f scope (of_entered (λ own. in_declarations ds inner (region_kept kept) own) (λ m u within. in_body b nothing_around m u within) (s.checked_declarations ds inner (region_kept kept)) kept scope)
  in_declaration (plain.task at is_type i x) n t scope = of_task scope ∷ []
  in_declaration (plain.task_body at i ds b) n t scope =
      let found : Option Awaited = tasks.task_awaited i n in
      let inner : Place = names.task_place i.name (tasks.body_task found t) (tasks.place_behind i n) in
      let kept : Tables = tasks.body_tables found t in
      of_body found scope ++ of_entered (λ own. in_declarations ds inner (region_kept kept) own) (λ m u within. in_body b task_around m u within) (s.checked_declarations ds inner (region_kept kept)) kept scope
  in_declaration (plain.protected at i operations hidden last) n t scope = in_object i.name operations hidden n t (object_scope i.name operations hidden n t scope)
  in_declaration (plain.protected_body at i inner last) n t scope =
      let here : Place = objects.object_behind i n in
      let object = objects.body_object (objects.object_awaited i n) t in
      let o : BodyPlaces = operations.body_places i.name object here in
      in_bodies inner o (awaited_parts object (names.innermost here).parts) (objects.object_tables (objects.object_awaited i n) i t) (bodies_scope o scope)
  in_declaration _ n t scope = []

  pub in_bodies : plain.OperationBodies → BodyPlaces → List AwaitedPart → Tables → Scope → List Entry
  in_bodies plain.no_bodies o awaited t frames = []
  in_bodies (plain.more_bodies x xs) o awaited t frames = in_operation x o awaited t frames ++ in_bodies xs o (s.checked_operation x o awaited t).made (s.checked_operation x o awaited t).tables frames

  pub in_operation : plain.OperationBody → BodyPlaces → List AwaitedPart → Tables → Scope → List Entry
  in_operation (plain.entry_body at i fs barrier ds b) o awaited t frames =
      of_body_of (of_entry barrier) i fs (λ inner kept. of_entered (λ own. in_declarations ds inner (region_kept kept) own) (λ m u within. in_body b (s.operation_around (of_entry barrier) fs o.object o.inside) m u within) (s.checked_declarations ds inner (region_kept kept)) kept frames) o awaited t frames
  in_operation (plain.procedure_body at i fs ds b) o awaited t frames =
      of_body_of operations.of_procedure i fs (λ inner kept. of_entered (λ own. in_declarations ds inner (region_kept kept) own) (λ m u within. in_body b (s.operation_around operations.of_procedure fs o.object o.inside) m u within) (s.checked_declarations ds inner (region_kept kept)) kept frames) o awaited t frames
  in_operation (plain.function_body at i fs mark ds b) o awaited t frames =
      of_body_of (of_function mark) i fs (λ inner kept. of_entered (λ own. in_declarations ds inner (region_kept kept) own) (λ m u within. in_body b (s.operation_around (of_function mark) fs o.object o.in_function) m u within) (s.checked_declarations ds inner (region_kept kept)) kept frames) o awaited t frames

abbrev pub in_entered : plain.Declarations → plain.Body → Around → Place → Tables → Scope → List Entry
in_entered ds b around n t outer = of_entered (λ inner. in_declarations ds n (region_kept t) inner) (λ m u inner. in_body b around m u inner) (s.checked_declarations ds n (region_kept t)) t outer

-- the same of the body of an operation by what it is of
abbrev pub in_operation_of : Head → Ident → List plain.Formal → plain.Declarations → plain.Body → BodyPlaces → List AwaitedPart → Tables → Scope → List Entry
in_operation_of head i fs ds b o awaited t frames = of_body_of head i fs (λ inner kept. in_entered ds b (s.operation_around head fs o.object (operations.operation_place head o)) inner kept frames) o awaited t frames

-- As many as are declared. That stands under a name of its own for each construct, so that the recursion below looks at nothing else.

StatementCounted : plain.Statement → Around → Place → Tables → Scope → Type 0
StatementCounted x around n t scope = length (s.checked_statement x around n t).tables.units ≡ length t.units + length (in_statement x around n t scope)

ArmsCounted : plain.Arms → Around → Place → Tables → Scope → Type 0
ArmsCounted x around n t scope = length (s.checked_arms x around n t).tables.units ≡ length t.units + length (in_arms x around n t scope)

StatementsCounted : plain.Statements → Around → Place → Tables → Scope → Type 0
StatementsCounted x around n t scope = length (s.checked_statements x around n t).tables.units ≡ length t.units + length (in_statements x around n t scope)

OthersCounted : plain.MoreStatements → Around → Place → Tables → Scope → Type 0
OthersCounted x around n t scope = length (s.checked_others x around n t).tables.units ≡ length t.units + length (in_others x around n t scope)

BodyCounted : plain.Body → Around → Place → Tables → Scope → Type 0
BodyCounted x around n t scope = length (s.checked_body x around n t).tables.units ≡ length t.units + length (in_body x around n t scope)

HandlersCounted : plain.Handlers → Around → Place → Tables → Scope → Type 0
HandlersCounted x around n t scope = length (s.checked_handlers x around n t).tables.units ≡ length t.units + length (in_handlers x around n t scope)

DeclarationsCounted : plain.Declarations → Place → Tables → Scope → Type 0
DeclarationsCounted x n t outer = length (s.checked_declarations x n t).tables.units ≡ length t.units + length (in_declarations x n t outer)

DeclarationCounted : plain.Declaration → Place → Tables → Scope → Type 0
DeclarationCounted x n t outer = length (s.checked_declaration x n t).tables.units ≡ length t.units + length (in_declaration x n t outer)

-- of two parts
both_counted : (xs ys : List Entry) (t u v : ℕ) → u ≡ t + length xs → v ≡ u + length ys → v ≡ t + length (xs ++ ys)
both_counted xs ys t u v h i = omega (arith, h, i, length-append xs ys)

none_counted : (t : ℕ) → t ≡ t + 0
none_counted t = omega arith

if_counted : (at : Pos) (c : plain.Expression) (ss : plain.Statements) (arms : plain.Arms) (otherwise : plain.MoreStatements) (around : Around) (n : Place) (t : Tables) (scope : Scope)
    → ((u : Tables) → StatementsCounted ss around n u scope) → ((u : Tables) → ArmsCounted arms around n u scope) → ((u : Tables) → OthersCounted otherwise around n u scope) → StatementCounted (plain.if_then at c ss arms otherwise) around n t scope
unfolding StatementCounted StatementsCounted ArmsCounted OthersCounted
if_counted at c ss arms otherwise around n t scope f g h =
    let first = (s.checked_statements ss around n t).tables in
    let second = (s.checked_arms arms around n first).tables in
    let third = (s.checked_others otherwise around n second).tables in
    let e1 = in_statements ss around n t scope in
    let e2 = in_arms arms around n first scope in
    let e3 = in_others otherwise around n second scope in
    both_counted e1 (e2 ++ e3) (length t.units) (length first.units) (length third.units) (f t) (both_counted e2 e3 (length first.units) (length second.units) (length third.units) (g first) (h second))

looped_counted : (label : Option Ident) (at : Pos) (i : plain.Iteration) (ss : plain.Statements) (last : Option Ident) (semicolon : Pos) (around : Around) (n : Place) (t : Tables) (scope : Scope)
    → ((within : Around) (m : Place) (u : Tables) (inner : Scope) → StatementsCounted ss within m u inner) → StatementCounted (plain.loop label at i ss last semicolon) around n t scope
unfolding StatementCounted StatementsCounted
looped_counted label at plain.forever ss last semicolon around n t scope f = f (s.labelled true label around) n t scope
looped_counted label at (plain.while c) ss last semicolon around n t scope f = f (s.labelled true label around) n t scope
looped_counted label at (plain.for i backward low high) ss last semicolon around n t scope f =
    f (s.labelled true label around) (regions.in_loop i n) (s.loop_tables (plain.for i backward low high) n t) (loop_scope (plain.for i backward low high) n scope)

entering_counted : (of_task : Bool) (ds : plain.Declarations) (b : plain.Body) (around : Around) (n : Place) (t : Tables) (outer : Scope)
    → ((scope : Scope) → DeclarationsCounted ds n (region_kept t) scope) → ((m : Place) (u : Tables) (inner : Scope) → BodyCounted b around m u inner) → length (s.entered_body of_task ds b around n t).tables.units ≡ length t.units + length (in_entered ds b around n t outer)
unfolding DeclarationsCounted BodyCounted
entering_counted of_task ds b around n t outer f g =
    let o = s.checked_declarations ds n (region_kept t) in
    let entry : Tables = declared_tables o t in
    let inner : Scope = behind o outer in
    both_counted (in_declarations ds n (region_kept t) inner) (in_body b around o.made.place entry inner) (length t.units) (length o.tables.units) (length (s.checked_body b around o.made.place entry).tables.units) (f inner) (g o.made.place entry inner)

block_counted : (label : Option Ident) (at : Pos) (declare : Bool) (ds : plain.Declarations) (b : plain.Body) (around : Around) (n : Place) (t : Tables) (scope : Scope)
    → ((m : Place) (u : Tables) (outer : Scope) → DeclarationsCounted ds m u outer) → ((within : Around) (m : Place) (u : Tables) (inner : Scope) → BodyCounted b within m u inner) → StatementCounted (plain.block label at declare ds b) around n t scope
unfolding StatementCounted
block_counted label at declare ds b around n t scope f g = entering_counted false ds b (s.labelled false label around) (names.in_frame n) t scope (f (names.in_frame n) (region_kept t)) (g (s.labelled false label around))

arm_counted : (at : Pos) (c : plain.Expression) (ss : plain.Statements) (arms : plain.Arms) (around : Around) (n : Place) (t : Tables) (scope : Scope)
    → ((u : Tables) → StatementsCounted ss around n u scope) → ((u : Tables) → ArmsCounted arms around n u scope) → ArmsCounted (plain.more_arms at c ss arms) around n t scope
unfolding StatementsCounted ArmsCounted
arm_counted at c ss arms around n t scope f g =
    let u = (s.checked_statements ss around n t).tables in
    both_counted (in_statements ss around n t scope) (in_arms arms around n u scope) (length t.units) (length u.units) (length (s.checked_arms arms around n u).tables.units) (f t) (g u)

in_order_counted : (x : plain.Statement) (xs : plain.MoreStatements) (around : Around) (n : Place) (t : Tables) (scope : Scope)
    → ((u : Tables) → StatementCounted x around n u scope) → ((u : Tables) → OthersCounted xs around n u scope) → StatementsCounted (plain.in_order x xs) around n t scope
unfolding StatementCounted OthersCounted StatementsCounted
in_order_counted x xs around n t scope f g =
    let u = (s.checked_statement x around n t).tables in
    both_counted (in_statement x around n t scope) (in_others xs around n u scope) (length t.units) (length u.units) (length (s.checked_others xs around n u).tables.units) (f t) (g u)

more_counted : (x : plain.Statement) (xs : plain.MoreStatements) (around : Around) (n : Place) (t : Tables) (scope : Scope)
    → ((u : Tables) → StatementCounted x around n u scope) → ((u : Tables) → OthersCounted xs around n u scope) → OthersCounted (plain.more_statements x xs) around n t scope
unfolding StatementCounted OthersCounted
more_counted x xs around n t scope f g =
    let u = (s.checked_statement x around n t).tables in
    both_counted (in_statement x around n t scope) (in_others xs around n u scope) (length t.units) (length u.units) (length (s.checked_others xs around n u).tables.units) (f t) (g u)

stated_counted : (begin : Pos) (ss : plain.Statements) (hs : plain.Handlers) (end : Pos) (name : Option Ident) (semicolon : Pos) (around : Around) (n : Place) (t : Tables) (scope : Scope)
    → ((u : Tables) → StatementsCounted ss around n u scope) → ((within : Around) (u : Tables) → HandlersCounted hs within n u scope) → BodyCounted (plain.body begin ss hs end name semicolon) around n t scope
unfolding StatementsCounted HandlersCounted BodyCounted
stated_counted begin ss hs end name semicolon around n t scope f g =
    let u = (s.checked_statements ss around n t).tables in
    both_counted (in_statements ss around n t scope) (in_handlers hs (s.handling around) n u scope) (length t.units) (length u.units) (length (s.checked_handlers hs (s.handling around) n u).tables.units) (f t) (g (s.handling around) u)

handler_counted : (choices : plain.Choices) (ss : plain.Statements) (hs : plain.Handlers) (around : Around) (n : Place) (t : Tables) (scope : Scope)
    → ((u : Tables) → StatementsCounted ss around n u scope) → ((u : Tables) → HandlersCounted hs around n u scope) → HandlersCounted (plain.more_handlers choices ss hs) around n t scope
unfolding StatementsCounted HandlersCounted
handler_counted choices ss hs around n t scope f g =
    let u = (s.checked_statements ss around n t).tables in
    both_counted (in_statements ss around n t scope) (in_handlers hs around n u scope) (length t.units) (length u.units) (length (s.checked_handlers hs around n u).tables.units) (f t) (g u)

joined_counted : (x : plain.Declaration) (xs : plain.Declarations) (n : Place) (t : Tables) (outer : Scope)
    → ((m : Place) (u : Tables) → DeclarationCounted x m u outer) → ((m : Place) (u : Tables) → DeclarationsCounted xs m u outer) → DeclarationsCounted (plain.more_declarations x xs) n t outer
unfolding DeclarationCounted DeclarationsCounted
joined_counted x xs n t outer f g =
    let o = s.checked_declaration x n t in
    both_counted (in_declaration x n t outer) (in_declarations xs o.made.place o.tables outer) (length t.units) (length o.tables.units) (length (s.checked_declarations xs o.made.place o.tables).tables.units) (f n t) (g o.made.place o.tables)

-- one that is put where its place was kept, and those in it
put_counted : (t : Tables) (profile : List NamedParameter) (units : List tree.UnitBody) (x : tree.UnitBody) (within : List Entry) → length units ≡ length (unit_kept profile t).units + length within → length (slice_set units (length t.units) x) ≡ length t.units + suc (length within)
put_counted t profile units x within h = omega (arith, length-set units (length t.units) x, length_push t.units no_body, h)

procedure_counted : (at : Pos) (i : Ident) (fs : List plain.Formal) (ds : plain.Declarations) (b : plain.Body) (n : Place) (t : Tables) (outer : Scope)
    → ((m : Place) (u : Tables) (scope : Scope) → DeclarationsCounted ds m u scope) → ((within : Around) (m : Place) (u : Tables) (inner : Scope) → BodyCounted b within m u inner) → DeclarationCounted (plain.procedure at i fs ds b) n t outer
unfolding DeclarationCounted
procedure_counted at i fs ds b n t outer f g =
    let here : Place = s.procedure_place i n t in
    let formals : Formals = body_formals fs n in
    let inner : Place = names.place_in formals.region here.regions in
    let kept : Tables = unit_kept formals.profile t in
    let own = s.checked_unit false at i.name ds b inner kept in
    put_counted t formals.profile own.tables.units own.made (in_entered ds b nothing_around inner kept outer)
    (entering_counted false ds b nothing_around inner kept outer (f inner (region_kept kept)) (g nothing_around))

task_declaration_counted : (at : Pos) (is_type : Bool) (i : Ident) (x : Option plain.TaskDefinition) (n : Place) (t : Tables) (outer : Scope) → DeclarationCounted (plain.task at is_type i x) n t outer
unfolding DeclarationCounted
task_declaration_counted at is_type i x n t outer =
    let here : Place = tasks.place_named is_type i n t in
    let es = tasks.task_entries x here t in
    omega (arith, length_push es.tables.units no_body, ap length (entries_units (length t.tasks) (declared.entries_of x) here.regions (declared.no_entries (names.body_frame here) t)))

own_counted : (found : Option Awaited) (t : Tables) (scope : Scope) → length (tasks.body_tables found t).units ≡ length t.units + length (of_body found scope)
own_counted None t scope = omega (arith, length_push t.units no_body)
own_counted (Some a) t scope = omega arith

task_body_counted : (at : Pos) (i : Ident) (ds : plain.Declarations) (b : plain.Body) (n : Place) (t : Tables) (outer : Scope)
    → ((m : Place) (u : Tables) (scope : Scope) → DeclarationsCounted ds m u scope) → ((within : Around) (m : Place) (u : Tables) (inner : Scope) → BodyCounted b within m u inner) → DeclarationCounted (plain.task_body at i ds b) n t outer
unfolding DeclarationCounted
task_body_counted at i ds b n t outer f g =
    let found : Option Awaited = tasks.task_awaited i n in
    let inner : Place = names.task_place i.name (tasks.body_task found t) (tasks.place_behind i n) in
    let kept : Tables = tasks.body_tables found t in
    let own = s.checked_unit true at i.name ds b inner kept in
    let within = in_entered ds b task_around inner kept outer in
    let count = entering_counted true ds b task_around inner kept outer (f inner (region_kept kept)) (g task_around) in
    both_counted (of_body found outer) within (length t.units) (length kept.units) (length (with_unit (tasks.body_unit found t) own.made own.tables).units) (own_counted found t outer) (length-set own.tables.units (tasks.body_unit found t) own.made ∙ count)

null_counted : (at : Pos) (around : Around) (n : Place) (t : Tables) (scope : Scope) → StatementCounted (plain.null at) around n t scope
unfolding StatementCounted
null_counted at around n t scope = none_counted (length t.units)

assign_counted : (x : plain.Name) (value : plain.Expression) (around : Around) (n : Place) (t : Tables) (scope : Scope) → StatementCounted (plain.assign x value) around n t scope
unfolding StatementCounted
assign_counted x value around n t scope = none_counted (length t.units)

call_counted : (x : plain.Name) (around : Around) (n : Place) (t : Tables) (scope : Scope) → StatementCounted (plain.call x) around n t scope
unfolding StatementCounted
call_counted x around n t scope = none_counted (length t.units)

exit_counted : (at : Pos) (name : Option Ident) (c : plain.MaybeExpression) (around : Around) (n : Place) (t : Tables) (scope : Scope) → StatementCounted (plain.exit at name c) around n t scope
unfolding StatementCounted
exit_counted at name c around n t scope = none_counted (length t.units)

return_counted : (at : Pos) (e : plain.MaybeExpression) (around : Around) (n : Place) (t : Tables) (scope : Scope) → StatementCounted (plain.return at e) around n t scope
unfolding StatementCounted
return_counted at e around n t scope = none_counted (length t.units)

raise_counted : (at : Pos) (name : Option Ident) (around : Around) (n : Place) (t : Tables) (scope : Scope) → StatementCounted (plain.raise at name) around n t scope
unfolding StatementCounted
raise_counted at name around n t scope = none_counted (length t.units)

no_arms_counted : (around : Around) (n : Place) (t : Tables) (scope : Scope) → ArmsCounted plain.no_arms around n t scope
unfolding ArmsCounted
no_arms_counted around n t scope = none_counted (length t.units)

no_others_counted : (around : Around) (n : Place) (t : Tables) (scope : Scope) → OthersCounted plain.no_statements around n t scope
unfolding OthersCounted
no_others_counted around n t scope = none_counted (length t.units)

no_handlers_counted : (around : Around) (n : Place) (t : Tables) (scope : Scope) → HandlersCounted plain.no_handlers around n t scope
unfolding HandlersCounted
no_handlers_counted around n t scope = none_counted (length t.units)

no_declarations_counted : (n : Place) (t : Tables) (outer : Scope) → DeclarationsCounted plain.no_declarations n t outer
unfolding DeclarationsCounted
no_declarations_counted n t outer = none_counted (length t.units)

object_counted : (first : Ident) (others : List Ident) (mark : Ident) (initial : plain.MaybeExpression) (n : Place) (t : Tables) (outer : Scope) → DeclarationCounted (plain.object first others mark initial) n t outer
unfolding DeclarationCounted
object_counted first others mark initial n t outer = none_counted (length t.units)

constant_counted : (first : Ident) (others : List Ident) (mark : Ident) (value : plain.Expression) (n : Place) (t : Tables) (outer : Scope) → DeclarationCounted (plain.constant first others mark value) n t outer
unfolding DeclarationCounted
constant_counted first others mark value n t outer = none_counted (length t.units)

array_counted : (first : Ident) (others : List Ident) (low high : Bound) (mark : Ident) (n : Place) (t : Tables) (outer : Scope) → DeclarationCounted (plain.array first others low high mark) n t outer
unfolding DeclarationCounted
array_counted first others low high mark n t outer = none_counted (length t.units)

exception_counted : (first : Ident) (others : List Ident) (n : Place) (t : Tables) (outer : Scope) → DeclarationCounted (plain.exception first others) n t outer
unfolding DeclarationCounted
exception_counted first others n t outer = none_counted (length t.units)

AcceptCounted : plain.Accept → Around → Place → Tables → Scope → Type 0
AcceptCounted x around n t scope = length (s.checked_accept x around n t).tables.units ≡ length t.units + length (in_accept x around n t scope)

DoingCounted : plain.Doing → Ident → Region → Around → Place → Tables → Scope → Type 0
DoingCounted x i r around n t scope = length (s.checked_doing x i r around n t).tables.units ≡ length t.units + length (in_doing x r around n t scope)

AlternativeCounted : plain.Alternative → plain.MaybeExpression → Around → Place → Tables → Scope → Type 0
AlternativeCounted x guard around n t scope = length (s.checked_alternative x guard around n t).tables.units ≡ length t.units + length (in_alternative x guard around n t scope)

AlternativesCounted : plain.Alternatives → Around → Place → Tables → Scope → Type 0
AlternativesCounted x around n t scope = length (s.checked_alternatives x around n t).tables.units ≡ length t.units + length (in_alternatives x around n t scope)

OtherwiseCounted : plain.Otherwise → Around → Place → Tables → Scope → Type 0
OtherwiseCounted x around n t scope = length (s.checked_otherwise x around n t).tables.units ≡ length t.units + length (in_otherwise x around n t scope)

accepting_counted : (x : plain.Accept) (around : Around) (n : Place) (t : Tables) (scope : Scope) → AcceptCounted x around n t scope → StatementCounted (plain.accepting x) around n t scope
unfolding StatementCounted AcceptCounted
accepting_counted x around n t scope f = f

accept_counted : (at : Pos) (i : Ident) (fs : List plain.Formal) (x : plain.Doing) (around : Around) (n : Place) (t : Tables) (scope : Scope) → ((r : Region) (within : Around) → DoingCounted x i r within n t scope) → AcceptCounted (plain.accept at i fs x) around n t scope
unfolding AcceptCounted DoingCounted
accept_counted at i fs x around n t scope f = f (accepts.accept_formals fs n).region (s.in_accept (accepts.accepted i n) (accepts.accept_formals fs n).profile around)

without_do_counted : (i : Ident) (r : Region) (around : Around) (n : Place) (t : Tables) (scope : Scope) → DoingCounted plain.without_do i r around n t scope
unfolding DoingCounted
without_do_counted i r around n t scope = none_counted (length t.units)

with_do_counted : (b : plain.Body) (i : Ident) (r : Region) (around : Around) (n : Place) (t : Tables) (scope : Scope) → ((m : Place) (u : Tables) (inner : Scope) → BodyCounted b around m u inner) → DoingCounted (plain.with_do b) i r around n t scope
unfolding DoingCounted BodyCounted
with_do_counted b i r around n t scope f = f (names.place_in r n.regions) (with_region (regions.shown_names r.symbols) t) (accept_scope r scope)

delaying_counted : (x : plain.Delay) (around : Around) (n : Place) (t : Tables) (scope : Scope) → StatementCounted (plain.delaying x) around n t scope
unfolding StatementCounted
delaying_counted x around n t scope = none_counted (length t.units)

accept_alternative_counted : (x : plain.Accept) (ss : plain.MoreStatements) (guard : plain.MaybeExpression) (around : Around) (n : Place) (t : Tables) (scope : Scope)
    → ((u : Tables) → AcceptCounted x around n u scope) → ((u : Tables) → OthersCounted ss around n u scope) → AlternativeCounted (plain.accept_alternative x ss) guard around n t scope
unfolding AcceptCounted OthersCounted AlternativeCounted
accept_alternative_counted x ss guard around n t scope f g =
    let u = (s.checked_accept x around n t).tables in
    both_counted (in_accept x around n t scope) (in_others ss around n u scope) (length t.units) (length u.units) (length (s.checked_others ss around n u).tables.units) (f t) (g u)

delay_alternative_counted : (x : plain.Delay) (ss : plain.MoreStatements) (guard : plain.MaybeExpression) (around : Around) (n : Place) (t : Tables) (scope : Scope) → OthersCounted ss around n t scope → AlternativeCounted (plain.delay_alternative x ss) guard around n t scope
unfolding OthersCounted AlternativeCounted
delay_alternative_counted x ss guard around n t scope f = f

terminate_counted : (guard : plain.MaybeExpression) (around : Around) (n : Place) (t : Tables) (scope : Scope) → AlternativeCounted plain.terminate_alternative guard around n t scope
unfolding AlternativeCounted
terminate_counted guard around n t scope = none_counted (length t.units)

no_alternatives_counted : (around : Around) (n : Place) (t : Tables) (scope : Scope) → AlternativesCounted plain.no_alternatives around n t scope
unfolding AlternativesCounted
no_alternatives_counted around n t scope = none_counted (length t.units)

more_alternatives_counted : (guard : plain.MaybeExpression) (x : plain.Alternative) (xs : plain.Alternatives) (around : Around) (n : Place) (t : Tables) (scope : Scope)
    → ((u : Tables) → AlternativeCounted x guard around n u scope) → ((u : Tables) → AlternativesCounted xs around n u scope) → AlternativesCounted (plain.more_alternatives guard x xs) around n t scope
unfolding AlternativeCounted AlternativesCounted
more_alternatives_counted guard x xs around n t scope f g =
    let u = (s.checked_alternative x guard around n t).tables in
    both_counted (in_alternative x guard around n t scope) (in_alternatives xs around n u scope) (length t.units) (length u.units) (length (s.checked_alternatives xs around n u).tables.units) (f t) (g u)

select_accept_counted : (at : Pos) (guard : plain.MaybeExpression) (x : plain.Alternative) (xs : plain.Alternatives) (otherwise : plain.MoreStatements) (around : Around) (n : Place) (t : Tables) (scope : Scope)
    → ((u : Tables) → AlternativeCounted x guard around n u scope) → ((u : Tables) → AlternativesCounted xs around n u scope) → ((u : Tables) → OthersCounted otherwise around n u scope) → StatementCounted (plain.select_accept at guard x xs otherwise) around n t scope
unfolding StatementCounted AlternativeCounted AlternativesCounted OthersCounted
select_accept_counted at guard x xs otherwise around n t scope f g h =
    let first = (s.checked_alternative x guard around n t).tables in
    let second = (s.checked_alternatives xs around n first).tables in
    let third = (s.checked_others otherwise around n second).tables in
    let e1 = in_alternative x guard around n t scope in
    let e2 = in_alternatives xs around n first scope in
    let e3 = in_others otherwise around n second scope in
    both_counted e1 (e2 ++ e3) (length t.units) (length first.units) (length third.units) (f t) (both_counted e2 e3 (length first.units) (length second.units) (length third.units) (g first) (h second))

or_delay_counted : (x : plain.Delay) (ss : plain.MoreStatements) (around : Around) (n : Place) (t : Tables) (scope : Scope) → OthersCounted ss around n t scope → OtherwiseCounted (plain.or_delay x ss) around n t scope
unfolding OthersCounted OtherwiseCounted
or_delay_counted x ss around n t scope f = f

or_else_counted : (ss : plain.Statements) (around : Around) (n : Place) (t : Tables) (scope : Scope) → StatementsCounted ss around n t scope → OtherwiseCounted (plain.or_else ss) around n t scope
unfolding StatementsCounted OtherwiseCounted
or_else_counted ss around n t scope f = f

select_call_counted : (at : Pos) (x : plain.Name) (behind : plain.MoreStatements) (otherwise : plain.Otherwise) (around : Around) (n : Place) (t : Tables) (scope : Scope)
    → ((u : Tables) → OthersCounted behind around n u scope) → ((u : Tables) → OtherwiseCounted otherwise around n u scope) → StatementCounted (plain.select_call at x behind otherwise) around n t scope
unfolding StatementCounted OthersCounted OtherwiseCounted
select_call_counted at x behind otherwise around n t scope f g =
    let u = (s.checked_others behind around n t).tables in
    both_counted (in_others behind around n t scope) (in_otherwise otherwise around n u scope) (length t.units) (length u.units) (length (s.checked_otherwise otherwise around n u).tables.units) (f t) (g u)

abort_counted : (at : Pos) (x : plain.Name) (xs : plain.Names) (around : Around) (n : Place) (t : Tables) (scope : Scope) → StatementCounted (plain.abort at x xs) around n t scope
unfolding StatementCounted
abort_counted at x xs around n t scope = none_counted (length t.units)

requeue_counted : (at : Pos) (x : plain.Name) (with_abort : Bool) (around : Around) (n : Place) (t : Tables) (scope : Scope) → StatementCounted (plain.requeue at x with_abort) around n t scope
unfolding StatementCounted
requeue_counted at x with_abort around n t scope = none_counted (length t.units)

pub operation_counted : (object : ℕ) (is_private : Bool) (x : plain.Operation) (outer : List Region) (o : ObjectDeclared) → length (objects.one_operation object is_private x outer o).tables.units ≡ length o.tables.units + 1
operation_counted object is_private (plain.entry_operation e) outer o = omega (arith, length_push o.tables.units no_body)
operation_counted object is_private (plain.procedure_operation i fs) outer o = omega (arith, length_push o.tables.units no_body)
operation_counted object is_private (plain.function_operation i fs mark) outer o = omega (arith, length_push o.tables.units no_body)

pub operations_counted : (object : ℕ) (xs : List plain.Operation) (outer : List Region) (o : ObjectDeclared) (frames : Scope) → length (objects.declared_operations object xs outer o).tables.units ≡ length o.tables.units + length (in_operations object xs outer o frames)
operations_counted object [] outer o frames = omega arith
operations_counted object (x ∷ xs) outer o frames = omega (arith, operation_counted object false x outer o, operations_counted object xs outer (objects.one_operation object false x outer o) frames)

pub items_counted : (object : ℕ) (xs : List plain.PrivateItem) (outer : List Region) (o : ObjectDeclared) (frames : Scope) → length (objects.declared_items object xs outer o).tables.units ≡ length o.tables.units + length (in_items object xs outer o frames)
items_counted object [] outer o frames = omega arith
items_counted object (plain.private_operation x ∷ xs) outer o frames = omega (arith, operation_counted object true x outer o, items_counted object xs outer (objects.one_operation object true x outer o) frames)
items_counted object (plain.components first others mark initial ∷ xs) outer o frames = items_counted object xs outer (objects.declared_components object (first ∷ others) mark initial outer o) frames

pub object_is_counted : (name : List ℕ) (operations : List plain.Operation) (hidden : Option (List plain.PrivateItem)) (n : Place) (t : Tables) (frames : Scope) → length (objects.parts_declared name operations hidden n t).tables.units ≡ length t.units + length (in_object name operations hidden n t frames)
object_is_counted name operations hidden n t frames =
    let none = objects.no_parts name n t in
    let first = objects.declared_operations (length t.objects) operations n.regions none in
    both_counted (in_operations (length t.objects) operations n.regions none frames) (in_items (length t.objects) (objects.hidden_items hidden) n.regions first frames) (length t.units) (length first.tables.units) (length (objects.parts_declared name operations hidden n t).tables.units)
    (operations_counted (length t.objects) operations n.regions none frames) (items_counted (length t.objects) (objects.hidden_items hidden) n.regions first frames)

protected_counted : (at : Pos) (i : Ident) (operations : List plain.Operation) (hidden : Option (List plain.PrivateItem)) (last : Option Ident) (n : Place) (t : Tables) (outer : Scope) → DeclarationCounted (plain.protected at i operations hidden last) n t outer
unfolding DeclarationCounted
protected_counted at i operations hidden last n t outer = object_is_counted i.name operations hidden n t (object_scope i.name operations hidden n t outer)

-- bodies of operations

BodiesCounted : plain.OperationBodies → BodyPlaces → List AwaitedPart → Tables → Scope → Type 0
BodiesCounted x o awaited t frames = length (s.checked_bodies x o awaited t).tables.units ≡ length t.units + length (in_bodies x o awaited t frames)

OperationCounted : plain.OperationBody → BodyPlaces → List AwaitedPart → Tables → Scope → Type 0
OperationCounted x o awaited t frames = length (s.checked_operation x o awaited t).tables.units ≡ length t.units + length (in_operation x o awaited t frames)

pub barrier_kept_units : (found : Option PartKind) (b : Option tree.BooleanExpression) (t : Tables) → (operations.barrier_kept found b t).units ≡ t.units
barrier_kept_units (Some (part.Entry number unit)) (Some b) t = refl
barrier_kept_units (Some (part.Entry number unit)) None t = refl
barrier_kept_units (Some (part.Operation unit subprogram)) b t = refl
barrier_kept_units (Some (part.Component x)) b t = refl
barrier_kept_units None b t = refl

found_counted : (found : Option PartKind) (b : Option tree.BooleanExpression) (t : Tables) (frames : Scope) → length (operations.barrier_kept found b (operations.operation_kept found t)).units ≡ length t.units + length (of_found found frames)
found_counted None b t frames = omega (arith, ap length (barrier_kept_units None b (operations.operation_kept None t)), length_push t.units no_body)
found_counted (Some k) b t frames = omega (arith, ap length (barrier_kept_units (Some k) b t))

operation_of_counted : (head : Head) (at : Pos) (i : Ident) (fs : List plain.Formal) (ds : plain.Declarations) (b : plain.Body) (o : BodyPlaces) (awaited : List AwaitedPart) (t : Tables) (frames : Scope)
    → ((m : Place) (u : Tables) (scope : Scope) → DeclarationsCounted ds m u scope) → ((within : Around) (m : Place) (u : Tables) (inner : Scope) → BodyCounted b within m u inner) → length (s.checked_operation_of head at i fs ds b o awaited t).tables.units ≡ length t.units + length (in_operation_of head i fs ds b o awaited t frames)
operation_of_counted head at i fs ds b o awaited t frames f g =
    let here : Place = operations.operation_place head o in
    let region = (operations.shape_of head fs here).region in
    let found = operations.part_awaited head i o awaited in
    let inner : Place = names.place_in region here.regions in
    let kept : Tables = operations.operation_tables head found region here t in
    let around : Around = s.operation_around head fs o.object here in
    let own = s.checked_operation_unit head at i fs ds b o.object here inner kept in
    let within = in_entered ds b around inner kept frames in
    let count = entering_counted false ds b around inner kept frames (f inner (region_kept kept)) (g around) in
    both_counted (of_found found frames) within (length t.units) (length kept.units) (length (with_unit (operations.operation_unit found t) own.made own.tables).units) (found_counted found (operations.barrier_of head region here) t frames) (length-set own.tables.units (operations.operation_unit found t) own.made ∙ count)

entry_body_counted : (at : Pos) (i : Ident) (fs : List plain.Formal) (barrier : plain.Expression) (ds : plain.Declarations) (b : plain.Body) (o : BodyPlaces) (awaited : List AwaitedPart) (t : Tables) (frames : Scope)
    → ((m : Place) (u : Tables) (scope : Scope) → DeclarationsCounted ds m u scope) → ((within : Around) (m : Place) (u : Tables) (inner : Scope) → BodyCounted b within m u inner) → OperationCounted (plain.entry_body at i fs barrier ds b) o awaited t frames
unfolding OperationCounted
entry_body_counted at i fs barrier ds b o awaited t frames f g = operation_of_counted (of_entry barrier) at i fs ds b o awaited t frames f g

procedure_body_counted : (at : Pos) (i : Ident) (fs : List plain.Formal) (ds : plain.Declarations) (b : plain.Body) (o : BodyPlaces) (awaited : List AwaitedPart) (t : Tables) (frames : Scope)
    → ((m : Place) (u : Tables) (scope : Scope) → DeclarationsCounted ds m u scope) → ((within : Around) (m : Place) (u : Tables) (inner : Scope) → BodyCounted b within m u inner) → OperationCounted (plain.procedure_body at i fs ds b) o awaited t frames
unfolding OperationCounted
procedure_body_counted at i fs ds b o awaited t frames f g = operation_of_counted operations.of_procedure at i fs ds b o awaited t frames f g

function_body_counted : (at : Pos) (i : Ident) (fs : List plain.Formal) (mark : Ident) (ds : plain.Declarations) (b : plain.Body) (o : BodyPlaces) (awaited : List AwaitedPart) (t : Tables) (frames : Scope)
    → ((m : Place) (u : Tables) (scope : Scope) → DeclarationsCounted ds m u scope) → ((within : Around) (m : Place) (u : Tables) (inner : Scope) → BodyCounted b within m u inner) → OperationCounted (plain.function_body at i fs mark ds b) o awaited t frames
unfolding OperationCounted
function_body_counted at i fs mark ds b o awaited t frames f g = operation_of_counted (of_function mark) at i fs ds b o awaited t frames f g

no_bodies_counted : (o : BodyPlaces) (awaited : List AwaitedPart) (t : Tables) (frames : Scope) → BodiesCounted plain.no_bodies o awaited t frames
unfolding BodiesCounted
no_bodies_counted o awaited t frames = none_counted (length t.units)

more_bodies_counted : (x : plain.OperationBody) (xs : plain.OperationBodies) (o : BodyPlaces) (awaited : List AwaitedPart) (t : Tables) (frames : Scope) → OperationCounted x o awaited t frames → ((still : List AwaitedPart) (u : Tables) → BodiesCounted xs o still u frames) → BodiesCounted (plain.more_bodies x xs) o awaited t frames
unfolding OperationCounted BodiesCounted
more_bodies_counted x xs o awaited t frames f g =
    let first = s.checked_operation x o awaited t in
    both_counted (in_operation x o awaited t frames) (in_bodies xs o first.made first.tables frames) (length t.units) (length first.tables.units) (length (s.checked_bodies xs o first.made first.tables).tables.units) f (g first.made first.tables)

body_object_units : (found : Option AwaitedObject) (i : Ident) (t : Tables) → (objects.object_tables found i t).units ≡ t.units
body_object_units None i t = refl
body_object_units (Some o) i t = refl

protected_body_counted : (at : Pos) (i : Ident) (inner : plain.OperationBodies) (last : Option Ident) (n : Place) (t : Tables) (outer : Scope) → ((o : BodyPlaces) (awaited : List AwaitedPart) (u : Tables) (frames : Scope) → BodiesCounted inner o awaited u frames) → DeclarationCounted (plain.protected_body at i inner last) n t outer
unfolding BodiesCounted DeclarationCounted
protected_body_counted at i inner last n t outer f =
    let found = objects.object_awaited i n in
    let object = objects.body_object found t in
    let here : Place = objects.object_behind i n in
    let o : BodyPlaces = operations.body_places i.name object here in
    omega (arith, f o (awaited_parts object (names.innermost here).parts) (objects.object_tables found i t) (bodies_scope o outer), ap length (body_object_units found i t))

mutual
  count_statement : (x : plain.Statement) (around : Around) (n : Place) (t : Tables) (scope : Scope) → StatementCounted x around n t scope
  count_statement (plain.null at) around n t scope = null_counted at around n t scope
  count_statement (plain.assign x value) around n t scope = assign_counted x value around n t scope
  count_statement (plain.call x) around n t scope = call_counted x around n t scope
  count_statement (plain.if_then at c ss arms otherwise) around n t scope = if_counted at c ss arms otherwise around n t scope (λ u. count_statements ss around n u scope) (λ u. count_arms arms around n u scope) (λ u. count_others otherwise around n u scope)
  count_statement (plain.loop label at i ss last semicolon) around n t scope = looped_counted label at i ss last semicolon around n t scope (λ within m u inner. count_statements ss within m u inner)
  count_statement (plain.exit at name c) around n t scope = exit_counted at name c around n t scope
  count_statement (plain.block label at declare ds b) around n t scope = block_counted label at declare ds b around n t scope (λ m u outer. count_declarations ds m u outer) (λ within m u inner. count_body b within m u inner)
  count_statement (plain.return at e) around n t scope = return_counted at e around n t scope
  count_statement (plain.raise at name) around n t scope = raise_counted at name around n t scope
  count_statement (plain.accepting x) around n t scope = accepting_counted x around n t scope (count_accept x around n t scope)
  count_statement (plain.delaying x) around n t scope = delaying_counted x around n t scope
  count_statement (plain.select_accept at guard x xs otherwise) around n t scope = select_accept_counted at guard x xs otherwise around n t scope (λ u. count_alternative x guard around n u scope) (λ u. count_alternatives xs around n u scope) (λ u. count_others otherwise around n u scope)
  count_statement (plain.select_call at x behind otherwise) around n t scope = select_call_counted at x behind otherwise around n t scope (λ u. count_others behind around n u scope) (λ u. count_otherwise otherwise around n u scope)
  count_statement (plain.abort at x xs) around n t scope = abort_counted at x xs around n t scope
  count_statement (plain.requeue at x with_abort) around n t scope = requeue_counted at x with_abort around n t scope

  count_accept : (x : plain.Accept) (around : Around) (n : Place) (t : Tables) (scope : Scope) → AcceptCounted x around n t scope
  count_accept (plain.accept at i fs x) around n t scope = accept_counted at i fs x around n t scope (λ r within. count_doing x i r within n t scope)

  count_doing : (x : plain.Doing) (i : Ident) (r : Region) (around : Around) (n : Place) (t : Tables) (scope : Scope) → DoingCounted x i r around n t scope
  count_doing plain.without_do i r around n t scope = without_do_counted i r around n t scope
  count_doing (plain.with_do b) i r around n t scope = with_do_counted b i r around n t scope (λ m u inner. count_body b around m u inner)

  count_alternative : (x : plain.Alternative) (guard : plain.MaybeExpression) (around : Around) (n : Place) (t : Tables) (scope : Scope) → AlternativeCounted x guard around n t scope
  count_alternative (plain.accept_alternative x ss) guard around n t scope = accept_alternative_counted x ss guard around n t scope (λ u. count_accept x around n u scope) (λ u. count_others ss around n u scope)
  count_alternative (plain.delay_alternative x ss) guard around n t scope = delay_alternative_counted x ss guard around n t scope (count_others ss around n t scope)
  count_alternative plain.terminate_alternative guard around n t scope = terminate_counted guard around n t scope

  count_alternatives : (x : plain.Alternatives) (around : Around) (n : Place) (t : Tables) (scope : Scope) → AlternativesCounted x around n t scope
  count_alternatives plain.no_alternatives around n t scope = no_alternatives_counted around n t scope
  count_alternatives (plain.more_alternatives guard x xs) around n t scope = more_alternatives_counted guard x xs around n t scope (λ u. count_alternative x guard around n u scope) (λ u. count_alternatives xs around n u scope)

  count_otherwise : (x : plain.Otherwise) (around : Around) (n : Place) (t : Tables) (scope : Scope) → OtherwiseCounted x around n t scope
  count_otherwise (plain.or_delay x ss) around n t scope = or_delay_counted x ss around n t scope (count_others ss around n t scope)
  count_otherwise (plain.or_else ss) around n t scope = or_else_counted ss around n t scope (count_statements ss around n t scope)

  count_arms : (x : plain.Arms) (around : Around) (n : Place) (t : Tables) (scope : Scope) → ArmsCounted x around n t scope
  count_arms plain.no_arms around n t scope = no_arms_counted around n t scope
  count_arms (plain.more_arms at c ss arms) around n t scope = arm_counted at c ss arms around n t scope (λ u. count_statements ss around n u scope) (λ u. count_arms arms around n u scope)

  count_statements : (x : plain.Statements) (around : Around) (n : Place) (t : Tables) (scope : Scope) → StatementsCounted x around n t scope
  count_statements (plain.in_order x xs) around n t scope = in_order_counted x xs around n t scope (λ u. count_statement x around n u scope) (λ u. count_others xs around n u scope)

  count_others : (x : plain.MoreStatements) (around : Around) (n : Place) (t : Tables) (scope : Scope) → OthersCounted x around n t scope
  count_others plain.no_statements around n t scope = no_others_counted around n t scope
  count_others (plain.more_statements x xs) around n t scope = more_counted x xs around n t scope (λ u. count_statement x around n u scope) (λ u. count_others xs around n u scope)

  count_body : (x : plain.Body) (around : Around) (n : Place) (t : Tables) (scope : Scope) → BodyCounted x around n t scope
  count_body (plain.body begin ss hs end name semicolon) around n t scope = stated_counted begin ss hs end name semicolon around n t scope (λ u. count_statements ss around n u scope) (λ within u. count_handlers hs within n u scope)

  count_handlers : (x : plain.Handlers) (around : Around) (n : Place) (t : Tables) (scope : Scope) → HandlersCounted x around n t scope
  count_handlers plain.no_handlers around n t scope = no_handlers_counted around n t scope
  count_handlers (plain.more_handlers choices ss hs) around n t scope = handler_counted choices ss hs around n t scope (λ u. count_statements ss around n u scope) (λ u. count_handlers hs around n u scope)

  count_declarations : (x : plain.Declarations) (n : Place) (t : Tables) (outer : Scope) → DeclarationsCounted x n t outer
  count_declarations plain.no_declarations n t outer = no_declarations_counted n t outer
  count_declarations (plain.more_declarations x xs) n t outer = joined_counted x xs n t outer (λ m u. count_declaration x m u outer) (λ m u. count_declarations xs m u outer)

  count_declaration : (x : plain.Declaration) (n : Place) (t : Tables) (outer : Scope) → DeclarationCounted x n t outer
  count_declaration (plain.object first others mark initial) n t outer = object_counted first others mark initial n t outer
  count_declaration (plain.constant first others mark value) n t outer = constant_counted first others mark value n t outer
  count_declaration (plain.array first others low high mark) n t outer = array_counted first others low high mark n t outer
  count_declaration (plain.exception first others) n t outer = exception_counted first others n t outer
  count_declaration (plain.procedure at i fs ds b) n t outer = procedure_counted at i fs ds b n t outer (λ m u scope. count_declarations ds m u scope) (λ within m u inner. count_body b within m u inner)
  count_declaration (plain.task at is_type i x) n t outer = task_declaration_counted at is_type i x n t outer
  count_declaration (plain.task_body at i ds b) n t outer = task_body_counted at i ds b n t outer (λ m u scope. count_declarations ds m u scope) (λ within m u inner. count_body b within m u inner)
  count_declaration (plain.protected at i operations hidden last) n t outer = protected_counted at i operations hidden last n t outer
  count_declaration (plain.protected_body at i inner last) n t outer = protected_body_counted at i inner last n t outer (λ o awaited u frames. count_bodies inner o awaited u frames)

  count_bodies : (x : plain.OperationBodies) (o : BodyPlaces) (awaited : List AwaitedPart) (t : Tables) (frames : Scope) → BodiesCounted x o awaited t frames
  count_bodies plain.no_bodies o awaited t frames = no_bodies_counted o awaited t frames
  count_bodies (plain.more_bodies x xs) o awaited t frames = more_bodies_counted x xs o awaited t frames (count_operation x o awaited t frames) (λ still u. count_bodies xs o still u frames)

  count_operation : (x : plain.OperationBody) (o : BodyPlaces) (awaited : List AwaitedPart) (t : Tables) (frames : Scope) → OperationCounted x o awaited t frames
  count_operation (plain.entry_body at i fs barrier ds b) o awaited t frames = entry_body_counted at i fs barrier ds b o awaited t frames (λ m u scope. count_declarations ds m u scope) (λ within m u inner. count_body b within m u inner)
  count_operation (plain.procedure_body at i fs ds b) o awaited t frames = procedure_body_counted at i fs ds b o awaited t frames (λ m u scope. count_declarations ds m u scope) (λ within m u inner. count_body b within m u inner)
  count_operation (plain.function_body at i fs mark ds b) o awaited t frames = function_body_counted at i fs mark ds b o awaited t frames (λ m u scope. count_declarations ds m u scope) (λ within m u inner. count_body b within m u inner)

pub statement_counted : (x : plain.Statement) (around : Around) (n : Place) (t : Tables) (scope : Scope) → length (s.checked_statement x around n t).tables.units ≡ length t.units + length (in_statement x around n t scope)
unfolding StatementCounted
statement_counted x around n t scope = count_statement x around n t scope

pub accept_is_counted : (x : plain.Accept) (around : Around) (n : Place) (t : Tables) (scope : Scope) → length (s.checked_accept x around n t).tables.units ≡ length t.units + length (in_accept x around n t scope)
unfolding AcceptCounted
accept_is_counted x around n t scope = count_accept x around n t scope

pub alternative_counted : (x : plain.Alternative) (guard : plain.MaybeExpression) (around : Around) (n : Place) (t : Tables) (scope : Scope) → length (s.checked_alternative x guard around n t).tables.units ≡ length t.units + length (in_alternative x guard around n t scope)
unfolding AlternativeCounted
alternative_counted x guard around n t scope = count_alternative x guard around n t scope

pub alternatives_counted : (x : plain.Alternatives) (around : Around) (n : Place) (t : Tables) (scope : Scope) → length (s.checked_alternatives x around n t).tables.units ≡ length t.units + length (in_alternatives x around n t scope)
unfolding AlternativesCounted
alternatives_counted x around n t scope = count_alternatives x around n t scope

pub others_counted : (x : plain.MoreStatements) (around : Around) (n : Place) (t : Tables) (scope : Scope) → length (s.checked_others x around n t).tables.units ≡ length t.units + length (in_others x around n t scope)
unfolding OthersCounted
others_counted x around n t scope = count_others x around n t scope

pub arms_counted : (x : plain.Arms) (around : Around) (n : Place) (t : Tables) (scope : Scope) → length (s.checked_arms x around n t).tables.units ≡ length t.units + length (in_arms x around n t scope)
unfolding ArmsCounted
arms_counted x around n t scope = count_arms x around n t scope

pub statements_counted : (x : plain.Statements) (around : Around) (n : Place) (t : Tables) (scope : Scope) → length (s.checked_statements x around n t).tables.units ≡ length t.units + length (in_statements x around n t scope)
unfolding StatementsCounted
statements_counted x around n t scope = count_statements x around n t scope

pub declarations_counted : (x : plain.Declarations) (n : Place) (t : Tables) (outer : Scope) → length (s.checked_declarations x n t).tables.units ≡ length t.units + length (in_declarations x n t outer)
unfolding DeclarationsCounted
declarations_counted x n t outer = count_declarations x n t outer

pub declaration_counted : (x : plain.Declaration) (n : Place) (t : Tables) (outer : Scope) → length (s.checked_declaration x n t).tables.units ≡ length t.units + length (in_declaration x n t outer)
unfolding DeclarationCounted
declaration_counted x n t outer = count_declaration x n t outer

pub operation_body_counted : (x : plain.OperationBody) (o : BodyPlaces) (awaited : List AwaitedPart) (t : Tables) (frames : Scope) → length (s.checked_operation x o awaited t).tables.units ≡ length t.units + length (in_operation x o awaited t frames)
unfolding OperationCounted
operation_body_counted x o awaited t frames = count_operation x o awaited t frames

-- in a body that is entered
pub entered_counted : (of_task : Bool) (ds : plain.Declarations) (b : plain.Body) (around : Around) (n : Place) (t : Tables) (outer : Scope) → length (s.entered_body of_task ds b around n t).tables.units ≡ length t.units + length (in_entered ds b around n t outer)
entered_counted of_task ds b around n t outer = entering_counted of_task ds b around n t outer (λ scope. count_declarations ds n (region_kept t) scope) (λ m u inner. count_body b around m u inner)

-- The entries of what a construct declares stand among all, from the next unit's on; each unit that is declared has a profile.

pub record Ready (entries : List Entry) (t : Tables) (xs : List Entry) : Type 0 where
  pub even : length t.profiles ≡ length t.units
  pub even_entries : length t.entry_profiles ≡ length t.entries
  pub long : length t.units + length xs ≤ length entries
  pub each : (k : ℕ) → k < length xs → entry_of entries (length t.units + k) ≡ slice_index_or xs k no_entry

pub first_ready : (entries : List Entry) (t : Tables) (xs ys : List Entry) → Ready entries t (xs ++ ys) → Ready entries t xs
first_ready entries t xs ys h = record {
  even = h.even;
  even_entries = h.even_entries;
  long = omega (arith, h.long, length-append xs ys);
  each = λ k lt. h.each k (omega (arith, lt, length-append xs ys)) ∙ get_or_append_left xs ys no_entry k lt;
}

pub second_ready : (entries : List Entry) (t u : Tables) (xs ys : List Entry) → Grows t u → length u.units ≡ length t.units + length xs → Ready entries t (xs ++ ys) → Ready entries u ys
second_ready entries t u xs ys g e h = record {
  even = omega (arith, h.even, g.even, ap length g.profiles, length-append t.profiles g.more_profiles);
  even_entries = omega (arith, h.even_entries, g.entries, ap length g.entry_profiles, length-append t.entry_profiles g.more_entry_profiles);
  long = omega (arith, e, h.long, length-append xs ys);
  each = λ k lt.
      let at : length u.units + k ≡ length t.units + (length xs + k) = omega (arith, e) in
      ap (entry_of entries) at ∙ h.each (length xs + k) (omega (arith, lt, length-append xs ys)) ∙ get_or-append-add xs ys k no_entry;
}
