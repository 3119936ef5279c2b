-- The tables only grow behind each construct, by recursion on it.
use Rattle.std.proofs.Common.{Bool, true, false, Option, Some, None, List, [], ◌∷◌, length, append-nil, arith, refl, sym}
use Rattle.aud_text.specs.declared.place.Pos.{Pos}
use Rattle.aud_syntax.specs.declared.tree.Bound.{Bound}
use Rattle.aud_syntax.specs.declared.tree.Ident.{Ident}
use Rattle.aud_syntax.specs.Plain as plain
use Rattle.aud_typed.specs.Tree as tree
use Rattle.aud_names.specs.declared.awaited.AwaitedObject.{AwaitedObject}
use Rattle.aud_names.specs.declared.awaited.AwaitedPart.{AwaitedPart}
use Rattle.aud_names.specs.declared.parts.PartKind.{PartKind}
use Rattle.aud_names.specs.declared.parts.PartKind.TheVariants as part
use Rattle.aud_names.specs.Objects.{awaited_parts}
use Rattle.aud_names.specs.Names as names
use Rattle.aud_names.specs.Names.{Region, Place}
use Rattle.aud_check_bodies.specs.Regions.{shown_names}
use Rattle.aud_check_bodies.specs.Tables.{Tables, Outcome, with_region, region_kept, unit_kept}
use Rattle.aud_check_bodies.specs.Accepts as accepts
use Rattle.aud_check_bodies.specs.Entries as entries
use Rattle.aud_check_bodies.specs.Objects as objects
use Rattle.aud_check_bodies.specs.Operations as operations
use Rattle.aud_check_bodies.specs.Operations.{Head, of_entry, of_procedure, of_function, BodyPlaces}
use Rattle.aud_check_bodies.specs.Tasks as tasks
use Rattle.aud_check_bodies.specs.Declarations as d
use Rattle.aud_check_bodies.specs.Formals.{body_formals}
use Rattle.aud_check_bodies.specs.Regions as regions
use Rattle.aud_check_bodies.specs.Statements as s
use Rattle.aud_check_bodies.specs.Statements.{Around, nothing_around, task_around}
use Rattle.aud_check_bodies.proofs.Scoping.Declarations.{exceptions_more}
use Rattle.aud_check_bodies.proofs.Scoping.Tables.{Grows, same, further, region_grows, named_grows, put_grows, unit_grows, task_grows, own_grows, object_kept_grows, barrier_grows, declared_tables}
use Rattle.aud_check_bodies.proofs.Scoping.EntryTables.{entries_grow}
use Rattle.aud_check_bodies.proofs.Scoping.ObjectTables.{parts_grow, parts_distinct}

exceptions_grow : (is : List Ident) (n : Place) (t : Tables) → Grows t (d.checked_exceptions is n t).tables
exceptions_grow is n t = record { more_regions = []; more_profiles = []; more_tasks = []; more_entry_profiles = []; regions = sym (append-nil t.regions); profiles = sym (append-nil t.profiles); tasks = sym (append-nil t.tasks); even = omega arith; exceptions = exceptions_more is (d.exceptions_in n t.exceptions); objects = omega arith; distinct = λ z. z; stay = λ n lt. refl; entry_profiles = sym (append-nil t.entry_profiles); entries = omega arith; planned = λ n lt. refl }

loop_grows : (i : plain.Iteration) (n : Place) (t : Tables) → Grows t (s.loop_tables i n t)
loop_grows plain.forever n t = same t
loop_grows (plain.while c) n t = same t
loop_grows (plain.for i backward low high) n t = region_grows _ t

-- That a construct's tables grow stands under a name of its own, so that the recursion below looks at nothing else.

StatementGrows : plain.Statement → Around → Place → Tables → Type 0
StatementGrows x around n t = Grows t (s.checked_statement x around n t).tables

ArmsGrow : plain.Arms → Around → Place → Tables → Type 0
ArmsGrow x around n t = Grows t (s.checked_arms x around n t).tables

StatementsGrow : plain.Statements → Around → Place → Tables → Type 0
StatementsGrow x around n t = Grows t (s.checked_statements x around n t).tables

OthersGrow : plain.MoreStatements → Around → Place → Tables → Type 0
OthersGrow x around n t = Grows t (s.checked_others x around n t).tables

BodyGrows : plain.Body → Around → Place → Tables → Type 0
BodyGrows x around n t = Grows t (s.checked_body x around n t).tables

HandlersGrow : plain.Handlers → Around → Place → Tables → Type 0
HandlersGrow x around n t = Grows t (s.checked_handlers x around n t).tables

DeclarationsGrow : plain.Declarations → Place → Tables → Type 0
DeclarationsGrow x n t = Grows t (s.checked_declarations x n t).tables

DeclarationGrows : plain.Declaration → Place → Tables → Type 0
DeclarationGrows x n t = Grows t (s.checked_declaration x n t).tables

if_grows : (at : Pos) (c : plain.Expression) (ss : plain.Statements) (arms : plain.Arms) (otherwise : plain.MoreStatements) (around : Around) (n : Place) (t : Tables)
    → ((u : Tables) → StatementsGrow ss around n u) → ((u : Tables) → ArmsGrow arms around n u) → ((u : Tables) → OthersGrow otherwise around n u) → StatementGrows (plain.if_then at c ss arms otherwise) around n t
unfolding StatementGrows StatementsGrow ArmsGrow OthersGrow
if_grows at c ss arms otherwise around n t f g h =
    let first = (s.checked_statements ss around n t).tables in
    let second = (s.checked_arms arms around n first).tables in
    further {u = first} (f t) (further {u = second} (g first) (h second))

looped_grows : (label : Option Ident) (at : Pos) (i : plain.Iteration) (ss : plain.Statements) (last : Option Ident) (semicolon : Pos) (around : Around) (n : Place) (t : Tables)
    → ((within : Around) (m : Place) (u : Tables) → StatementsGrow ss within m u) → StatementGrows (plain.loop label at i ss last semicolon) around n t
unfolding StatementGrows StatementsGrow
looped_grows label at i ss last semicolon around n t f = further {u = s.loop_tables i n t} (loop_grows i n t) (f (s.labelled true label around) (s.loop_place i n) (s.loop_tables i n t))

entering_grows : (of_task : Bool) (ds : plain.Declarations) (b : plain.Body) (around : Around) (n : Place) (t : Tables) → DeclarationsGrow ds n (region_kept t) → ((m : Place) (u : Tables) → BodyGrows b around m u) → Grows t (s.entered_body of_task ds b around n t).tables
unfolding DeclarationsGrow BodyGrows
entering_grows of_task ds b around n t f g =
    let o : Outcome d.Declared = s.checked_declarations ds n (region_kept t) in
    let shown = regions.shown_names (names.innermost o.made.place).symbols in
    further {u = declared_tables o t} (named_grows shown t o.tables f) (g o.made.place (declared_tables o t))

block_grows : (label : Option Ident) (at : Pos) (declare : Bool) (ds : plain.Declarations) (b : plain.Body) (around : Around) (n : Place) (t : Tables)
    → ((m : Place) (u : Tables) → DeclarationsGrow ds m u) → ((within : Around) (m : Place) (u : Tables) → BodyGrows b within m u) → StatementGrows (plain.block label at declare ds b) around n t
unfolding StatementGrows
block_grows label at declare ds b around n t f g = entering_grows false ds b (s.labelled false label around) (names.in_frame n) t (f (names.in_frame n) (region_kept t)) (g (s.labelled false label around))

arm_grows : (at : Pos) (c : plain.Expression) (ss : plain.Statements) (arms : plain.Arms) (around : Around) (n : Place) (t : Tables)
    → ((u : Tables) → StatementsGrow ss around n u) → ((u : Tables) → ArmsGrow arms around n u) → ArmsGrow (plain.more_arms at c ss arms) around n t
unfolding StatementsGrow ArmsGrow
arm_grows at c ss arms around n t f g = let first = (s.checked_statements ss around n t).tables in further {u = first} (f t) (g first)

in_order_grows : (x : plain.Statement) (xs : plain.MoreStatements) (around : Around) (n : Place) (t : Tables)
    → ((u : Tables) → StatementGrows x around n u) → ((u : Tables) → OthersGrow xs around n u) → StatementsGrow (plain.in_order x xs) around n t
unfolding StatementGrows OthersGrow StatementsGrow
in_order_grows x xs around n t f g = let first = (s.checked_statement x around n t).tables in further {u = first} (f t) (g first)

more_grows : (x : plain.Statement) (xs : plain.MoreStatements) (around : Around) (n : Place) (t : Tables)
    → ((u : Tables) → StatementGrows x around n u) → ((u : Tables) → OthersGrow xs around n u) → OthersGrow (plain.more_statements x xs) around n t
unfolding StatementGrows OthersGrow
more_grows x xs around n t f g = let first = (s.checked_statement x around n t).tables in further {u = first} (f t) (g first)

stated_grows : (begin : Pos) (ss : plain.Statements) (hs : plain.Handlers) (end : Pos) (name : Option Ident) (semicolon : Pos) (around : Around) (n : Place) (t : Tables)
    → ((u : Tables) → StatementsGrow ss around n u) → ((within : Around) (u : Tables) → HandlersGrow hs within n u) → BodyGrows (plain.body begin ss hs end name semicolon) around n t
unfolding StatementsGrow HandlersGrow BodyGrows
stated_grows begin ss hs end name semicolon around n t f g = let first = (s.checked_statements ss around n t).tables in further {u = first} (f t) (g (s.handling around) first)

handler_grows : (choices : plain.Choices) (ss : plain.Statements) (hs : plain.Handlers) (around : Around) (n : Place) (t : Tables)
    → ((u : Tables) → StatementsGrow ss around n u) → ((u : Tables) → HandlersGrow hs around n u) → HandlersGrow (plain.more_handlers choices ss hs) around n t
unfolding StatementsGrow HandlersGrow
handler_grows choices ss hs around n t f g = let first = (s.checked_statements ss around n t).tables in further {u = first} (f t) (g first)

joined_grow : (x : plain.Declaration) (xs : plain.Declarations) (n : Place) (t : Tables) → ((m : Place) (u : Tables) → DeclarationGrows x m u) → ((m : Place) (u : Tables) → DeclarationsGrow xs m u) → DeclarationsGrow (plain.more_declarations x xs) n t
unfolding DeclarationGrows DeclarationsGrow
joined_grow x xs n t f g = let first = s.checked_declaration x n t in further {u = first.tables} (f n t) (g first.made.place first.tables)

procedure_grows : (at : Pos) (i : Ident) (fs : List plain.Formal) (ds : plain.Declarations) (b : plain.Body) (n : Place) (t : Tables)
    → ((m : Place) (u : Tables) → DeclarationsGrow ds m u) → ((within : Around) (m : Place) (u : Tables) → BodyGrows b within m u) → DeclarationGrows (plain.procedure at i fs ds b) n t
unfolding DeclarationGrows
procedure_grows at i fs ds b n t f g =
    let here : Place = s.procedure_place i n t in
    let formals = body_formals fs n in
    let inner : Place = names.place_in formals.region here.regions in
    let kept : Tables = unit_kept formals.profile t in
    let unit = s.checked_unit false at i.name ds b inner kept in
    put_grows (length t.units) unit.made t unit.tables (further {u = kept} (unit_grows formals.profile t) (entering_grows false ds b nothing_around inner kept (f inner (region_kept kept)) (g nothing_around)))

task_declaration_grows : (at : Pos) (is_type : Bool) (i : Ident) (x : Option plain.TaskDefinition) (n : Place) (t : Tables) → DeclarationGrows (plain.task at is_type i x) n t
unfolding DeclarationGrows
task_declaration_grows at is_type i x n t =
    let es = tasks.task_entries x (tasks.place_named is_type i n t) t in
    further {u = es.tables} (entries_grow (length t.tasks) (entries.entries_of x) (tasks.place_named is_type i n t).regions (entries.no_entries (names.body_frame (tasks.place_named is_type i n t)) t)) (task_grows (entries.entry_numbers es.names) es.tables)

task_body_grows : (at : Pos) (i : Ident) (ds : plain.Declarations) (b : plain.Body) (n : Place) (t : Tables)
    → ((m : Place) (u : Tables) → DeclarationsGrow ds m u) → ((within : Around) (m : Place) (u : Tables) → BodyGrows b within m u) → DeclarationGrows (plain.task_body at i ds b) n t
unfolding DeclarationGrows
task_body_grows at i ds b n t f g =
    let found = tasks.task_awaited i n in
    let inner : Place = names.task_place i.name (tasks.body_task found t) (tasks.place_behind i n) in
    let own : Tables = tasks.body_tables found t in
    let unit = s.checked_unit true at i.name ds b inner own in
    put_grows (tasks.body_unit found t) unit.made t unit.tables (further {u = own} (own_grows found t) (entering_grows true ds b task_around inner own (f inner (region_kept own)) (g task_around)))

null_grows : (at : Pos) (around : Around) (n : Place) (t : Tables) → StatementGrows (plain.null at) around n t
unfolding StatementGrows
null_grows at around n t = same t

assign_grows : (x : plain.Name) (value : plain.Expression) (around : Around) (n : Place) (t : Tables) → StatementGrows (plain.assign x value) around n t
unfolding StatementGrows
assign_grows x value around n t = same t

call_grows : (x : plain.Name) (around : Around) (n : Place) (t : Tables) → StatementGrows (plain.call x) around n t
unfolding StatementGrows
call_grows x around n t = same t

exit_grows : (at : Pos) (name : Option Ident) (c : plain.MaybeExpression) (around : Around) (n : Place) (t : Tables) → StatementGrows (plain.exit at name c) around n t
unfolding StatementGrows
exit_grows at name c around n t = same t

return_grows : (at : Pos) (e : plain.MaybeExpression) (around : Around) (n : Place) (t : Tables) → StatementGrows (plain.return at e) around n t
unfolding StatementGrows
return_grows at e around n t = same t

raise_grows : (at : Pos) (name : Option Ident) (around : Around) (n : Place) (t : Tables) → StatementGrows (plain.raise at name) around n t
unfolding StatementGrows
raise_grows at name around n t = same t

no_arms_grow : (around : Around) (n : Place) (t : Tables) → ArmsGrow plain.no_arms around n t
unfolding ArmsGrow
no_arms_grow around n t = same t

no_others_grow : (around : Around) (n : Place) (t : Tables) → OthersGrow plain.no_statements around n t
unfolding OthersGrow
no_others_grow around n t = same t

no_handlers_grow : (around : Around) (n : Place) (t : Tables) → HandlersGrow plain.no_handlers around n t
unfolding HandlersGrow
no_handlers_grow around n t = same t

no_declarations_grow : (n : Place) (t : Tables) → DeclarationsGrow plain.no_declarations n t
unfolding DeclarationsGrow
no_declarations_grow n t = same t

object_grows : (first : Ident) (others : List Ident) (mark : Ident) (initial : plain.MaybeExpression) (n : Place) (t : Tables) → DeclarationGrows (plain.object first others mark initial) n t
unfolding DeclarationGrows
object_grows first others mark initial n t = same t

constant_grows : (first : Ident) (others : List Ident) (mark : Ident) (value : plain.Expression) (n : Place) (t : Tables) → DeclarationGrows (plain.constant first others mark value) n t
unfolding DeclarationGrows
constant_grows first others mark value n t = same t

array_grows : (first : Ident) (others : List Ident) (low high : Bound) (mark : Ident) (n : Place) (t : Tables) → DeclarationGrows (plain.array first others low high mark) n t
unfolding DeclarationGrows
array_grows first others low high mark n t = same t

exception_grows : (first : Ident) (others : List Ident) (n : Place) (t : Tables) → DeclarationGrows (plain.exception first others) n t
unfolding DeclarationGrows
exception_grows first others n t = exceptions_grow (first ∷ others) n t

AcceptGrows : plain.Accept → Around → Place → Tables → Type 0
AcceptGrows x around n t = Grows t (s.checked_accept x around n t).tables

DoingGrows : plain.Doing → Ident → Region → Around → Place → Tables → Type 0
DoingGrows x i r around n t = Grows t (s.checked_doing x i r around n t).tables

AlternativeGrows : plain.Alternative → plain.MaybeExpression → Around → Place → Tables → Type 0
AlternativeGrows x guard around n t = Grows t (s.checked_alternative x guard around n t).tables

AlternativesGrow : plain.Alternatives → Around → Place → Tables → Type 0
AlternativesGrow x around n t = Grows t (s.checked_alternatives x around n t).tables

OtherwiseGrows : plain.Otherwise → Around → Place → Tables → Type 0
OtherwiseGrows x around n t = Grows t (s.checked_otherwise x around n t).tables

accepting_grows : (x : plain.Accept) (around : Around) (n : Place) (t : Tables) → AcceptGrows x around n t → StatementGrows (plain.accepting x) around n t
unfolding StatementGrows AcceptGrows
accepting_grows x around n t f = f

accept_grows : (at : Pos) (i : Ident) (fs : List plain.Formal) (x : plain.Doing) (around : Around) (n : Place) (t : Tables) → ((r : Region) (within : Around) → DoingGrows x i r within n t) → AcceptGrows (plain.accept at i fs x) around n t
unfolding AcceptGrows DoingGrows
accept_grows at i fs x around n t f = f (accepts.accept_formals fs n).region (s.in_accept (accepts.accepted i n) (accepts.accept_formals fs n).profile around)

without_do_grows : (i : Ident) (r : Region) (around : Around) (n : Place) (t : Tables) → DoingGrows plain.without_do i r around n t
unfolding DoingGrows
without_do_grows i r around n t = same t

with_do_grows : (b : plain.Body) (i : Ident) (r : Region) (around : Around) (n : Place) (t : Tables) → ((m : Place) (u : Tables) → BodyGrows b around m u) → DoingGrows (plain.with_do b) i r around n t
unfolding DoingGrows BodyGrows
with_do_grows b i r around n t f =
    let shown = regions.shown_names r.symbols in
    further {u = with_region shown t} (region_grows shown t) (f (names.place_in r n.regions) (with_region shown t))

delaying_grows : (x : plain.Delay) (around : Around) (n : Place) (t : Tables) → StatementGrows (plain.delaying x) around n t
unfolding StatementGrows
delaying_grows x around n t = same t

accept_alternative_grows : (x : plain.Accept) (ss : plain.MoreStatements) (guard : plain.MaybeExpression) (around : Around) (n : Place) (t : Tables)
    → ((u : Tables) → AcceptGrows x around n u) → ((u : Tables) → OthersGrow ss around n u) → AlternativeGrows (plain.accept_alternative x ss) guard around n t
unfolding AcceptGrows OthersGrow AlternativeGrows
accept_alternative_grows x ss guard around n t f g = let first = (s.checked_accept x around n t).tables in further {u = first} (f t) (g first)

delay_alternative_grows : (x : plain.Delay) (ss : plain.MoreStatements) (guard : plain.MaybeExpression) (around : Around) (n : Place) (t : Tables) → OthersGrow ss around n t → AlternativeGrows (plain.delay_alternative x ss) guard around n t
unfolding OthersGrow AlternativeGrows
delay_alternative_grows x ss guard around n t f = f

terminate_grows : (guard : plain.MaybeExpression) (around : Around) (n : Place) (t : Tables) → AlternativeGrows plain.terminate_alternative guard around n t
unfolding AlternativeGrows
terminate_grows guard around n t = same t

no_alternatives_grow : (around : Around) (n : Place) (t : Tables) → AlternativesGrow plain.no_alternatives around n t
unfolding AlternativesGrow
no_alternatives_grow around n t = same t

more_alternatives_grow : (guard : plain.MaybeExpression) (x : plain.Alternative) (xs : plain.Alternatives) (around : Around) (n : Place) (t : Tables)
    → ((u : Tables) → AlternativeGrows x guard around n u) → ((u : Tables) → AlternativesGrow xs around n u) → AlternativesGrow (plain.more_alternatives guard x xs) around n t
unfolding AlternativeGrows AlternativesGrow
more_alternatives_grow guard x xs around n t f g = let first = (s.checked_alternative x guard around n t).tables in further {u = first} (f t) (g first)

select_accept_grows : (at : Pos) (guard : plain.MaybeExpression) (x : plain.Alternative) (xs : plain.Alternatives) (otherwise : plain.MoreStatements) (around : Around) (n : Place) (t : Tables)
    → ((u : Tables) → AlternativeGrows x guard around n u) → ((u : Tables) → AlternativesGrow xs around n u) → ((u : Tables) → OthersGrow otherwise around n u) → StatementGrows (plain.select_accept at guard x xs otherwise) around n t
unfolding StatementGrows AlternativeGrows AlternativesGrow OthersGrow
select_accept_grows at guard x xs otherwise around n t f g h =
    let first = (s.checked_alternative x guard around n t).tables in
    let second = (s.checked_alternatives xs around n first).tables in
    further {u = first} (f t) (further {u = second} (g first) (h second))

or_delay_grows : (x : plain.Delay) (ss : plain.MoreStatements) (around : Around) (n : Place) (t : Tables) → OthersGrow ss around n t → OtherwiseGrows (plain.or_delay x ss) around n t
unfolding OthersGrow OtherwiseGrows
or_delay_grows x ss around n t f = f

or_else_grows : (ss : plain.Statements) (around : Around) (n : Place) (t : Tables) → StatementsGrow ss around n t → OtherwiseGrows (plain.or_else ss) around n t
unfolding StatementsGrow OtherwiseGrows
or_else_grows ss around n t f = f

select_call_grows : (at : Pos) (x : plain.Name) (behind : plain.MoreStatements) (otherwise : plain.Otherwise) (around : Around) (n : Place) (t : Tables)
    → ((u : Tables) → OthersGrow behind around n u) → ((u : Tables) → OtherwiseGrows otherwise around n u) → StatementGrows (plain.select_call at x behind otherwise) around n t
unfolding StatementGrows OthersGrow OtherwiseGrows
select_call_grows at x behind otherwise around n t f g = let first = (s.checked_others behind around n t).tables in further {u = first} (f t) (g first)

abort_grows : (at : Pos) (x : plain.Name) (xs : plain.Names) (around : Around) (n : Place) (t : Tables) → StatementGrows (plain.abort at x xs) around n t
unfolding StatementGrows
abort_grows at x xs around n t = same t

requeue_grows : (at : Pos) (x : plain.Name) (with_abort : Bool) (around : Around) (n : Place) (t : Tables) → StatementGrows (plain.requeue at x with_abort) around n t
unfolding StatementGrows
requeue_grows at x with_abort around n t = same t

protected_grows : (at : Pos) (i : Ident) (operations : List plain.Operation) (hidden : Option (List plain.PrivateItem)) (last : Option Ident) (n : Place) (t : Tables) → DeclarationGrows (plain.protected at i operations hidden last) n t
unfolding DeclarationGrows
protected_grows at i operations hidden last n t =
    let x = objects.parts_declared i.name operations hidden n t in
    further {u = x.tables} (parts_grow i.name operations hidden n t) (object_kept_grows i.name x.own.level (shown_names x.own.symbols) x.entries x.tables (parts_distinct i.name operations hidden n t))

-- bodies of operations

BodiesGrow : plain.OperationBodies → BodyPlaces → List AwaitedPart → Tables → Type 0
BodiesGrow x o awaited t = Grows t (s.checked_bodies x o awaited t).tables

OperationGrows : plain.OperationBody → BodyPlaces → List AwaitedPart → Tables → Type 0
OperationGrows x o awaited t = Grows t (s.checked_operation x o awaited t).tables

operation_kept_grows : (found : Option PartKind) (t : Tables) → Grows t (operations.operation_kept found t)
operation_kept_grows None t = unit_grows [] t
operation_kept_grows (Some k) t = same t

barrier_kept_grows : (found : Option PartKind) (b : Option tree.BooleanExpression) (t : Tables) → Grows t (operations.barrier_kept found b t)
barrier_kept_grows (Some (part.Entry number unit)) (Some b) t = barrier_grows number b t
barrier_kept_grows (Some (part.Entry number unit)) None t = same t
barrier_kept_grows (Some (part.Operation unit subprogram)) b t = same t
barrier_kept_grows (Some (part.Component x)) b t = same t
barrier_kept_grows None b t = same t

pub operation_tables_grow : (head : Head) (found : Option PartKind) (formals : Region) (here : Place) (t : Tables) → Grows t (operations.operation_tables head found formals here t)
operation_tables_grow head found formals here t =
    further {u = operations.operation_kept found t} (operation_kept_grows found t) (barrier_kept_grows found (operations.barrier_of head formals here) (operations.operation_kept found t))

operation_of_grows : (head : Head) (at : Pos) (i : Ident) (fs : List plain.Formal) (ds : plain.Declarations) (b : plain.Body) (o : BodyPlaces) (awaited : List AwaitedPart) (t : Tables)
    → ((m : Place) (u : Tables) → DeclarationsGrow ds m u) → ((within : Around) (m : Place) (u : Tables) → BodyGrows b within m u) → Grows t (s.checked_operation_of head at i fs ds b o awaited t).tables
operation_of_grows head at i fs ds b o awaited t f g =
    let here : Place = operations.operation_place head o in
    let region = (operations.shape_of head fs here).region in
    let found = operations.part_awaited head i o awaited in
    let inner : Place = names.place_in region here.regions in
    let entry : Tables = operations.operation_tables head found region here t in
    let around : Around = s.operation_around head fs o.object here in
    let unit = s.checked_operation_unit head at i fs ds b o.object here inner entry in
    put_grows (operations.operation_unit found t) unit.made t unit.tables (further {u = entry} (operation_tables_grow head found region here t) (entering_grows false ds b around inner entry (f inner (region_kept entry)) (g around)))

entry_body_grows : (at : Pos) (i : Ident) (fs : List plain.Formal) (barrier : plain.Expression) (ds : plain.Declarations) (b : plain.Body) (o : BodyPlaces) (awaited : List AwaitedPart) (t : Tables)
    → ((m : Place) (u : Tables) → DeclarationsGrow ds m u) → ((within : Around) (m : Place) (u : Tables) → BodyGrows b within m u) → OperationGrows (plain.entry_body at i fs barrier ds b) o awaited t
unfolding OperationGrows
entry_body_grows at i fs barrier ds b o awaited t f g = operation_of_grows (of_entry barrier) at i fs ds b o awaited t f g

procedure_body_grows : (at : Pos) (i : Ident) (fs : List plain.Formal) (ds : plain.Declarations) (b : plain.Body) (o : BodyPlaces) (awaited : List AwaitedPart) (t : Tables)
    → ((m : Place) (u : Tables) → DeclarationsGrow ds m u) → ((within : Around) (m : Place) (u : Tables) → BodyGrows b within m u) → OperationGrows (plain.procedure_body at i fs ds b) o awaited t
unfolding OperationGrows
procedure_body_grows at i fs ds b o awaited t f g = operation_of_grows of_procedure at i fs ds b o awaited t f g

function_body_grows : (at : Pos) (i : Ident) (fs : List plain.Formal) (mark : Ident) (ds : plain.Declarations) (b : plain.Body) (o : BodyPlaces) (awaited : List AwaitedPart) (t : Tables)
    → ((m : Place) (u : Tables) → DeclarationsGrow ds m u) → ((within : Around) (m : Place) (u : Tables) → BodyGrows b within m u) → OperationGrows (plain.function_body at i fs mark ds b) o awaited t
unfolding OperationGrows
function_body_grows at i fs mark ds b o awaited t f g = operation_of_grows (of_function mark) at i fs ds b o awaited t f g

no_bodies_grow : (o : BodyPlaces) (awaited : List AwaitedPart) (t : Tables) → BodiesGrow plain.no_bodies o awaited t
unfolding BodiesGrow
no_bodies_grow o awaited t = same t

more_bodies_grow : (x : plain.OperationBody) (xs : plain.OperationBodies) (o : BodyPlaces) (awaited : List AwaitedPart) (t : Tables) → OperationGrows x o awaited t → ((still : List AwaitedPart) (u : Tables) → BodiesGrow xs o still u) → BodiesGrow (plain.more_bodies x xs) o awaited t
unfolding OperationGrows BodiesGrow
more_bodies_grow x xs o awaited t f g = let first = s.checked_operation x o awaited t in further {u = first.tables} f (g first.made first.tables)

body_object_grows : (found : Option AwaitedObject) (i : Ident) (t : Tables) → Grows t (objects.object_tables found i t)
body_object_grows None i t = object_kept_grows i.name 0 [] [] t tt
body_object_grows (Some o) i t = same t

protected_body_grows : (at : Pos) (i : Ident) (inner : plain.OperationBodies) (last : Option Ident) (n : Place) (t : Tables) → ((o : BodyPlaces) (awaited : List AwaitedPart) (u : Tables) → BodiesGrow inner o awaited u) → DeclarationGrows (plain.protected_body at i inner last) n t
unfolding BodiesGrow DeclarationGrows
protected_body_grows at i inner last n t f =
    let found = objects.object_awaited i n in
    let object = objects.body_object found t in
    let here : Place = objects.object_behind i n in
    further {u = objects.object_tables found i t} (body_object_grows found i t) (f (operations.body_places i.name object here) (awaited_parts object (names.innermost here).parts) (objects.object_tables found i t))

mutual
  statement_more : (x : plain.Statement) (around : Around) (n : Place) (t : Tables) → StatementGrows x around n t
  statement_more (plain.null at) around n t = null_grows at around n t
  statement_more (plain.assign x value) around n t = assign_grows x value around n t
  statement_more (plain.call x) around n t = call_grows x around n t
  statement_more (plain.if_then at c ss arms otherwise) around n t = if_grows at c ss arms otherwise around n t (λ u. statements_more ss around n u) (λ u. arms_more arms around n u) (λ u. others_more otherwise around n u)
  statement_more (plain.loop label at i ss last semicolon) around n t = looped_grows label at i ss last semicolon around n t (λ within m u. statements_more ss within m u)
  statement_more (plain.exit at name c) around n t = exit_grows at name c around n t
  statement_more (plain.block label at declare ds b) around n t = block_grows label at declare ds b around n t (λ m u. declarations_more ds m u) (λ within m u. body_more b within m u)
  statement_more (plain.return at e) around n t = return_grows at e around n t
  statement_more (plain.raise at name) around n t = raise_grows at name around n t
  statement_more (plain.accepting x) around n t = accepting_grows x around n t (accept_more x around n t)
  statement_more (plain.delaying x) around n t = delaying_grows x around n t
  statement_more (plain.select_accept at guard x xs otherwise) around n t = select_accept_grows at guard x xs otherwise around n t (λ u. alternative_more x guard around n u) (λ u. alternatives_more xs around n u) (λ u. others_more otherwise around n u)
  statement_more (plain.select_call at x behind otherwise) around n t = select_call_grows at x behind otherwise around n t (λ u. others_more behind around n u) (λ u. otherwise_more otherwise around n u)
  statement_more (plain.abort at x xs) around n t = abort_grows at x xs around n t
  statement_more (plain.requeue at x with_abort) around n t = requeue_grows at x with_abort around n t

  accept_more : (x : plain.Accept) (around : Around) (n : Place) (t : Tables) → AcceptGrows x around n t
  accept_more (plain.accept at i fs x) around n t = accept_grows at i fs x around n t (λ r within. doing_more x i r within n t)

  doing_more : (x : plain.Doing) (i : Ident) (r : Region) (around : Around) (n : Place) (t : Tables) → DoingGrows x i r around n t
  doing_more plain.without_do i r around n t = without_do_grows i r around n t
  doing_more (plain.with_do b) i r around n t = with_do_grows b i r around n t (λ m u. body_more b around m u)

  alternative_more : (x : plain.Alternative) (guard : plain.MaybeExpression) (around : Around) (n : Place) (t : Tables) → AlternativeGrows x guard around n t
  alternative_more (plain.accept_alternative x ss) guard around n t = accept_alternative_grows x ss guard around n t (λ u. accept_more x around n u) (λ u. others_more ss around n u)
  alternative_more (plain.delay_alternative x ss) guard around n t = delay_alternative_grows x ss guard around n t (others_more ss around n t)
  alternative_more plain.terminate_alternative guard around n t = terminate_grows guard around n t

  alternatives_more : (x : plain.Alternatives) (around : Around) (n : Place) (t : Tables) → AlternativesGrow x around n t
  alternatives_more plain.no_alternatives around n t = no_alternatives_grow around n t
  alternatives_more (plain.more_alternatives guard x xs) around n t = more_alternatives_grow guard x xs around n t (λ u. alternative_more x guard around n u) (λ u. alternatives_more xs around n u)

  otherwise_more : (x : plain.Otherwise) (around : Around) (n : Place) (t : Tables) → OtherwiseGrows x around n t
  otherwise_more (plain.or_delay x ss) around n t = or_delay_grows x ss around n t (others_more ss around n t)
  otherwise_more (plain.or_else ss) around n t = or_else_grows ss around n t (statements_more ss around n t)

  arms_more : (x : plain.Arms) (around : Around) (n : Place) (t : Tables) → ArmsGrow x around n t
  arms_more plain.no_arms around n t = no_arms_grow around n t
  arms_more (plain.more_arms at c ss arms) around n t = arm_grows at c ss arms around n t (λ u. statements_more ss around n u) (λ u. arms_more arms around n u)

  statements_more : (x : plain.Statements) (around : Around) (n : Place) (t : Tables) → StatementsGrow x around n t
  statements_more (plain.in_order x xs) around n t = in_order_grows x xs around n t (λ u. statement_more x around n u) (λ u. others_more xs around n u)

  others_more : (x : plain.MoreStatements) (around : Around) (n : Place) (t : Tables) → OthersGrow x around n t
  others_more plain.no_statements around n t = no_others_grow around n t
  others_more (plain.more_statements x xs) around n t = more_grows x xs around n t (λ u. statement_more x around n u) (λ u. others_more xs around n u)

  body_more : (x : plain.Body) (around : Around) (n : Place) (t : Tables) → BodyGrows x around n t
  body_more (plain.body begin ss hs end name semicolon) around n t = stated_grows begin ss hs end name semicolon around n t (λ u. statements_more ss around n u) (λ within u. handlers_more hs within n u)

  handlers_more : (x : plain.Handlers) (around : Around) (n : Place) (t : Tables) → HandlersGrow x around n t
  handlers_more plain.no_handlers around n t = no_handlers_grow around n t
  handlers_more (plain.more_handlers choices ss hs) around n t = handler_grows choices ss hs around n t (λ u. statements_more ss around n u) (λ u. handlers_more hs around n u)

  declarations_more : (x : plain.Declarations) (n : Place) (t : Tables) → DeclarationsGrow x n t
  declarations_more plain.no_declarations n t = no_declarations_grow n t
  declarations_more (plain.more_declarations x xs) n t = joined_grow x xs n t (λ m u. declaration_more x m u) (λ m u. declarations_more xs m u)

  declaration_more : (x : plain.Declaration) (n : Place) (t : Tables) → DeclarationGrows x n t
  declaration_more (plain.object first others mark initial) n t = object_grows first others mark initial n t
  declaration_more (plain.constant first others mark value) n t = constant_grows first others mark value n t
  declaration_more (plain.array first others low high mark) n t = array_grows first others low high mark n t
  declaration_more (plain.exception first others) n t = exception_grows first others n t
  declaration_more (plain.procedure at i fs ds b) n t = procedure_grows at i fs ds b n t (λ m u. declarations_more ds m u) (λ within m u. body_more b within m u)
  declaration_more (plain.task at is_type i x) n t = task_declaration_grows at is_type i x n t
  declaration_more (plain.task_body at i ds b) n t = task_body_grows at i ds b n t (λ m u. declarations_more ds m u) (λ within m u. body_more b within m u)
  declaration_more (plain.protected at i operations hidden last) n t = protected_grows at i operations hidden last n t
  declaration_more (plain.protected_body at i inner last) n t = protected_body_grows at i inner last n t (λ o awaited u. bodies_more inner o awaited u)

  bodies_more : (x : plain.OperationBodies) (o : BodyPlaces) (awaited : List AwaitedPart) (t : Tables) → BodiesGrow x o awaited t
  bodies_more plain.no_bodies o awaited t = no_bodies_grow o awaited t
  bodies_more (plain.more_bodies x xs) o awaited t = more_bodies_grow x xs o awaited t (operation_more x o awaited t) (λ still u. bodies_more xs o still u)

  operation_more : (x : plain.OperationBody) (o : BodyPlaces) (awaited : List AwaitedPart) (t : Tables) → OperationGrows x o awaited t
  operation_more (plain.entry_body at i fs barrier ds b) o awaited t = entry_body_grows at i fs barrier ds b o awaited t (λ m u. declarations_more ds m u) (λ within m u. body_more b within m u)
  operation_more (plain.procedure_body at i fs ds b) o awaited t = procedure_body_grows at i fs ds b o awaited t (λ m u. declarations_more ds m u) (λ within m u. body_more b within m u)
  operation_more (plain.function_body at i fs mark ds b) o awaited t = function_body_grows at i fs mark ds b o awaited t (λ m u. declarations_more ds m u) (λ within m u. body_more b within m u)

pub statement_grows : (x : plain.Statement) (around : Around) (n : Place) (t : Tables) → Grows t (s.checked_statement x around n t).tables
unfolding StatementGrows
statement_grows x around n t = statement_more x around n t

pub accepts_grow : (x : plain.Accept) (around : Around) (n : Place) (t : Tables) → Grows t (s.checked_accept x around n t).tables
unfolding AcceptGrows
accepts_grow x around n t = accept_more x around n t

pub alternative_grows : (x : plain.Alternative) (guard : plain.MaybeExpression) (around : Around) (n : Place) (t : Tables) → Grows t (s.checked_alternative x guard around n t).tables
unfolding AlternativeGrows
alternative_grows x guard around n t = alternative_more x guard around n t

pub alternatives_grow : (x : plain.Alternatives) (around : Around) (n : Place) (t : Tables) → Grows t (s.checked_alternatives x around n t).tables
unfolding AlternativesGrow
alternatives_grow x around n t = alternatives_more x around n t

pub otherwise_grows : (x : plain.Otherwise) (around : Around) (n : Place) (t : Tables) → Grows t (s.checked_otherwise x around n t).tables
unfolding OtherwiseGrows
otherwise_grows x around n t = otherwise_more x around n t

pub arms_grow : (x : plain.Arms) (around : Around) (n : Place) (t : Tables) → Grows t (s.checked_arms x around n t).tables
unfolding ArmsGrow
arms_grow x around n t = arms_more x around n t

pub statements_grow : (x : plain.Statements) (around : Around) (n : Place) (t : Tables) → Grows t (s.checked_statements x around n t).tables
unfolding StatementsGrow
statements_grow x around n t = statements_more x around n t

pub others_grow : (x : plain.MoreStatements) (around : Around) (n : Place) (t : Tables) → Grows t (s.checked_others x around n t).tables
unfolding OthersGrow
others_grow x around n t = others_more x around n t

pub body_grows : (x : plain.Body) (around : Around) (n : Place) (t : Tables) → Grows t (s.checked_body x around n t).tables
unfolding BodyGrows
body_grows x around n t = body_more x around n t

pub handlers_grow : (x : plain.Handlers) (around : Around) (n : Place) (t : Tables) → Grows t (s.checked_handlers x around n t).tables
unfolding HandlersGrow
handlers_grow x around n t = handlers_more x around n t

pub declarations_grow : (x : plain.Declarations) (n : Place) (t : Tables) → Grows t (s.checked_declarations x n t).tables
unfolding DeclarationsGrow
declarations_grow x n t = declarations_more x n t

pub declaration_grows : (x : plain.Declaration) (n : Place) (t : Tables) → Grows t (s.checked_declaration x n t).tables
unfolding DeclarationGrows
declaration_grows x n t = declaration_more x n t

pub operation_body_grows : (x : plain.OperationBody) (o : BodyPlaces) (awaited : List AwaitedPart) (t : Tables) → Grows t (s.checked_operation x o awaited t).tables
unfolding OperationGrows
operation_body_grows x o awaited t = operation_more x o awaited t

pub bodies_grow : (x : plain.OperationBodies) (o : BodyPlaces) (awaited : List AwaitedPart) (t : Tables) → Grows t (s.checked_bodies x o awaited t).tables
unfolding BodiesGrow
bodies_grow x o awaited t = bodies_more x o awaited t

-- of a body that is entered
pub entered_grows : (of_task : Bool) (ds : plain.Declarations) (b : plain.Body) (around : Around) (n : Place) (t : Tables) → Grows t (s.entered_body of_task ds b around n t).tables
entered_grows of_task ds b around n t = entering_grows of_task ds b around n t (declarations_more ds n (region_kept t)) (λ m u. body_more b around m u)
