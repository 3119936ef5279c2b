-- Bodies, loops and blocks whose parts are checked.
use denote.Ref.{Bor}
use Rattle.std.specs.Prelude.{ℕ, Bool, true, false, List, ◌++◌, Option, Box, Vec, Result, Ok, Err, IfOk}
use Rattle.std.specs.Global.{Global}
use Rattle.std.specs.declared.alloc.AllocError.{AllocError}
use Rattle.std.proofs.Common.{◌≡◌, refl, sym, ◌∙◌, ap, subst, append-nil}
use Rattle.aud_text.specs.declared.place.Pos.{Pos}
use Rattle.aud_syntax.specs.declared.tree.Ident.{Ident}
use Rattle.aud_syntax.specs.Plain as m
use Rattle.aud_typed.specs.declared.program.Handler.{Handler}
use Rattle.aud_typed.specs.declared.program.Body as memory_body
use Rattle.aud_typed.specs.declared.program.Statement as memory
use Rattle.aud_typed.specs.declared.program.Statements.{Statements}
use Rattle.aud_typed.specs.Tree as tree
use Rattle.aud_typed.specs.Ties.View.{plain_statement, plain_body, plain_statements as plain_typed_statements, statements_in, handlers_in}
use Rattle.aud_fault.specs.declared.fault.Fault.{Fault}
use Rattle.aud_fault.specs.Least.{noted}
use Rattle.aud_check_bodies.specs.declared.declaration.DeclarativePart.{DeclarativePart}
use Rattle.aud_names.specs.declared.awaited.Awaited.{Awaited}
use Rattle.aud_names.specs.declared.names.Region.{Region}
use Rattle.aud_names.specs.Names.{Place, innermost, in_frame, place_in, task_place}
use Rattle.aud_names.specs.Rules.{declared_once, right_name_at_end, right_label_at_end}
use Rattle.aud_check_bodies.specs.Regions.{shown_names}
use Rattle.aud_check_bodies.specs.Declarations.{Declared, nothing_declared}
use Rattle.aud_check_bodies.specs.Formals.{Formals, body_formals}
use Rattle.aud_check_bodies.specs.Tasks.{with_bodies, matched_faults, body_unit, body_task, body_tables, task_awaited, place_behind, with_activation}
use Rattle.aud_check_bodies.specs.Tables.{Tables, Outcome, fine, after, and_then, next_region, region_kept, region_named, next_unit, unit_kept, with_unit}
use Rattle.aud_check_bodies.specs.Statements.{Around, labelled, begin_at, iteration_faults, loop_place, loop_tables, looped, begin_of, end_name, end_semicolon, procedure_place, body_with, TypedStatements, TypedHandler, TypedBody, sequence_of, handlers_of, checked_statement, checked_loop, checked_statements, checked_body, checked_declaration, checked_declarations, entered_body, body_behind, around_unit, checked_unit}
use Rattle.aud_check_bodies.specs.Ties.Arms.{plain_handlers, plain_parts, plain_sequence}
use Rattle.aud_check_bodies.specs.Ties.DeclarativePart.{Declares}
use Rattle.aud_names.specs.Ties.Regions.{plain_place}
use Rattle.aud_typing.specs.Ties.Typing.{in_box}
use Rattle.aud_check_bodies.specs.Ties.Within.{Checks}
use Rattle.aud_typing.proofs.Notes.{noted_then}
use Rattle.aud_check_bodies.proofs.Walked.{Is, is_fine, is_after, is_then, checks, checks_after}
use Rattle.aud_check_bodies.proofs.Parts.{handlers_parts}

-- the statements, the handlers' choices and the handlers
pub body_left : (r : Result (Box Statements Global × Vec Handler Global) AllocError) (first : Box Statements Global) (handlers : Result (Vec Handler Global) AllocError) (old stated chosen new : Option Fault) (t u : Tables) (o : Outcome TypedStatements) (choices : List Fault) (rest : Tables → Outcome (List TypedHandler)) → IfOk r (λ p. p.0 ≡ first) → IfOk r (λ p. handlers ≡ Ok p.1) → Is old stated t (plain_sequence first.value) o → chosen ≡ noted stated choices → Checks plain_handlers handlers chosen new u (rest t) →
    Checks plain_parts r old new u (and_then o (λ x t1. after choices (and_then (rest t1) (λ ys t2. fine (record { statements = sequence_of x; handlers = handlers_of ys }) t2))))
body_left (Ok p) first handlers old stated chosen new t u o choices rest a b h i j =
    let hs : Is chosen new u (plain_handlers p.1) (rest t) = subst (λ z. Checks plain_handlers z chosen new u (rest t)) b j in
    let made : TypedBody = record { statements = sequence_of (plain_sequence first.value); handlers = handlers_of (plain_handlers p.1) } in
    let same : plain_parts p ≡ made = ap {B = TypedBody} (λ z. record { statements = statements_in z.value; handlers = handlers_in p.1.items }) a ∙ ap {B = TypedBody} (λ z. record { statements = statements_in first.value; handlers = z }) (handlers_parts p.1.items) in
    let typed : TypedStatements → List TypedHandler → Tables → Outcome TypedBody = λ x ys t2. fine (record { statements = sequence_of x; handlers = handlers_of ys }) t2 in
    let handled : Outcome TypedBody = and_then (rest t) (typed (plain_sequence first.value)) in
    let next : TypedStatements → Tables → Outcome TypedBody = λ x t1. after choices (and_then (rest t1) (typed x)) in
    is_then old stated new t u (plain_sequence first.value) (plain_parts p) o next h (is_after stated chosen new u (plain_parts p) choices handled i (is_then chosen new new u u (plain_handlers p.1) (plain_parts p) (rest t) (typed (plain_sequence first.value)) hs (is_fine new u (plain_parts p) made same)))
body_left (Err e) first handlers old stated chosen new t u o choices rest a b h i j = tt

-- a loop's iteration and its statements
pub iterated_left : (r : Result (Box memory.Statement Global) AllocError) (old bounded new : Option Fault) (t entry u : Tables) (label : Option Ident) (at : Pos) (i : m.Iteration) (ss : m.Statements) (around : Around) (place inner : Place) (made : TypedStatements) (y : tree.Statement)
    → bounded ≡ noted old (iteration_faults i place)
    → inner ≡ loop_place i place
    → entry ≡ loop_tables i place t
    → Is bounded new u made (checked_statements ss (labelled true label around) inner entry)
    → y ≡ looped (begin_at label at) at i place (next_region t) (sequence_of made)
    → IfOk r (λ s. plain_statement s.value ≡ y)
    → Checks (in_box plain_statement) r old new u (checked_loop label at i ss around place t)
iterated_left r old bounded new t entry u label at i ss around place inner made y q e k h f g =
    let own : Place → Tables → Outcome TypedStatements = λ z w. checked_statements ss (labelled true label around) z w in
    let whole : Outcome TypedStatements = own (loop_place i place) (loop_tables i place t) in
    let next : TypedStatements → Tables → Outcome tree.Statement = λ v w. fine (looped (begin_at label at) at i place (next_region t) (sequence_of v)) w in
    let stated : Is bounded new u made whole = subst (λ z. Is bounded new u made (own z (loop_tables i place t))) e (subst (λ w. Is bounded new u made (own inner w)) k h) in
    checks (in_box plain_statement) r old new u y (checked_loop label at i ss around place t)
    (is_after old bounded new u y (iteration_faults i place) (and_then whole next) q (is_then bounded new new u u made y whole next stated (is_fine new u y (looped (begin_at label at) at i place (next_region t) (sequence_of made)) f))) g

-- its label before them
pub loop_left : (r : Result (Box memory.Statement Global) AllocError) (old named bounded new : Option Fault) (t entry u : Tables) (label : Option Ident) (at : Pos) (i : m.Iteration) (ss : m.Statements) (last : Option Ident) (semicolon : Pos) (around : Around) (place inner : Place) (made : TypedStatements) (y : tree.Statement)
    → named ≡ noted old (right_label_at_end label last semicolon)
    → bounded ≡ noted named (iteration_faults i place)
    → inner ≡ loop_place i place
    → entry ≡ loop_tables i place t
    → Is bounded new u made (checked_statements ss (labelled true label around) inner entry)
    → y ≡ looped (begin_at label at) at i place (next_region t) (sequence_of made)
    → IfOk r (λ s. plain_statement s.value ≡ y)
    → Checks (in_box plain_statement) r old new u (checked_statement (m.loop label at i ss last semicolon) around place t)
loop_left r old named bounded new t entry u label at i ss last semicolon around place inner made y p q e k h f g =
    checks_after (in_box plain_statement) r old named new u (right_label_at_end label last semicolon) (checked_loop label at i ss around place t) p (iterated_left r named bounded new t entry u label at i ss around place inner made y q e k h f g)

-- a body's statements and handlers
pub behind_left : (r : Result (Box memory_body.Body Global) AllocError) (old new : Option Fault) (t u : Tables) (of_task : Bool) (b : m.Body) (around : Around) (place inner : Place) (elaborations : List tree.Statement) (made : TypedBody) (y : tree.Body)
    → inner ≡ place
    → Is old new u made (checked_body b around inner t)
    → y ≡ body_with (with_activation of_task (begin_of b) elaborations) b made
    → IfOk r (λ x. plain_body x.value ≡ y)
    → Checks (in_box plain_body) r old new u (body_behind of_task elaborations b around place t)
behind_left r old new t u of_task b around place inner elaborations made y e h f g =
    let all : List tree.Statement = with_activation of_task (begin_of b) elaborations in
    let next : TypedBody → Tables → Outcome tree.Body = λ x w. fine (body_with all b x) w in
    let stated : Is old new u made (checked_body b around place t) = subst (λ z. Is old new u made (checked_body b around z t)) e h in
    checks (in_box plain_body) r old new u y (body_behind of_task elaborations b around place t)
    (is_then old new new u u made y (checked_body b around place t) next stated (is_fine new u y (body_with all b made) f)) g

-- its declarations besides
pub entered_left : (old declared new : Option Fault) (t entry u : Tables) (of_task : Bool) (ds : m.Declarations) (b : m.Body) (around : Around) (place inner : Place) (elaborations : List tree.Statement) (y : tree.Body)
    → declared ≡ noted old (with_bodies (checked_declarations ds place (region_kept t))).faults
    → inner ≡ (checked_declarations ds place (region_kept t)).made.place
    → elaborations ≡ (checked_declarations ds place (region_kept t)).made.elaborations
    → entry ≡ region_named (next_region t) (shown_names (innermost (checked_declarations ds place (region_kept t)).made.place).symbols) (checked_declarations ds place (region_kept t)).tables
    → Is declared new u y (body_behind of_task elaborations b around inner entry)
    → Is old new u y (entered_body of_task ds b around place t)
entered_left old declared new t entry u of_task ds b around place inner elaborations y q e l k h =
    let o : Outcome Declared = with_bodies (checked_declarations ds place (region_kept t)) in
    let named : Declared → Tables → Tables = λ d w. region_named (next_region t) (shown_names (innermost d.place).symbols) w in
    let next : Declared → Tables → Outcome tree.Body = λ d w. body_behind of_task d.elaborations b around d.place (named d w) in
    let own : List tree.Statement → Place → Tables → Outcome tree.Body = λ xs z w. body_behind of_task xs b around z w in
    let stated : Is declared new u y (next o.made o.tables) =
    subst (λ xs. Is declared new u y (own xs o.made.place (named o.made o.tables))) l (subst (λ z. Is declared new u y (own elaborations z (named o.made o.tables))) e (subst (λ w. Is declared new u y (own elaborations inner w)) k h)) in
    is_then old declared new o.tables u o.made y o next (q, refl, refl) stated

-- a block's label and its body
pub block_left : (r : Result (Box memory.Statement Global) AllocError) (old named new : Option Fault) (t u : Tables) (label : Option Ident) (at : Pos) (declare : Bool) (ds : m.Declarations) (b : m.Body) (around : Around) (place : Place) (x : tree.Body) (y : tree.Statement)
    → named ≡ noted old (right_label_at_end label (end_name b) (end_semicolon b))
    → Is named new u x (entered_body false ds b (labelled false label around) (in_frame place) t)
    → y ≡ tree.block (begin_at label at) (next_region t) x
    → IfOk r (λ s. plain_statement s.value ≡ y)
    → Checks (in_box plain_statement) r old new u (checked_statement (m.block label at declare ds b) around place t)
block_left r old named new t u label at declare ds b around place x y p h f g =
    let whole : Outcome tree.Body = entered_body false ds b (labelled false label around) (in_frame place) t in
    let next : tree.Body → Tables → Outcome tree.Statement = λ v w. fine (tree.block (begin_at label at) (next_region t) v) w in
    checks (in_box plain_statement) r old new u y (checked_statement (m.block label at declare ds b) around place t)
    (is_after old named new u y (right_label_at_end label (end_name b) (end_semicolon b)) (and_then whole next) p (is_then named new new u u x y whole next h (is_fine new u y (tree.block (begin_at label at) (next_region t) x) f))) g

-- the body of a procedure or task and the name after its end
pub unit_left : (old stated new : Option Fault) (t u : Tables) (of_task : Bool) (at : Pos) (name : List ℕ) (ds : m.Declarations) (b : m.Body) (place : Place) (x : tree.Body) (y : tree.UnitBody)
    → Is old stated u x (entered_body of_task ds b (around_unit of_task) place t)
    → new ≡ noted stated (right_name_at_end name (end_name b))
    → y ≡ record { level = (innermost place).level; region = next_region t; is_function = false; at = at; body = x }
    → Is old new u y (checked_unit of_task at name ds b place t)
unit_left old stated new t u of_task at name ds b place x y h q f =
    let whole : Outcome tree.Body = entered_body of_task ds b (around_unit of_task) place t in
    let unit : tree.Body → tree.UnitBody = λ v. record { level = (innermost place).level; region = next_region t; is_function = false; at = at; body = v } in
    let next : tree.Body → Tables → Outcome tree.UnitBody = λ v w. after (right_name_at_end name (end_name b)) (fine (unit v) w) in
    is_then old stated new u u x y whole next h (is_after stated new new u y (right_name_at_end name (end_name b)) (fine (unit x) u) q (is_fine new u y (unit x) f))

-- a procedure's formals, its name and its body
pub procedure_left : (old formed named new : Option Fault) (outer : List (Bor Region)) (first last : DeclarativePart) (t entry u end : Tables) (at : Pos) (i : Ident) (fs : List m.Formal) (ds : m.Declarations) (b : m.Body) (inner : Place) (x : tree.UnitBody)
    → formed ≡ noted old (body_formals fs (plain_place first.region outer)).faults
    → named ≡ noted formed (declared_once i.name i.at (innermost (plain_place first.region outer)).symbols)
    → plain_place last.region outer ≡ procedure_place i (plain_place first.region outer) t
    → last.elaborations ≡ first.elaborations
    → inner ≡ place_in (body_formals fs (plain_place first.region outer)).region (procedure_place i (plain_place first.region outer) t).regions
    → entry ≡ unit_kept (body_formals fs (plain_place first.region outer)).profile t
    → Is named new u x (checked_unit false at i.name ds b inner entry)
    → end ≡ with_unit (next_unit t) x u
    → Declares old new outer first last end (checked_declaration (m.procedure at i fs ds b) (plain_place first.region outer) t)
procedure_left old formed named new outer first last t entry u end at i fs ds b inner x f p q l e k h g =
    let place : Place = plain_place first.region outer in
    let here : Place = procedure_place i place t in
    let formals : Formals = body_formals fs place in
    let once : List Fault = declared_once i.name i.at (innermost place).symbols in
    let own : Place → Tables → Outcome tree.UnitBody = λ z w. checked_unit false at i.name ds b z w in
    let whole : Outcome tree.UnitBody = own (place_in formals.region here.regions) (unit_kept formals.profile t) in
    let next : tree.UnitBody → Tables → Outcome Declared = λ v w. fine (nothing_declared here) (with_unit (next_unit t) v w) in
    let checked : Is named new u x whole = subst (λ z. Is named new u x (own z (unit_kept formals.profile t))) e (subst (λ w. Is named new u x (own inner w)) k h) in
    let heads : named ≡ noted old (formals.faults ++ once) = noted_then old formed named formals.faults once f p in
    let declared : Is named new end (nothing_declared here) (and_then whole next) = is_then named new new u end x (nothing_declared here) whole next checked (refl, g, refl) in
    let all : Is old new end (nothing_declared here) (checked_declaration (m.procedure at i fs ds b) place t) = is_after old named new end (nothing_declared here) (formals.faults ++ once) (and_then whole next) heads declared in
    (all.0, q, ap (λ z. plain_typed_statements z.items) l ∙ sym (append-nil _), all.1)

-- the body of a task, whose unit is found
pub task_left : (old matched new : Option Fault) (outer : List (Bor Region)) (first last : DeclarativePart) (t entry u end : Tables) (at : Pos) (i : Ident) (ds : m.Declarations) (b : m.Body) (inner : Place) (x : tree.UnitBody)
    → matched ≡ noted old (matched_faults (task_awaited i (plain_place first.region outer)) i.at)
    → plain_place last.region outer ≡ place_behind i (plain_place first.region outer)
    → last.elaborations ≡ first.elaborations
    → inner ≡ task_place i.name (body_task (task_awaited i (plain_place first.region outer)) t) (place_behind i (plain_place first.region outer))
    → entry ≡ body_tables (task_awaited i (plain_place first.region outer)) t
    → Is matched new u x (checked_unit true at i.name ds b inner entry)
    → end ≡ with_unit (body_unit (task_awaited i (plain_place first.region outer)) t) x u
    → Declares old new outer first last end (checked_declaration (m.task_body at i ds b) (plain_place first.region outer) t)
task_left old matched new outer first last t entry u end at i ds b inner x p q l e k h g =
    let place : Place = plain_place first.region outer in
    let here : Place = place_behind i place in
    let found : Option Awaited = task_awaited i place in
    let own : Place → Tables → Outcome tree.UnitBody = λ z w. checked_unit true at i.name ds b z w in
    let whole : Outcome tree.UnitBody = own (task_place i.name (body_task found t) here) (body_tables found t) in
    let next : tree.UnitBody → Tables → Outcome Declared = λ v w. fine (nothing_declared here) (with_unit (body_unit found t) v w) in
    let checked : Is matched new u x whole = subst (λ z. Is matched new u x (own z (body_tables found t))) e (subst (λ w. Is matched new u x (own inner w)) k h) in
    let declared : Is matched new end (nothing_declared here) (and_then whole next) = is_then matched new new u end x (nothing_declared here) whole next checked (refl, g, refl) in
    let all : Is old new end (nothing_declared here) (checked_declaration (m.task_body at i ds b) place t) = is_after old matched new end (nothing_declared here) (matched_faults found i.at) (and_then whole next) p declared in
    (all.0, q, ap (λ z. plain_typed_statements z.items) l ∙ sym (append-nil _), all.1)
