use Rattle.std.specs.Prelude.{ℕ, List, ◌++◌, OnOk}
use Rattle.std.proofs.Common.{◌≡◌, ap, subst, ◌∙◌}
use Rattle.aud_syntax.specs.Ties.View.{plain_definition}
use Rattle.aud_typed.specs.Ties.View.{plain_statements as plain_typed_statements}
use Rattle.aud_fault.specs.declared.fault.Fault.{Fault}
use Rattle.aud_fault.specs.Least.{noted}
use Rattle.aud_names.specs.Names.{Region, Place, place_in, body_frame}
use Rattle.aud_names.specs.Rules.{declared_once, right_name_at_end}
use Rattle.aud_names.specs.Ties.Regions.{plain_region, plain_regions, plain_place}
use Rattle.aud_check_bodies.specs.declared.declaration.DeclarativePart.{DeclarativePart}
use Rattle.aud_check_bodies.specs.Entries.{Entries, no_entries, declared_entries, entries_faults, entries_of, entry_numbers, naming}
use Rattle.aud_check_bodies.specs.Tables.{Tables, next_task, next_unit, task_kept}
use Rattle.aud_check_bodies.specs.Tasks.{name_behind, with_task, created_by, place_named, task_entries, task_entries_faults}
use Rattle.aud_check_bodies.specs.Ties.Tables.{plain_tables}
use Rattle.aud_typing.proofs.Notes.{noted_then}
use Rattle.aud_check_bodies.proofs.Declared.{declares_task}
use Rattle.aud_check_bodies.proofs.task.declare_task.Goals as goal

pub returns : goal.returns
returns c =
    let task = c.args.task.now in
    let i = task.name in
    let d = plain_definition task.definition in
    let first = c.args.part.now in
    let outer = c.args.outer.now in
    let place : Place = plain_place first.region outer in
    let t = plain_tables c.args.tables.now in
    let old = c.args.faults.now in
    let f1 = c.declare_name.new.faults in
    let f2 = c.entries_of.new.faults in
    let new = c.right_name_behind.new.faults in
    let number = c.next_task-number.result in
    let named = c.declare_name.new.region in
    let symbol : Region = with_task task.is_type i (next_task t) (next_unit t) (plain_region first.region) in
    let here : Place = place_named task.is_type i place t in
    let es : Entries = task_entries d here t in
    let named_is : plain_region named ≡ symbol =
    c.in_ok-declare_name.ensures.region ∙ ap (λ n. with_task task.is_type i n c.next_unit-unit.result (plain_region first.region)) c.next_task-number.ensures
    ∙ ap (λ k. with_task task.is_type i (next_task t) k (plain_region first.region)) c.next_unit-unit.ensures in
    let there : plain_place named outer ≡ here = ap (λ r. place_in r (plain_regions outer)) named_is in
    let given : ℕ → Place → Entries = λ n z. declared_entries n (entries_of d) z.regions (no_entries (body_frame z) t) in
    let faulty : ℕ → Place → List Fault = λ n z. entries_faults n (entries_of d) z.regions (no_entries (body_frame z) t) in
    let same : given number (plain_place named outer) ≡ es = ap (λ n. given n (plain_place named outer)) c.next_task-number.ensures ∙ ap (given (next_task t)) there in
    let faults_are : faulty number (plain_place named outer) ≡ task_entries_faults d here t = ap (λ n. faulty n (plain_place named outer)) c.next_task-number.ensures ∙ ap (faulty (next_task t)) there in
    let names = c.in_ok-names.names.items in
    let names_are : names ≡ es.names = c.in_ok-names.ensures.names ∙ ap (λ (x : Entries). x.names) same in
    let tables_are : plain_tables c.entries_of.new.tables ≡ es.tables = c.in_ok-names.ensures.tables ∙ ap (λ (x : Entries). x.tables) same in
    let once : List Fault = declared_once i.name i.at first.region.symbols.entries in
    let ends : List Fault = right_name_at_end i.name (name_behind d) in
    let noted_entries : f2 ≡ noted f1 (task_entries_faults d here t) = c.in_ok-names.ensures.noted ∙ ap (noted f1) faults_are in
    let noted_all : new ≡ noted old (once ++ (task_entries_faults d here t ++ ends)) =
    noted_then old f1 new once (task_entries_faults d here t ++ ends) c.in_ok-declare_name.ensures.noted (noted_then f1 f2 new (task_entries_faults d here t) ends noted_entries c.right_name_behind.ensures) in
    let next : DeclarativePart = record { region = c.name_entries.new.region; elaborations = c.create_single.new.elaborations } in
    let region_is : plain_region next.region ≡ naming es.names symbol =
    c.in_ok-entries.ensures.region ∙ ap (λ l. naming l (plain_region named)) names_are ∙ ap (naming es.names) named_is in
    let created : plain_typed_statements next.elaborations.items ≡ plain_typed_statements first.elaborations.items ++ created_by task.is_type i task.at (next_task t) =
    c.in_ok-create_single.ensures ∙ ap (λ n. plain_typed_statements first.elaborations.items ++ created_by task.is_type i task.at n) c.next_task-number.ensures in
    let end = plain_tables c.keep_task.new.self in
    let numbers : c.in_ok-entries.entries.items ≡ entry_numbers es.names = c.in_ok-entries.ensures.numbers ∙ ap entry_numbers names_are in
    let kept : OnOk c.keep_task.result (end ≡ task_kept (entry_numbers es.names) es.tables) =
    subst (λ (v : Tables). OnOk c.keep_task.result (end ≡ task_kept (entry_numbers es.names) v)) tables_are
    (subst (λ l. OnOk c.keep_task.result (end ≡ task_kept l (plain_tables c.entries_of.new.tables))) numbers c.keep_task.ensures) in
    declares_task c.keep_task.result old new outer first next t end task.at task.is_type i d noted_all region_is created kept
