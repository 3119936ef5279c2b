use Rattle.std.specs.Prelude.{ℕ, ◌∷◌, [], ◌++◌, map, IfOk, OnOk, Vec}
use Rattle.std.specs.Global.{Global}
use Rattle.std.proofs.Common.{◌≡◌, ap, subst, ◌∙◌}
use Rattle.aud_syntax.specs.Ties.View.{plain_operation, plain_private}
use Rattle.aud_typed.specs.declared.program.Named.{Named}
use Rattle.aud_typed.specs.Tree.{declare_object}
use Rattle.aud_typed.specs.Ties.View.{plain_region as plain_named_region, plain_values, plain_statements as plain_typed_statements}
use Rattle.aud_names.specs.Names.{Place}
use Rattle.aud_names.specs.Rules.{declared_once, right_name_at_end}
use Rattle.aud_names.specs.Ties.Regions.{plain_region, plain_place}
use Rattle.aud_check_bodies.specs.declared.declaration.DeclarativePart.{DeclarativePart}
use Rattle.aud_check_bodies.specs.declared.object.ObjectParts.{ObjectParts}
use Rattle.aud_check_bodies.specs.Objects.{ObjectDeclared, parts_faults, with_object_parts, with_object}
use Rattle.aud_check_bodies.specs.Regions.{shown_names}
use Rattle.aud_check_bodies.specs.Tables.{Tables, next_object, object_kept}
use Rattle.aud_check_bodies.specs.Ties.Objects.{plain_parts}
use Rattle.aud_check_bodies.specs.Ties.Tables.{plain_tables}
use Rattle.aud_typing.proofs.Notes.{noted_then}
use Rattle.aud_check_bodies.proofs.Declared.{declares_object}
use Rattle.aud_check_bodies.proofs.object.declare_protected.Goals as goal

pub returns : goal.returns
returns c =
    let node = c.args.node.now in
    let i = node.name in
    let first = c.args.part.now in
    let outer = c.args.outer.now in
    let place : Place = plain_place first.region outer in
    let t : Tables = plain_tables c.args.tables.now in
    let operations = map plain_operation node.operations.items in
    let hidden = plain_private node.private_items in
    let old = c.args.faults.now in
    let f1 = c.declared_once-once.new.faults in
    let f2 = c.parts_of.new.faults in
    let new = c.right_name_at_end.new.faults in
    let number = c.next_object-number.result in
    let around = c.in_ok-parts.around in
    let x : ObjectDeclared = plain_parts c.in_ok-parts.parts around c.parts_of.new.tables in
    let once = declared_once i.name i.at first.region.symbols.entries in
    let within = parts_faults i.name operations hidden place t in
    let ends = right_name_at_end i.name node.end_name in
    let noted_all = noted_then old f1 new once (within ++ ends) c.declared_once-once.ensures.noted (noted_then f1 f2 new within ends c.in_ok-parts.ensures.noted c.right_name_at_end.ensures) in
    let b = c.in_ok-parts-2 in
    let e = c.in_ok-entries in
    let k = c.in_ok-entries-2 in
    let m = c.in_ok-entries-3 in
    let own = c.name_all-named.new.region in
    let region : plain_region own ≡ with_object_parts x.around.parts (with_object i (next_object t) (plain_region first.region)) =
    subst (λ r. OnOk r (plain_region own ≡ with_object_parts around.parts.items (with_object i number (plain_region first.region)))) b.ensures.next c.name_all-named.ensures ∙ ap (λ n. with_object_parts around.parts.items (with_object i n (plain_region first.region))) c.next_object-number.ensures in
    let all = c.elaborate_object-elaborated.new.elaborations in
    let next : DeclarativePart = record { region = own; elaborations = all } in
    let elaborated : plain_typed_statements all.items ≡ plain_typed_statements first.elaborations.items ++ declare_object node.at (next_object t) x.values ∷ [] =
    subst (λ r. OnOk r (plain_typed_statements all.items ≡ plain_typed_statements first.elaborations.items ++ declare_object node.at number (plain_values b.parts.values.items) ∷ [])) e.ensures.next c.elaborate_object-elaborated.ensures
    ∙ ap (λ (p : ObjectParts). plain_typed_statements first.elaborations.items ++ declare_object node.at number (plain_values p.values.items) ∷ []) b.ensures.first
    ∙ ap (λ n. plain_typed_statements first.elaborations.items ++ declare_object node.at n x.values ∷ []) c.next_object-number.ensures in
    let end = plain_tables c.keep_object.new.self in
    let cloned : m.name ≡ i.name = subst (λ r. IfOk r (λ l. l ≡ i.name)) m.ensures.next c.try_clone-name.ensures in
    let listed : m.entries.items ≡ x.entries = ap (λ (v : Vec ℕ Global × Vec Named Global). v.0.items) m.ensures.first ∙ ap (λ (v : Vec ℕ Global). v.items) (k.ensures.first ∙ e.ensures.first) ∙ ap (λ (p : ObjectParts). p.entries.items) b.ensures.first in
    let shown : plain_named_region m.components ≡ shown_names x.own.symbols =
    ap (λ (v : Vec ℕ Global × Vec Named Global). plain_named_region v.1) m.ensures.first
    ∙ subst (λ r. IfOk r (λ names. plain_named_region names ≡ shown_names b.parts.own.symbols.entries)) k.ensures.next c.names_of-components.ensures
    ∙ ap (λ (p : ObjectParts). shown_names p.own.symbols.entries) b.ensures.first in
    let leveled : b.parts.own.level ≡ x.own.level = ap (λ (p : ObjectParts). p.own.level) b.ensures.first in
    let r = c.keep_object.result in
    let kept : OnOk r (end ≡ object_kept i.name x.own.level (shown_names x.own.symbols) x.entries x.tables) =
    subst (λ l. OnOk r (end ≡ object_kept l x.own.level (shown_names x.own.symbols) x.entries x.tables)) cloned
    (subst (λ n. OnOk r (end ≡ object_kept m.name n (shown_names x.own.symbols) x.entries x.tables)) leveled
    (subst (λ l. OnOk r (end ≡ object_kept m.name b.parts.own.level l x.entries x.tables)) shown
    (subst (λ l. OnOk r (end ≡ object_kept m.name b.parts.own.level (plain_named_region m.components) l x.tables)) listed c.keep_object.ensures))) in
    declares_object c.keep_object.result old new outer first next t end node.at i operations hidden node.end_name x c.in_ok-parts.ensures.declared noted_all region elaborated kept
