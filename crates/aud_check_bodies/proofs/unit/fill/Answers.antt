use Rattle.std.specs.Prelude.{ℕ, false, List, ◌++◌, Option, Result, Ok, Err, IfOk}
use Rattle.std.specs.declared.alloc.AllocError.{AllocError}
use Rattle.std.proofs.Common.{◌≡◌, ap, sym, subst, ◌∙◌}
use Rattle.aud_syntax.specs.Plain as m
use Rattle.aud_syntax.specs.Ties.View.{plain_declarations, plain_body}
use Rattle.aud_syntax.proofs.Opened.{body_open}
use Rattle.aud_typed.specs.Tree as tree
use Rattle.aud_typed.specs.Ties.View.{plain_body as plain_typed_body, plain_unit as plain_typed_unit}
use Rattle.aud_fault.specs.declared.fault.Fault.{Fault}
use Rattle.aud_fault.specs.Least.{noted}
use Rattle.aud_names.specs.Names.{Place, empty_region, place_in, main_place}
use Rattle.aud_names.specs.Rules.{program_named, right_name_at_end}
use Rattle.aud_check_bodies.specs.Tables.{Tables, Outcome, next_region, region_kept, unit_kept, with_unit}
use Rattle.aud_check_bodies.specs.Declarations.{Declared}
use Rattle.aud_check_bodies.specs.Tasks.{with_bodies}
use Rattle.aud_check_bodies.specs.Statements.{nothing_around, end_name, checked_declarations, checked_unit}
use Rattle.aud_check_bodies.specs.Programs.{main_tables, program_with}
use Rattle.aud_check_bodies.specs.Ties.DeclarativePart.{Enters}
use Rattle.aud_names.specs.Ties.Regions.{plain_regions, plain_place}
use Rattle.aud_check_bodies.specs.Ties.Tables.{plain_tables}
use Rattle.aud_check_bodies.specs.Ties.Arms.{plain_items}
use Rattle.aud_typing.specs.Ties.Typing.{Leaves}
use Rattle.aud_typing.proofs.Notes.{noted_then}
use Rattle.aud_check_bodies.proofs.Walked.{Is}
use Rattle.aud_check_bodies.proofs.Bodies.{entered_left, unit_left}
use Rattle.aud_check_bodies.proofs.unit.fill.Goals as goal

answered : (r : Result (List ℕ) AllocError) (old new : Option Fault) (fs : List Fault) (name : List ℕ) (t : Tables) (p : tree.Program) → new ≡ noted old fs → program_with name t ≡ p → IfOk r (λ n. n ≡ name) → Leaves (λ n. program_with n t) r old new fs p
answered (Ok n) old new fs name t p h k e = (h, ap (λ l. program_with l t) e ∙ k)
answered (Err e) old new fs name t p h k i = tt

pub returns : goal.returns
returns c =
    let node = c.args.node.now in
    let main = node.name in
    let old = c.args.faults.now in
    let named = c.program_named.new.faults in
    let declared = c.declared.new.faults in
    let stated = c.body_behind.new.faults in
    let new = c.right_name_at_end.new.faults in
    let kept = plain_tables c.keep_unit.new.self in
    let entry = plain_tables c.declared.new.tables in
    let u = plain_tables c.body_behind.new.tables in
    let outer = c.args.outer.now in
    let place : Place = main_place main.name in
    let source = plain_body node.body in
    let ds = plain_declarations node.declarations.items in
    let begun : kept ≡ main_tables =
    c.in_ok-keep_unit.ensures ∙ ap (λ p. unit_kept p (plain_tables c.args.tables.now)) c.new.ensures.items ∙ ap (unit_kept _) c.requires.tables in
    let placed : plain_place c.new-region.result outer ≡ place = ap (λ r. place_in r (plain_regions outer)) c.new-region.ensures ∙ ap (place_in (empty_region 0)) c.requires.regions in
    let part = c.in_ok-part.part in
    let body = plain_typed_body c.in_ok-body.body.value in
    let made = plain_typed_unit c.in_ok-main.main.value in
    let whole : Outcome tree.UnitBody = checked_unit false node.at main.name ds source place main_tables in
    let in_it : m.Declarations → Place → Tables → Outcome Declared = λ l z w. with_bodies (checked_declarations l z (region_kept w)) in
    let enters : Enters named declared outer part (next_region main_tables) entry (in_it ds place main_tables) =
    subst (λ w. Enters named declared outer part (next_region w) entry (in_it ds place w)) begun
    (subst (λ z. Enters named declared outer part (next_region kept) entry (in_it ds z kept)) placed
    (subst (λ l. Enters named declared outer part (next_region kept) entry (in_it (plain_declarations l) (plain_place c.new-region.result outer) kept)) c.deref.ensures.value c.in_ok-part.ensures)) in
    let entered = entered_left named declared stated main_tables entry u false ds source nothing_around place (plain_place part.region outer) (plain_items part.elaborations) body enters.0 enters.1 enters.2 enters.3 c.in_ok-body.ensures in
    let closed : new ≡ noted stated (right_name_at_end main.name (end_name source)) =
    c.right_name_at_end.ensures ∙ ap (λ z. noted stated (right_name_at_end main.name (end_name z))) (sym (body_open node.body)) in
    let unit : ℕ → tree.UnitBody = λ n. record { level = 0; region = n; is_function = false; at = node.at; body = body } in
    let checked : Is named new u made whole =
    unit_left named stated new main_tables u false node.at main.name ds source place body made entered closed (c.in_ok-main.ensures ∙ ap unit (c.next_region-number.ensures ∙ ap next_region begun)) in
    let final : Tables = plain_tables c.put_unit.new.self in
    let ended : final ≡ with_unit 0 whole.made whole.tables =
    c.put_unit.ensures ∙ ap (λ v. with_unit 0 (plain_typed_unit v) u) c.into_inner.ensures ∙ ap (λ v. with_unit 0 v u) checked.2 ∙ ap (with_unit 0 whole.made) checked.1 in
    let first = program_named main.name main.at in
    answered c.try_clone.result old new (first ++ whole.faults) main.name final (program_with main.name (with_unit 0 whole.made whole.tables)) (noted_then old named new first whole.faults c.program_named.ensures checked.0) (ap (program_with main.name) ended) c.try_clone.ensures
