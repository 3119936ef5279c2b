use Rattle.std.specs.Prelude.{List, map}
use Rattle.std.proofs.Common.{◌≡◌, ap, ◌∙◌}
use Rattle.aud_syntax.specs.Plain as m
use Rattle.aud_syntax.specs.Ties.View.{plain_entry, plain_formal}
use Rattle.aud_names.specs.Names.{Region, Place}
use Rattle.aud_names.specs.Ties.Regions.{plain_region, plain_regions, plain_place}
use Rattle.aud_check_bodies.specs.Entries.{entry_formals}
use Rattle.aud_check_bodies.specs.Formals.{Formals, checked_formals}
use Rattle.aud_check_bodies.proofs.Declared.{formals_left}
use Rattle.aud_check_bodies.proofs.entry.entry_formals.Goals as goal

pub returns : goal.returns
returns c =
    let e = plain_entry c.args.entry.now in
    let own = plain_region c.args.own.now in
    let outer = plain_regions c.args.outer.now in
    let here : Place = plain_place c.args.own.now c.args.outer.now in
    let given : List m.Formal → List Region → Region → Formals = λ l rs r. checked_formals l r rs in
    let frame = plain_region c.in_ok-regions.region in
    let first = given (map plain_formal c.deref.result.now) (plain_regions c.deref-2.result.now) frame in
    let same : first ≡ entry_formals e own outer =
    ap (λ l. given (map plain_formal l) (plain_regions c.deref-2.result.now) frame) c.deref.ensures.value ∙ ap (λ rs. given e.formals (plain_regions rs) frame) c.deref-2.ensures.value
    ∙ ap (λ rs. given e.formals rs frame) c.in_ok-regions.ensures.regions ∙ ap (given e.formals here.regions) c.in_ok-regions.ensures.own in
    formals_left c.formals.result c.args.faults.now c.formals.new.faults c.formals.new.region first (entry_formals e own outer) same c.formals.ensures
