use Rattle.std.specs.Prelude.{List, map, Option}
use Rattle.std.proofs.Common.{◌≡◌, ◌∙◌, ap}
use Rattle.aud_syntax.specs.Ties.View.{plain_formal}
use Rattle.aud_typed.specs.declared.program.Subtype.{Subtype}
use Rattle.aud_fault.specs.Least.{noted}
use Rattle.aud_names.specs.declared.names.NamedParameter.{NamedParameter}
use Rattle.aud_names.specs.Names.{Region}
use Rattle.aud_names.specs.Ties.Regions.{plain_region, plain_regions}
use Rattle.aud_typing.proofs.Notes.{noted_then}
use Rattle.aud_check_bodies.specs.Declarations.{subtype_faults, subtype_meant}
use Rattle.aud_check_bodies.specs.Formals.{Formals, checked_formals}
use Rattle.aud_check_bodies.specs.Objects.{result_meant}
use Rattle.aud_check_bodies.proofs.object.signature.Goals as goal

pub returns : goal.returns
returns c =
    let mark = c.args.mark.now in
    let outer = plain_regions c.args.outer.now in
    let f : Formals = checked_formals (map plain_formal c.args.list.now) (plain_region c.args.region) outer in
    let h = c.in_ok-profile.ensures in
    let old = c.args.faults.now in
    let mid = c.formals.new.faults in
    let new = c.result_mark-result.new.faults in
    let faulty = subtype_faults (result_meant mark f.region outer) mark.at in
    let told : new ≡ noted mid faulty = c.result_mark-result.ensures.noted ∙ ap (λ (r : Region). noted mid (subtype_faults (result_meant mark r outer) mark.at)) h.1 in
    let meant = c.result_mark-result.ensures.subtype ∙ ap (λ (r : Region). subtype_meant (result_meant mark r outer)) h.1 in (
      noted_then old mid new f.faults faulty h.0 told,
      ap (λ (l : List NamedParameter). (l, c.result_mark-result.result)) h.2 ∙ ap (λ (s : Option Subtype). (f.profile, s)) meant,
    )
