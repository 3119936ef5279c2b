use Rattle.std.specs.Prelude.{List, map}
use Rattle.std.proofs.Common.{◌≡◌, ap, ◌∙◌}
use Rattle.aud_syntax.specs.Ties.View.{plain_formal}
use Rattle.aud_fault.specs.declared.fault.Fault.{Fault}
use Rattle.aud_fault.specs.Least.{noted}
use Rattle.aud_names.specs.Names.{visible}
use Rattle.aud_names.specs.Ties.Regions.{plain_region, plain_regions}
use Rattle.aud_check_bodies.specs.Accepts.{accept_formals, accepted_faults, entry_meant}
use Rattle.aud_check_bodies.specs.Formals.{Formals, checked_formals}
use Rattle.aud_check_bodies.specs.Ties.Tables.{plain_tables}
use Rattle.aud_typing.proofs.Notes.{noted_then}
use Rattle.aud_check_bodies.proofs.accept.accept_head.Goals as goal

pub returns-clause-region : goal.returns-clause-region
returns-clause-region c =
    let fs = map plain_formal c.args.source.now in
    let place = c.args.scope.now in
    let frame = plain_region c.in_ok-region.region in
    let same : checked_formals fs frame (plain_regions c.deref.result.now) ≡ accept_formals fs place =
    ap (λ rs. checked_formals fs frame (plain_regions rs)) c.deref.ensures.value ∙ ap (checked_formals fs frame) c.in_ok-regions.ensures ∙ ap (λ r. checked_formals fs r place.regions) c.in_ok-region.ensures in
    c.in_ok-profile.ensures.1 ∙ ap (λ (x : Formals). x.region) same

pub returns-clause-profile : goal.returns-clause-profile
returns-clause-profile c =
    let fs = map plain_formal c.args.source.now in
    let place = c.args.scope.now in
    let frame = plain_region c.in_ok-region.region in
    let same : checked_formals fs frame (plain_regions c.deref.result.now) ≡ accept_formals fs place =
    ap (λ rs. checked_formals fs frame (plain_regions rs)) c.deref.ensures.value ∙ ap (checked_formals fs frame) c.in_ok-regions.ensures ∙ ap (λ r. checked_formals fs r place.regions) c.in_ok-region.ensures in
    c.in_ok-profile.ensures.2 ∙ ap (λ (x : Formals). x.profile) same

pub returns-clause-entry : goal.returns-clause-entry
returns-clause-entry c = c.entry_meant-entry.ensures ∙ ap entry_meant c.visible-meaning.ensures

pub returns-clause-noted : goal.returns-clause-noted
returns-clause-noted c =
    let i = c.args.name.now in
    let fs = map plain_formal c.args.source.now in
    let place = c.args.scope.now in
    let within = c.args.within.now in
    let t = plain_tables c.args.tables.now in
    let frame = plain_region c.in_ok-region.region in
    let f = accept_formals fs place in
    let same : checked_formals fs frame (plain_regions c.deref.result.now) ≡ f =
    ap (λ rs. checked_formals fs frame (plain_regions rs)) c.deref.ensures.value ∙ ap (checked_formals fs frame) c.in_ok-regions.ensures ∙ ap (λ r. checked_formals fs r place.regions) c.in_ok-region.ensures in
    let f1 = c.formals.new.faults in
    let m = visible i.name place in
    let rest : List Fault = accepted_faults m i.at f.profile within place t in
    let first : f1 ≡ noted c.args.faults.now f.faults = c.in_ok-profile.ensures.0 ∙ ap (λ (x : Formals). noted c.args.faults.now x.faults) same in
    let second : c.check_accepted.new.faults ≡ noted f1 rest =
    c.check_accepted.ensures ∙ ap (λ x. noted f1 (accepted_faults x i.at c.deref-2.result.now within place t)) c.visible-meaning.ensures
    ∙ ap (λ l. noted f1 (accepted_faults m i.at l within place t)) (c.deref-2.ensures.value ∙ c.in_ok-profile.ensures.2 ∙ ap (λ (x : Formals). x.profile) same) in
    noted_then c.args.faults.now f1 c.check_accepted.new.faults f.faults rest first second
