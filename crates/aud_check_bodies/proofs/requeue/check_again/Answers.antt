use Rattle.std.specs.Prelude.{List, ◌++◌}
use Rattle.std.proofs.Common.{◌≡◌, ap, sym, ◌∙◌}
use Rattle.aud_syntax.specs.declared.tree.Ident.{Ident}
use Rattle.aud_syntax.specs.declared.tree.Name.{out-Name}
use Rattle.aud_syntax.proofs.Opened.{name_open}
use Rattle.aud_syntax.specs.Ties.View.{plain_name}
use Rattle.aud_fault.specs.declared.fault.Fault.{Fault}
use Rattle.aud_fault.specs.Least.{noted}
use Rattle.aud_names.specs.declared.names.NamedParameter.{NamedParameter}
use Rattle.aud_names.specs.Names.{declaring}
use Rattle.aud_names.specs.Resolution.{name_ident}
use Rattle.aud_names.specs.Rules.{formals_conform, in_own_object, declared_outside}
use Rattle.aud_check_bodies.specs.Requeues.{may_take, is_inside_object, is_outside}
use Rattle.aud_check_bodies.specs.Tables.{entry_profile_of}
use Rattle.aud_check_bodies.specs.Ties.Tables.{plain_tables}
use Rattle.aud_typing.proofs.Notes.{noted_then}
use Rattle.aud_check_bodies.proofs.requeue.check_again.Goals as goal

pub returns : goal.returns
returns c =
    let n = plain_name c.args.name.now in
    let e = c.args.entry in
    let at = c.args.at in
    let given : List NamedParameter = c.args.profile.now in
    let object = c.args.object in
    let old = c.args.faults.now in
    let f0 = c.formals_conform.new.faults in
    let f1 = c.in_own_object.new.faults in
    let f2 = c.declared_outside.new.faults in
    let profile : List NamedParameter = entry_profile_of e.number (plain_tables c.args.tables.now) in
    let conforming : List Fault = formals_conform (may_take profile given) at in
    let own : List Fault = in_own_object (is_inside_object object e.owner) at in
    let outside : List Fault = declared_outside (is_outside object e.owner (declaring (name_ident n).name c.args.scope.now.regions)) at in
    let first : f0 ≡ noted old conforming =
    c.formals_conform.ensures ∙ ap (λ b. noted old (formals_conform b at)) (c.may_take.ensures ∙ ap (λ (l : List NamedParameter). may_take l given) c.entry_profile-target.ensures) in
    let second : f1 ≡ noted f0 own = c.in_own_object.ensures ∙ ap (λ b. noted f0 (in_own_object b at)) c.is_inside_object.ensures in
    let begins : name_ident n ≡ (out-Name c.args.name.now).first.ident = ap name_ident (name_open c.args.name.now) in
    let third : f2 ≡ noted f1 outside =
    c.declared_outside.ensures ∙ ap (λ b. noted f1 (declared_outside b at)) (c.is_outside-outside.ensures ∙ ap (λ (i : Ident). is_outside object e.owner (declaring i.name c.args.scope.now.regions)) (sym begins)) in
    noted_then old f0 f2 conforming (own ++ outside) first (noted_then f0 f1 f2 own outside second third)
