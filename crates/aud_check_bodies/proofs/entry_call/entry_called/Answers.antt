use Rattle.std.specs.Prelude.{List, ◌++◌, Ok}
use Rattle.std.proofs.Common.{ap, subst, ◌∙◌}
use Rattle.aud_syntax.specs.Ties.View.{plain_name}
use Rattle.aud_fault.specs.declared.fault.Fault.{Fault}
use Rattle.aud_fault.specs.Least.{noted}
use Rattle.aud_names.specs.declared.names.NamedParameter.{NamedParameter}
use Rattle.aud_names.specs.Resolution.{last_args}
use Rattle.aud_typing.specs.Expressions.{Checked}
use Rattle.aud_typing.specs.Ties.Typing.{plain_typed, Leaves}
use Rattle.aud_check_bodies.specs.Arguments.{all_passed, arguments_faults}
use Rattle.aud_check_bodies.specs.Calls.{index_checked, called_owner, called_with, owner_faults}
use Rattle.aud_check_bodies.specs.Tables.{entry_profile_of}
use Rattle.aud_check_bodies.specs.Ties.Passed.{plain_all_passed, plain_maybe_whose}
use Rattle.aud_check_bodies.specs.Ties.Tables.{plain_tables}
use Rattle.aud_typing.proofs.Notes.{noted_then}
use Rattle.aud_check_bodies.proofs.entry_call.entry_called.Goals as goal

pub returns : goal.returns
returns c =
    let n = plain_name c.args.name.now in
    let place = c.args.scope.now in
    let e = c.args.entry in
    let at = c.args.at in
    let index : Checked = index_checked e.owner n place in
    let f0 = c.check_owner.new.faults in
    let f1 = c.index.new.faults in
    let f2 = c.all_given.new.faults in
    let given = c.entry_profile-profile.result.now in
    let profile : List NamedParameter = entry_profile_of e.number (plain_tables c.args.tables.now) in
    let b = c.in_ok-whose in
    let passed : Leaves plain_all_passed (Ok b.passed) f1 f2 (arguments_faults given n at place) (all_passed given (last_args n) place) =
    subst (λ r. Leaves plain_all_passed r f1 f2 (arguments_faults given n at place) (all_passed given (last_args n) place)) b.ensures.next c.all_given.ensures in
    let last : List Fault = arguments_faults profile n at place in (
      noted_then c.args.faults.now f0 f2 (owner_faults e.owner at) (index.faults ++ last) c.check_owner.ensures (noted_then f0 f1 f2 index.faults last c.in_ok-index.ensures.0 (passed.0 ∙ ap (λ l. noted f1 (arguments_faults l n at place)) c.entry_profile-profile.ensures)),
      c.called_with.ensures ∙ ap (λ x. called_with e.number (plain_maybe_whose x) (plain_all_passed b.passed)) b.ensures.first
          ∙ ap (λ x. called_with e.number x (plain_all_passed b.passed)) (c.called_owner-whose.ensures ∙ ap (λ x. called_owner e.owner (plain_typed x)) c.into_inner.ensures ∙ ap (called_owner e.owner) c.in_ok-index.ensures.1)
          ∙ ap (called_with e.number (called_owner e.owner index.typed)) (passed.1 ∙ ap (λ l. all_passed l (last_args n) place) c.entry_profile-profile.ensures),
    )
