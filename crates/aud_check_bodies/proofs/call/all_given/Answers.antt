use Rattle.std.proofs.Common.{◌≡◌, true, false, sym, ap, subst, ◌∙◌}
use Rattle.aud_syntax.specs.Plain.{Args}
use Rattle.aud_syntax.specs.Ties.View.{plain_name}
use Rattle.aud_names.specs.Resolution.{last_args}
use Rattle.aud_check_bodies.specs.Arguments.{are_as_many, all_passed, all_passed_faults}
use Rattle.aud_check_bodies.specs.Ties.Passed.{plain_all_passed}
use Rattle.aud_typing.specs.Ties.Typing.{Leaves}
use Rattle.aud_check_bodies.proofs.Passing.{none_passed}
use Rattle.aud_check_bodies.proofs.call.all_given.Goals as goal

pub returns-then-are_as_many : goal.returns-then-are_as_many
returns-then-are_as_many c =
    let n = plain_name c.args.name.now in
    let fs = c.args.profile.now in
    let enough : are_as_many fs (last_args n) ≡ true = ap (are_as_many fs) (sym c.last_args-args.ensures) ∙ sym c.are_as_many.ensures ∙ c.if-are_as_many.true in
    rw enough (subst (λ (xs : Args). Leaves plain_all_passed c.all_passed.result c.args.faults.now c.all_passed.new.faults (all_passed_faults fs xs c.args.scope.now) (all_passed fs xs c.args.scope.now)) c.last_args-args.ensures c.all_passed.ensures)

pub returns : goal.returns
returns c =
    let n = plain_name c.args.name.now in
    let fs = c.args.profile.now in
    let other : are_as_many fs (last_args n) ≡ false = ap (are_as_many fs) (sym c.last_args-args.ensures) ∙ sym c.are_as_many.ensures ∙ c.if-are_as_many.false in
    rw other (c.in_ok-wrongly_called.ensures, sym (none_passed fs (last_args n) c.args.scope.now other))
