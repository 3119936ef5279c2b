use Rattle.std.specs.Prelude.{Bool, None, ◌++◌}
use Rattle.std.proofs.Common.{◌≡◌, sym, ap, ◌∙◌}
use Rattle.aud_text.specs.declared.place.Pos.{Pos}
use Rattle.aud_syntax.specs.declared.tree.Name.{out-Name}
use Rattle.aud_syntax.specs.Ties.View.{plain_name}
use Rattle.aud_typed.specs.Ties.View.{plain_statement}
use Rattle.aud_fault.specs.Least.{noted}
use Rattle.aud_names.specs.Resolution.{name_ident, last_args}
use Rattle.aud_names.specs.Rules.{no_change_within_function}
use Rattle.aud_check_bodies.specs.Arguments.{all_passed, arguments_faults}
use Rattle.aud_check_bodies.specs.Calls.{may_change, operation_called}
use Rattle.aud_typing.proofs.Notes.{noted_then, leaves_box}
use Rattle.aud_typing.proofs.Opened.{name_begins}
use Rattle.aud_check_bodies.proofs.call.operation_call.Goals as goal

pub returns : goal.returns
returns c =
    let n = plain_name c.args.name.now in
    let o = c.args.operation in
    let at = c.args.at in
    let old = c.args.faults.now in
    let mid = c.no_change_within_function.new.faults in
    let begin = (out-Name c.args.name.now).first.ident.at in
    let passed = all_passed c.args.profile.now (last_args n) c.args.scope.now in
    let first = no_change_within_function (may_change o.instance) at in
    let last = arguments_faults c.args.profile.now n at c.args.scope.now in
    let changed : mid ≡ noted old first = c.no_change_within_function.ensures ∙ ap (λ (b : Bool). noted old (no_change_within_function b at)) c.may_change.ensures in
    let noted_all = noted_then old mid c.all_given.new.faults first last changed c.in_ok-passed.ensures.0 in
    let same = c.operation_called-statement.ensures ∙ ap (operation_called o None begin) c.in_ok-passed.ensures.1 ∙ ap (λ (p : Pos). operation_called o None p passed) (sym (name_begins c.args.name.now)) in
    leaves_box plain_statement c.boxed.result old c.all_given.new.faults (first ++ last) c.operation_called-statement.result (operation_called o None (name_ident n).at passed) noted_all c.boxed.ensures same
