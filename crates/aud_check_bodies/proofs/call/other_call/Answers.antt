use Rattle.std.specs.Prelude.{◌++◌, IfOk}
use Rattle.std.proofs.Common.{◌≡◌, sym, ap, subst, ◌∙◌}
use Rattle.aud_text.specs.declared.place.Pos.{Pos}
use Rattle.aud_syntax.specs.declared.tree.Name.{out-Name}
use Rattle.aud_syntax.specs.Plain.{Args}
use Rattle.aud_syntax.specs.Ties.View.{plain_name}
use Rattle.aud_typed.specs.Ties.View.{plain_statement}
use Rattle.aud_fault.specs.Least.{noted}
use Rattle.aud_names.specs.Resolution.{name_ident, last_args}
use Rattle.aud_typing.specs.Expressions.{Typed, Checked, checked_arguments}
use Rattle.aud_check_bodies.specs.Calls.{callee_faults, called}
use Rattle.aud_typing.specs.Ties.Typing.{plain_typed, in_box}
use Rattle.aud_typing.proofs.Notes.{noted_then, leaves}
use Rattle.aud_typing.proofs.Opened.{name_begins}
use Rattle.aud_check_bodies.proofs.call.other_call.Goals as goal

pub returns : goal.returns
returns c =
    let n = plain_name c.args.name.now in
    let d = c.args.denoted in
    let checked : Checked = checked_arguments n c.args.scope.now in
    let mid = c.arguments.new.faults in
    let given = plain_typed c.in_ok-arguments.field-0.value in
    let last = callee_faults d.meaning (last_args n) d.at checked.typed in
    let rest = (rw c.into_inner-last.ensures at c.check_callee.ensures)
    ∙ ap (λ (xs : Args). noted mid (callee_faults d.meaning xs d.at given)) c.last_args.ensures
    ∙ ap (λ (x : Typed). noted mid (callee_faults d.meaning (last_args n) d.at x)) c.in_ok-arguments.ensures.1 in
    let noted_all = noted_then c.args.faults.now mid c.check_callee.new.faults checked.faults last c.in_ok-arguments.ensures.0 rest in
    let same = ap (λ (x : Typed). called d.meaning (out-Name c.args.name.now).first.ident.at x) c.in_ok-arguments.ensures.1 ∙ ap (λ (p : Pos). called d.meaning p checked.typed) (sym (name_begins c.args.name.now)) in
    let made = ap (λ v. called d.meaning (out-Name c.args.name.now).first.ident.at (plain_typed v)) c.into_inner-last.ensures ∙ same in
    leaves (in_box plain_statement) c.called.result c.args.faults.now c.check_callee.new.faults (checked.faults ++ last) (called d.meaning (name_ident n).at checked.typed) noted_all (subst (λ z. IfOk c.called.result (λ b. plain_statement b.value ≡ z)) made c.called.ensures)
