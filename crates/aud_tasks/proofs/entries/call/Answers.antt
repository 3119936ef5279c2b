use Rattle.std.proofs.Common.{ℤ, List, [], false, get_or, ap, ◌∙◌}
use Rattle.aud_typed.specs.Ties.View.{milliseconds_in, plain_program}
use Rattle.aud_meaning.specs.declared.state.CallState.TheVariants.{Selected}
use Rattle.aud_meaning.specs.declared.state.Form.{Form}
use Rattle.aud_meaning.specs.declared.state.Owner.TheVariants as owner
use Rattle.aud_meaning.specs.Configuration.{Back, Call}
use Rattle.aud_code.specs.Control.{going}
use Rattle.aud_code.specs.Flat.{barrier_at}
use Rattle.aud_code.specs.Eval.{form_in}
use Rattle.aud_code.specs.View.{plain_kind}
use Rattle.aud_state.specs.Fast.{scene}
use Rattle.aud_tasks.proofs.StepLaws.Entering.{makes}
use Rattle.aud_tasks.proofs.Results.{on_ok}
use Rattle.aud_tasks.proofs.entries.call.Goals as goal

pub returns : goal.returns
returns c = on_ok c.call.result _ _ c.call.ensures (λ h.
    let barrier = barrier_at c.args.compiled.code.now in
    let plan = (plain_program c.args.compiled.program.now).plan in
    let o = c.args.operands.now in
    let kind = plain_kind c.args.kind in
    let task = get_or c.names.result.now 0 0 in
    let made : List ℤ → List Back → Form → Call = λ values backs form. record { caller = c.args.n; owner = owner.Task task; entry = c.args.entry; arrival = 0; values = values; unseen = []; backs = backs; form = form; stays = false; at = c.args.at; state = Selected } in
    let same =
    ap (λ v. made v c.in_ok-copy_backs.field-0.items c.in_ok-form.form) (c.in_ok-copy_values.ensures ∙ c.values.ensures)
    ∙ ap (λ b. made o.values b c.in_ok-form.form) (c.in_ok-copy_backs.ensures ∙ c.backs.ensures)
    ∙ ap (λ f. made o.values o.backs f) (c.in_ok-form.ensures ∙ ap (λ k. form_in kind k (milliseconds_in c.delay.result)) c.clock.ensures.value ∙ ap (form_in kind c.args.state.now.clock) c.delay.ensures) in
    h plan barrier
    ∙ makes (going c.args.compiled.code.now) plan barrier c.args.compiled.limits c.args.alternative c.args.n c.args.entry kind c.args.at (scene c.args.n c.args.state.now) o task _ c.args.state.now c.requires (ap (λ ns. get_or ns 0 0) c.names.ensures) same)
