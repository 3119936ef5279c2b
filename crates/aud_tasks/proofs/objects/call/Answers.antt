use Rattle.std.proofs.Common.{ℕ, ℤ, List, [], false, ap, ◌∙◌}
use Rattle.aud_typed.specs.Ties.View.{milliseconds_in, plain_program}
use Rattle.aud_meaning.specs.declared.state.CallState.TheVariants.{Selected}
use Rattle.aud_meaning.specs.declared.state.Form.{Form}
use Rattle.aud_meaning.specs.declared.state.Owner.TheVariants as owner
use Rattle.aud_meaning.specs.Configuration.{Back, Call}
use Rattle.aud_meaning.specs.Tasks as effect
use Rattle.aud_code.specs.Control.{going}
use Rattle.aud_code.specs.Eval.{form_in}
use Rattle.aud_code.specs.Flat.{barrier_at}
use Rattle.aud_code.specs.View.{plain_kind}
use Rattle.aud_tasks.proofs.Ticking.{called_once}
use Rattle.aud_tasks.proofs.objects.call.Goals as goal

pub returns-clause-does : goal.returns-clause-does
returns-clause-does c = λ alternative.
    let plan = (plain_program c.args.compiled.program.now).plan in
    let code = c.args.compiled.code.now in
    let o = c.args.operands.now in
    let kind = plain_kind c.args.kind in
    let made : ℕ → List ℤ → List Back → Form → Call = λ object values backs form. record { caller = c.args.n; owner = owner.Object object; entry = c.args.entry; arrival = 0; values = values; unseen = []; backs = backs; form = form; stays = false; at = c.args.at; state = Selected } in
    let number = c.number_of-number.result in
    let same =
    ap (λ v. made number v c.in_ok-copy_backs.field-0.items c.in_ok-form.form) (c.in_ok-copy_values.ensures ∙ c.values.ensures)
    ∙ ap (λ b. made number o.values b c.in_ok-form.form) (c.in_ok-copy_backs.ensures ∙ c.backs.ensures)
    ∙ ap (λ f. made number o.values o.backs f) (c.in_ok-form.ensures ∙ ap (λ k. form_in kind k (milliseconds_in c.delay.result)) c.clock.ensures.value ∙ ap (form_in kind c.args.state.now.clock) c.delay.ensures) in
    (rw (c.new-barriers.ensures.code, c.new-barriers.ensures.program) at c.in_ok-call.ensures.does)
    ∙ ap (λ call. effect.calls_object (going code) plan (barrier_at code) call number c.args.state.now) same
    ∙ ap (λ object. effect.calls_object (going code) plan (barrier_at code) (made object o.values o.backs (form_in kind c.args.state.now.clock o.delay)) object c.args.state.now) c.number_of-number.ensures

pub returns-clause-few : goal.returns-clause-few
returns-clause-few c = called_once (plain_program c.args.compiled.program.now).plan (plain_program c.new-barriers.result.program.now).plan c.args.compiled.code.now c.new-barriers.result.code.now (ap (λ p. (plain_program p).plan) c.new-barriers.ensures.program) c.new-barriers.ensures.code c.args.entry c.ticks.result _ c.new-barriers.result.ticks c.new-barriers.ensures.none c.ticks.ensures c.in_ok-call.ensures.few
