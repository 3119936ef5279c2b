use Rattle.std.proofs.Common.{not, ap, ◌∙◌}
use Rattle.aud_meaning.specs.declared.state.CallState.TheVariants.{Selected}
use Rattle.aud_meaning.specs.declared.state.Form.{Form}
use Rattle.aud_meaning.specs.Configuration as meaning
use Rattle.aud_meaning.specs.Tasks as effect
use Rattle.aud_calls.specs.View.{plain_call}
use Rattle.aud_calls.proofs.calls.Call.retarget.Goals as goal

pub returns-clause-does : goal.returns-clause-does
returns-clause-does c = λ go plan barrier.
    let r = c.args.again in
    let made : Form → meaning.Call → meaning.Call = λ form a. record a { entry = r.entry; form = form; stays = not r.with_abort; state = Selected } in
    ap (λ (f : Form). made f (plain_call c.set_values.new.self)) (c.form_again-self.ensures go plan barrier)
    ∙ ap (λ (a : meaning.Call). made (effect.form_again go plan barrier a.form) a) (c.set_values.ensures go plan barrier)
