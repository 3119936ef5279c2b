use Rattle.std.proofs.Common.{ap, sym, ◌∙◌}
use Rattle.aud_meaning.specs.Tasks as effect
use Rattle.aud_code.specs.Control.{going}
use Rattle.aud_protected.proofs.finishing.end_call.Goals as goal

pub returns-in_ok-end_normally-in-None : goal.returns-in_ok-end_normally-in-None
returns-in_ok-end_normally-in-None c = λ plan barrier.
    c.in_ok-end_normally-in-None.ensures plan barrier
    ∙ ap (λ p. effect.entry_ended (going c.args.code.now) plan barrier p c.args.again c.args.values.items c.args.object c.args.id c.args.state.now) (sym c.in-None.is)

pub returns-in-Some : goal.returns-in-Some
returns-in-Some c = λ plan barrier.
    c.caller_fails.ensures plan barrier
    ∙ ap (λ p. effect.entry_ended (going c.args.code.now) plan barrier p c.args.again c.args.values.items c.args.object c.args.id c.args.state.now) (sym c.in-Some.is)
