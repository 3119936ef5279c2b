use Rattle.std.proofs.Common.{◌||◌, ap, sym, ◌∙◌}
use Rattle.aud_meaning.specs.Parts.{on_own}
use Rattle.aud_meaning.specs.Tasks as effect
use Rattle.aud_code.specs.Control.{going}
use Rattle.aud_masters.proofs.activation.end_activation.Goals as goal

pub returns-in-Some : goal.returns-in-Some
returns-in-Some c = λ plan barrier.
    let go = going c.args.code.now in
    let m = c.in-Some.activator in
    c.look.ensures plan barrier
    ∙ ap (λ s. effect.activator_looks go plan barrier m s) (c.note_failure.ensures ∙ ap (on_own m (λ own. record own { failed = own.failed || c.args.failed })) c.not_awaited.ensures)
    ∙ ap (λ a. effect.activation_ended_by go plan barrier a c.args.failed c.args.task c.args.state.now) (sym c.in-Some.is ∙ c.activator.ensures)
