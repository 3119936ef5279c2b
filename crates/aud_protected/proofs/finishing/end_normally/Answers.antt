use Rattle.std.proofs.Common.{None, ap, sym, ◌∙◌}
use Rattle.aud_meaning.specs.Configuration.{All}
use Rattle.aud_meaning.specs.Parts.{succeeds}
use Rattle.aud_meaning.specs.Tasks as effect
use Rattle.aud_code.specs.Control.{going}
use Rattle.aud_code.specs.Places.{Spot}
use Rattle.aud_protected.proofs.finishing.end_normally.Goals as goal

pub returns-in-None : goal.returns-in-None
returns-in-None c = λ plan barrier.
    let go = going c.args.code.now in
    c.succeed.ensures plan barrier
    ∙ ap (λ vs. effect.end_call go plan barrier (succeeds vs) c.args.id c.args.state.now) c.deref.ensures.value
    ∙ ap (λ a. effect.entry_ended go plan barrier None a c.args.values.items c.args.object c.args.id c.args.state.now) (sym c.in-None.is)

pub returns-in_ok-queue_again-in-Some : goal.returns-in_ok-queue_again-in-Some
returns-in_ok-queue_again-in-Some c = λ plan barrier.
    let go = going c.args.code.now in
    c.in_ok-queue_again-in-Some.ensures plan barrier
    ∙ ap (λ (s : All Spot). effect.queued_again go plan barrier c.args.object c.args.id s) (c.in_ok-retarget_call-in-Some.ensures go plan barrier)
    ∙ ap (λ a. effect.entry_ended go plan barrier None a c.args.values.items c.args.object c.args.id c.args.state.now) (sym c.in-Some.is)
