use Rattle.std.proofs.Common.{ap, sym, ◌∙◌}
use Rattle.aud_meaning.specs.Configuration.{All}
use Rattle.aud_meaning.specs.Parts.{succeeds}
use Rattle.aud_meaning.specs.Tasks as effect
use Rattle.aud_code.specs.Control.{going}
use Rattle.aud_code.specs.Places.{Spot}
use Rattle.aud_rendezvous.proofs.ending.end.Goals as goal

pub returns-in-None : goal.returns-in-None
returns-in-None c = λ plan barrier.
    let go = going c.args.code.now in
    c.succeed.ensures plan barrier
    ∙ ap (λ vs. effect.end_call go plan barrier (succeeds vs) c.args.id c.args.state.now) c.deref.ensures.value
    ∙ ap (λ a. effect.accept_ended go plan barrier c.args.alternative a c.args.values.items c.args.id c.args.n c.args.state.now) (sym c.in-None.is)

pub returns-in_ok-requeue-in-Some : goal.returns-in_ok-requeue-in-Some
returns-in_ok-requeue-in-Some c = λ plan barrier.
    let go = going c.args.code.now in
    let r = c.in-Some.again in
    c.in_ok-requeue-in-Some.ensures plan barrier
    ∙ ap (λ (s : All Spot). effect.requeued_on go plan barrier c.args.alternative r.owner r.at c.args.id c.args.n s) (c.in_ok-retarget_call-in-Some.ensures go plan barrier)
    ∙ ap (λ a. effect.accept_ended go plan barrier c.args.alternative a c.args.values.items c.args.id c.args.n c.args.state.now) (sym c.in-Some.is)
