use Rattle.std.proofs.Common.{None, Some, length, ap, sym, ◌∙◌}
use Rattle.aud_meaning.specs.declared.state.CallState.TheVariants.{Selected}
use Rattle.aud_meaning.specs.Configuration.{All, for_accept}
use Rattle.aud_meaning.specs.Effects.{opens}
use Rattle.aud_meaning.specs.Parts.{alone, on_call, on_task, succeeds}
use Rattle.aud_meaning.specs.Tasks as effect
use Rattle.aud_code.specs.Control.{going}
use Rattle.aud_code.specs.Places.{Spot}
use Rattle.aud_state.specs.View.{begins_accept, resumes}
use Rattle.aud_rendezvous.proofs.accepting.meet.Goals as goal

pub returns-in_ok-values-in-None : goal.returns-in_ok-values-in-None
returns-in_ok-values-in-None c = λ plan barrier.
    let go = going c.args.code.now in
    let a = c.args.accept in
    let id = c.args.id in
    let n = c.args.n in
    let selected : All Spot = on_call id (λ call. record call { state = Selected }) c.args.state.now in
    c.succeed.ensures plan barrier
    ∙ ap (λ s. effect.end_call go plan barrier (succeeds c.deref.result.now) id s) c.resume.ensures
    ∙ ap (λ vs. effect.end_call go plan barrier (succeeds vs) id (on_task n (resumes go a.alternative) c.select_call.new.self)) (c.deref.ensures.value ∙ c.in_ok-values-in-None.ensures)
    ∙ ap (λ (s : All Spot). effect.rendezvous_by go plan barrier None a id n s) c.select_call.ensures
    ∙ ap (λ r. effect.rendezvous_by go plan barrier r a id n selected) (sym c.in-None.is)

pub returns-in_ok-open_accept-in-Some : goal.returns-in_ok-open_accept-in-Some
returns-in_ok-open_accept-in-Some c = λ plan barrier.
    let go = going c.args.code.now in
    let a = c.args.accept in
    let id = c.args.id in
    let n = c.args.n in
    let region = c.in-Some.region in
    let selected : All Spot = on_call id (λ call. record call { state = Selected }) c.args.state.now in
    c.in_ok-open_accept-in-Some.ensures
    ∙ ap (λ s. alone (λ t. opens (for_accept id) region a.at t.own.display c.deref-in-Some.result.now (length c.deref-in-Some.result.now) t) n s) c.accept_body.ensures
    ∙ ap (λ vs. alone (λ t. opens (for_accept id) region a.at t.own.display vs (length vs) t) n (on_task n (begins_accept go a.alternative) c.select_call.new.self)) (c.deref-in-Some.ensures.value ∙ c.in_ok-values-in-Some.ensures)
    ∙ ap (λ (s : All Spot). effect.rendezvous_by go plan barrier (Some region) a id n s) c.select_call.ensures
    ∙ ap (λ r. effect.rendezvous_by go plan barrier r a id n selected) (sym c.in-Some.is)
