use Rattle.std.proofs.Common.{ap, sym, ◌∙◌}
use Rattle.aud_meaning.specs.Configuration.{All}
use Rattle.aud_meaning.specs.Parts.{call_of, on_own}
use Rattle.aud_meaning.specs.Tasks as effect
use Rattle.aud_code.specs.Control.{going}
use Rattle.aud_code.specs.Places.{Spot}
use Rattle.aud_store.specs.Ties.Stored.{plain_open}
use Rattle.aud_state.specs.View.{leaves_accept}
use Rattle.aud_rendezvous.proofs.ending.finish.Goals as goal

pub returns-in_ok-end-in-None : goal.returns-in_ok-end-in-None
returns-in_ok-end-in-None c = λ plan barrier saved backs.
    let go = going c.args.code.now in
    let id = c.args.id in
    let n = c.args.n in
    let old = c.args.state.now in
    let alternative = c.args.alternative in
    let left = on_own n leaves_accept old in
    c.in_ok-end-in-None.ensures plan barrier
    ∙ ap (λ (s : All Spot). effect.accept_ended go plan barrier alternative c.again-again.result c.in_ok-values-in-None.values.items id n s) c.close_accept.ensures
    ∙ ap (λ vs. effect.accept_ended go plan barrier alternative c.again-again.result vs id n left) (c.in_ok-values-in-None.ensures go plan barrier)
    ∙ ap (λ a. effect.accept_ended go plan barrier alternative a (effect.present_values go plan barrier id c.args.inner.frame old) id n left) c.again-again.ensures
    ∙ ap (λ p. effect.at_accept_end go plan barrier alternative p id (plain_open c.args.inner saved backs) n old) (sym c.in-None.is)

pub returns-in-Some : goal.returns-in-Some
returns-in-Some c = λ plan barrier saved backs.
    let go = going c.args.code.now in
    let id = c.args.id in
    let n = c.args.n in
    let p = c.in-Some.pending in
    c.caller_fails.ensures plan barrier
    ∙ ap (λ (s : All Spot). effect.caller_fails go plan barrier id (call_of id s) p.exception s) c.close_accept_raising.ensures
    ∙ ap (λ q. effect.at_accept_end go plan barrier c.args.alternative q id (plain_open c.args.inner saved backs) n c.args.state.now) (sym c.in-Some.is)
