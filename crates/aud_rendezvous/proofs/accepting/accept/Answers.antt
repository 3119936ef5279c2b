use Rattle.std.proofs.Common.{ap, sym, ◌∙◌}
use Rattle.aud_meaning.specs.declared.state.Status.TheVariants.{Accepting}
use Rattle.aud_meaning.specs.Parts.{blocks, on_own, queue}
use Rattle.aud_meaning.specs.Tasks as effect
use Rattle.aud_code.specs.Control.{going}
use Rattle.aud_rendezvous.proofs.Meeting.{accepted, by_oldest}
use Rattle.aud_rendezvous.proofs.accepting.accept.Goals as goal

pub returns-in_ok-waits-in-None : goal.returns-in_ok-waits-in-None
returns-in_ok-waits-in-None c = λ plan barrier.
    let go = going c.args.code.now in
    let n = c.args.n in
    let a = c.args.accept in
    let old = c.args.state.now in
    c.wait.ensures
    ∙ ap (λ ws. on_own n (blocks Accepting a.at ws) old) c.in_ok-waits-in-None.ensures
    ∙ ap (λ o. by_oldest go plan barrier o a n old) (sym c.in-None.is ∙ c.first_queued.ensures)
    ∙ accepted go plan barrier a (queue n a.entry old.shared.calls) n old

pub returns-in_ok-meet-in-Some : goal.returns-in_ok-meet-in-Some
returns-in_ok-meet-in-Some c = λ plan barrier.
    let go = going c.args.code.now in
    let n = c.args.n in
    let a = c.args.accept in
    let old = c.args.state.now in
    c.in_ok-meet-in-Some.ensures plan barrier
    ∙ ap (λ o. by_oldest go plan barrier o a n old) (sym c.in-Some.is ∙ c.first_queued.ensures)
    ∙ accepted go plan barrier a (queue n a.entry old.shared.calls) n old
