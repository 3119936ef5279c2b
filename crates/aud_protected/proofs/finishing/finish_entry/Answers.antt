use Rattle.std.proofs.Common.{ap, ◌∙◌}
use Rattle.aud_meaning.specs.Configuration.{All}
use Rattle.aud_meaning.specs.Parts.{on_own}
use Rattle.aud_meaning.specs.Tasks as effect
use Rattle.aud_code.specs.Control.{going}
use Rattle.aud_code.specs.Places.{Spot}
use Rattle.aud_state.specs.View.{goes_back}
use Rattle.aud_protected.proofs.finishing.finish_entry.Goals as goal

pub returns-clause-does : goal.returns-clause-does
returns-clause-does g c = λ saved backs.
    let go = going c.args.code.now in
    let plan = g.B.Barriers.plan c.args.barriers.now in
    let barrier = g.B.Barriers.barrier c.args.barriers.now in
    let object = c.args.object in
    let n = c.args.n in
    let old = c.args.state.now in
    let id = c.args.id in
    let at = c.args.inner.at in
    let p = c.args.pending in
    let back = on_own n (goes_back c.args.resumed) old in
    c.in_ok-service.ensures.does
    ∙ ap (λ (s : All Spot). effect.serviced go plan barrier object at n s) (c.in_ok-end_call.ensures plan barrier)
    ∙ ap (λ (s : All Spot). effect.serviced go plan barrier object at n (effect.entry_ended go plan barrier p c.again-again.result c.in_ok-values.values.items object id s)) c.go_back.ensures
    ∙ ap (λ vs. effect.serviced go plan barrier object at n (effect.entry_ended go plan barrier p c.again-again.result vs object id back)) (c.in_ok-values.ensures go plan barrier)
    ∙ ap (λ a. effect.serviced go plan barrier object at n (effect.entry_ended go plan barrier p a (effect.present_values go plan barrier id c.args.inner.frame old) object id back)) c.again-again.ensures
