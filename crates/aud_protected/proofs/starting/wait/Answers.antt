use Rattle.std.proofs.Common.{ap, sym, ◌∙◌}
use Rattle.aud_meaning.specs.Configuration.{All}
use Rattle.aud_meaning.specs.Tasks as effect
use Rattle.aud_code.specs.Control.{going}
use Rattle.aud_code.specs.Places.{Spot}
use Rattle.std.specs.Prelude.{Bool, if◌then◌else◌}
use Rattle.aud_meaning.specs.Parts.{arrives, cancels, end_action, on_task}
use Rattle.aud_state.specs.View.{resumes}
use Rattle.aud_protected.proofs.starting.wait.Goals as goal

pub returns-then-is_conditional-clause-does : goal.returns-then-is_conditional-clause-does
returns-then-is_conditional-clause-does g c =
    let go = going c.args.code.now in
    let plan = g.B.Barriers.plan c.args.barriers.now in
    let barrier = g.B.Barriers.barrier c.args.barriers.now in
    let object = c.args.object in
    let n = c.args.n in
    let old = c.args.state.now in
    let id = c.args.id in
    let conditional = c.is_conditional.ensures go plan barrier ∙ ap (effect.is_conditional go plan barrier) c.call_form.ensures in
    c.end_action.ensures
    ∙ ap (λ (s : All Spot). end_action n object s) c.cancel_call.ensures
    ∙ ap (λ (s : All Spot). end_action n object (cancels id s)) c.resume.ensures
    ∙ ap (λ (b : Bool). if b then end_action n object (cancels id (on_task n (resumes go 1) old)) else effect.serviced go plan barrier object c.args.at n (arrives id old)) (sym c.if-is_conditional.true ∙ conditional)

pub returns-clause-does : goal.returns-clause-does
returns-clause-does g c =
    let go = going c.args.code.now in
    let plan = g.B.Barriers.plan c.args.barriers.now in
    let barrier = g.B.Barriers.barrier c.args.barriers.now in
    let object = c.args.object in
    let n = c.args.n in
    let old = c.args.state.now in
    let id = c.args.id in
    let conditional = c.is_conditional.ensures go plan barrier ∙ ap (effect.is_conditional go plan barrier) c.call_form.ensures in
    c.in_ok-service.ensures.does
    ∙ ap (λ (s : All Spot). effect.serviced go plan barrier object c.args.at n s) c.in_ok-arrive.ensures
    ∙ ap (λ (b : Bool). if b then end_action n object (cancels id (on_task n (resumes go 1) old)) else effect.serviced go plan barrier object c.args.at n (arrives id old)) (sym c.if-is_conditional.false ∙ conditional)
