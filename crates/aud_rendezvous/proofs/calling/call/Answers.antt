use Rattle.std.proofs.Common.{None, Some, ap, sym, ◌∙◌}
use Rattle.aud_meaning.specs.Parts.{in_action, is_callable, new_call, stands_at_call}
use Rattle.aud_meaning.specs.Tasks as effect
use Rattle.aud_code.specs.Control.{going}
use Rattle.aud_calls.specs.View.{made_call}
use Rattle.aud_rendezvous.proofs.Meeting.{called}
use Rattle.aud_rendezvous.proofs.calling.call.Goals as goal

pub returns-in_ok-wait-in-None : goal.returns-in_ok-wait-in-None
returns-in_ok-wait-in-None c = λ plan barrier.
    c.in_ok-wait-in-None.ensures plan barrier None c.args.task
    ∙ called (going c.args.code.now) plan barrier c.args.alternative None (made_call c.args.call) c.args.task c.args.state.now
    (sym c.if-in_action.false ∙ c.in_action.ensures) (sym c.if-not-is_callable.false ∙ c.is_callable.ensures) (sym c.in-None.is ∙ c.open_alternative.ensures)

pub returns-in_ok-meet-in-Some : goal.returns-in_ok-meet-in-Some
returns-in_ok-meet-in-Some c = λ plan barrier.
    let go = going c.args.code.now in
    let call = made_call c.args.call in
    let a = c.in-Some.accept in
    let task = c.args.task in
    c.in_ok-meet-in-Some.ensures plan barrier
    ∙ ap (λ s. effect.rendezvous go plan barrier a c.in_ok-id-in-Some.id task s) c.stand_at_call.ensures
    ∙ ap (λ s. effect.rendezvous go plan barrier a c.in_ok-id-in-Some.id task (stands_at_call call.caller c.in_ok-id-in-Some.id call.at s)) c.in_ok-id-in-Some.ensures.made
    ∙ ap (λ i. effect.rendezvous go plan barrier a i task (stands_at_call call.caller i call.at (new_call call c.args.state.now))) c.in_ok-id-in-Some.ensures.number
    ∙ called go plan barrier c.args.alternative (Some a) call task c.args.state.now
    (sym c.if-in_action.false ∙ c.in_action.ensures) (sym c.if-not-is_callable.false ∙ c.is_callable.ensures) (sym c.in-Some.is ∙ c.open_alternative.ensures)
